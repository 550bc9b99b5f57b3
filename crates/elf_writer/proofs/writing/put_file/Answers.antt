use Rattle.std.proofs.Common.{[]}
use Rattle.elf_writer.specs.Writing.{is_done}
use Rattle.elf_writer.proofs.StreamLemmas.{cleared-PutsBuffered, cleared_stop-PutsBuffered}
use Rattle.elf_writer.proofs.writing.put_file.Goals as goal

pub returns-in-Ok-clause-buffered : goal.returns-in-Ok-clause-buffered
returns-in-Ok-clause-buffered g c =
    cleared-PutsBuffered _ _ _ _ _ _ _ _ _ (is_done c.finish.result) c.clear.ensures.size c.clear.ensures.value c.in-Ok.ensures.size c.finish.ensures.few
    c.in-Ok.ensures.gives c.finish.ensures.puts

pub returns-in-Err-clause-buffered : goal.returns-in-Err-clause-buffered
returns-in-Err-clause-buffered g c =
    cleared_stop-PutsBuffered _ _ _ _ [] _ _ c.clear.ensures.size c.clear.ensures.value c.in-Err.ensures.gives
