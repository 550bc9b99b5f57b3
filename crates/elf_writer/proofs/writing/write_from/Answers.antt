use Rattle.std.proofs.Common.{◌≡◌, subst, sym}
use Rattle.world_io.specs.Texts.{IsPutSurely}
use Rattle.elf_writer.specs.RewrittenFile.{rewritten_file}
use Rattle.elf_writer.specs.Writing.{IfDone, is_done}
use Rattle.elf_writer.proofs.StreamLemmas.{puts-PutsBuffered, sure-PutsBuffered}
use Rattle.elf_writer.proofs.FileLemmas.{rewritten_file-length}
use Rattle.elf_writer.proofs.writing.write_from.Goals as goal

pub returns-clause-puts : goal.returns-clause-puts
returns-clause-puts g c =
    puts-PutsBuffered c.args.buffer.now.size (rewritten_file c.args.bytes.now c.args.image.now c.args.layout.now (g.C.CodeSource.code c.args.code.now)) (g.O.Sink.state c.args.sink.now) (g.O.Sink.state c.put_file.new.sink)
    (is_done c.put_file.result) c.put_file.ensures.buffered

pub returns-clause-length : goal.returns-clause-length
returns-clause-length g c =
    subst (λ n. IfDone c.put_file.result (λ k. k ≡ n)) (sym (rewritten_file-length c.args.bytes.now c.args.image.now c.args.layout.now (g.C.CodeSource.code c.args.code.now) c.requires.rewritable c.requires.code))
    c.put_file.ensures.length

pub returns-clause-known : goal.returns-clause-known
returns-clause-known g c = rewritten_file-length c.args.bytes.now c.args.image.now c.args.layout.now (g.C.CodeSource.code c.args.code.now) c.requires.rewritable c.requires.code

pub returns-clause-sure : goal.returns-clause-sure
returns-clause-sure g c =
    subst (λ n. IsPutSurely (g.O.Sink.state c.args.sink.now).room n (is_done c.put_file.result))
    (rewritten_file-length c.args.bytes.now c.args.image.now c.args.layout.now (g.C.CodeSource.code c.args.code.now) c.requires.rewritable c.requires.code)
    (sure-PutsBuffered c.args.buffer.now.size (rewritten_file c.args.bytes.now c.args.image.now c.args.layout.now (g.C.CodeSource.code c.args.code.now)) (g.O.Sink.state c.args.sink.now) (g.O.Sink.state c.put_file.new.sink)
    (is_done c.put_file.result) c.put_file.ensures.buffered)
