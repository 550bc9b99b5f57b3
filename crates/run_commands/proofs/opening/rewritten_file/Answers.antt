use Rattle.std.proofs.Common.{subst}
use Rattle.world_io.specs.Texts.{PutsText, IsPutSurely}
use Rattle.world_io.specs.Buffers.{BufSinkState, told_of_buf}
use Rattle.elf_writer.specs.FileParts.{file_length}
use Rattle.elf_writer.specs.RewrittenFile.{rewritten_file}
use Rattle.elf_writer.specs.Writing.{is_done, listed}
use Rattle.run_commands.proofs.Opens.{parts-HoldsRewritten}
use Rattle.run_commands.proofs.opening.rewritten_file.Goals as goal

pub returns : goal.returns
returns c =
    let parts = c.in_ok-parts.parts in
    let end = c.write.new.sink in
    let whole = is_done c.write.result in
    let file = rewritten_file c.args.bytes.now parts.image parts.layout (listed parts) in
    parts-HoldsRewritten c.args.bytes.now c.args.regions c.args.version parts c.length.result end whole c.in_ok-parts.ensures.answer c.length.ensures
    (subst (λ (s : BufSinkState). IsPutSurely (told_of_buf s).room (file_length parts.image parts.layout) whole) c.in-Ok.ensures c.write.ensures.sure)
    (subst (λ (s : BufSinkState). PutsText (told_of_buf s) file whole (told_of_buf end)) c.in-Ok.ensures c.write.ensures.puts)
