use Rattle.elf_writer.specs.Writing.{listed}
use Rattle.rewriter.proofs.CodeLemmas.{IsCodeOf-image}
use Rattle.rewriter.proofs.parts.rewrite_as.Goals as goal

pub returns-in-Ok-clause-code : goal.returns-in-Ok-clause-code
returns-in-Ok-clause-code c =
    IsCodeOf-image c.args.bytes.now c.in_ok-image.image c.args.regions c.args.version c.in-Ok.parts.layout (listed c.in-Ok.parts)
    c.in_ok-image.ensures.image c.in-Ok.ensures.layout c.in-Ok.ensures.code
