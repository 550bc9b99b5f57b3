use Rattle.std.proofs.Common.{ap}
use Rattle.rewriter.specs.Sources.{code_from}
use Rattle.rewriter.proofs.CodeLemmas.{IsCodeOf-image}
use Rattle.rewriter.proofs.writing.put_image.Goals as goal

pub write_from-requires-clause-code : goal.write_from-requires-clause-code
write_from-requires-clause-code g c =
    IsCodeOf-image c.args.bytes.now c.args.image.now c.args.regions c.args.version c.layout_of-layout.result (code_from c.in_ok-code.code)
    c.requires.image c.layout_of-layout.ensures (ap code_from c.in_ok-code.ensures)
