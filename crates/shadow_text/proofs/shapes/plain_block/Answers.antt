-- A word is the word of what it decodes to.
use Rattle.std.proofs.Common.{arith}
use Rattle.std.proofs.lemmas.Grind.{common_steps}
use Rattle.rv_decode.proofs.Encodes.{encodes_decoded}
use Rattle.shadow_text.proofs.shapes.plain_block.Goals as goal

pub returns : goal.returns
returns c = grind (arith, common_steps, encodes_decoded c.args.word c.ranges.word.fits c.requires)
