use Rattle.std.proofs.Common.{◌∙◌}
use Rattle.uses.proofs.Slots.{nothing_read}
use Rattle.uses.proofs.files.read_nothing.Goals as goal

pub returns : goal.returns
returns c = c.after_read.ensures ∙ nothing_read c.args.files.now c.args.descriptor
