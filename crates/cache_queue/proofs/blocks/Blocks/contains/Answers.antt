use Rattle.std.proofs.Common.{◌∙◌}
use Rattle.cache_queue.proofs.Looks.{holds-shown}
use Rattle.cache_queue.proofs.blocks.Blocks.contains.Goals as goal

pub returns : goal.returns
returns c =
    rw (← c.self.view_is) (c.contains.ensures ∙ holds-shown c.self.inside.pool c.self.inside.frames.entries c.args.spot.now)
