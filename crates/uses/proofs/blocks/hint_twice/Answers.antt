use Rattle.std.proofs.Common.{◌∙◌, ap}
use Rattle.program_model.specs.Cache.{Cache, hinted}
use Rattle.cache_queue.specs.State.{lists}
use Rattle.uses.proofs.Hints.{hinted-twice}
use Rattle.uses.proofs.blocks.hint_twice.Goals as goal

pub returns : goal.returns
returns c =
    c.hint-2.ensures.lists
    ∙ ap (λ d. hinted d (lists c.hint.new.self) c.args.spot.now) c.hint.ensures.depth
    ∙ ap (λ (x : Cache). hinted c.args.cache.now.depth x c.args.spot.now) c.hint.ensures.lists
    ∙ hinted-twice c.args.cache.now.depth (lists c.args.cache.now) c.args.spot.now
