use Rattle.std.proofs.Common.{◌≡◌, ◌∙◌, ap, is_some}
use Rattle.std.proofs.lemmas.Result.{IfOk-weaker, on_ok_weaker}
use Rattle.program_model.specs.Cache.{in_flight}
use Rattle.trace_replay.specs.Lists.{BoundedCache, after_finish}
use Rattle.trace_replay.proofs.block_lists.BlockLists.finish.Goals as goal

pub invariant_of-self : goal.invariant_of-self
invariant_of-self c = c.finish.ensures.keyed c.self.inside.names c.self.invariant

pub returns-clause-any : goal.returns-clause-any
returns-clause-any c =
    IfOk-weaker c.finish.result _ (λ any. any ≡ is_some (in_flight c.args.self.now.cache))
    (λ any told. told c.self.inside.names c.self.invariant ∙ ap (λ (b : BoundedCache). is_some (in_flight b.cache)) c.self.view_is)
    c.finish.ensures.any

pub returns-clause-lists : goal.returns-clause-lists
returns-clause-lists c =
    on_ok_weaker c.finish.result
    (λ told.
    told c.self.inside.names c.self.invariant
    ∙ ap (λ (b : BoundedCache). record b { cache = after_finish (in_flight b.cache) b.blocks b.cache }) c.self.view_is)
    c.finish.ensures.lists
