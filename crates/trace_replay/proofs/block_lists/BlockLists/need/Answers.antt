use Rattle.std.proofs.Common.{◌≡◌, Bool, ◌∙◌, ap}
use Rattle.std.proofs.lemmas.Result.{IfOk-weaker}
use Rattle.program_model.specs.Cache.{holds}
use Rattle.trace_replay.specs.Lists.{BoundedCache, after_need}
use Rattle.trace_replay.specs.Keyed.{lists_by}
use Rattle.trace_replay.proofs.Named.{lists-stay, AreKeyed-stay}
use Rattle.trace_replay.proofs.block_lists.BlockLists.need.Goals as goal

pub invariant_of-self : goal.invariant_of-self
invariant_of-self c = AreKeyed-stay c.self.inside.names c.key.new.self c.key.ensures.stays c.self.inside.keyed c.self.invariant c.key.ensures.apart

pub invariant_of-self-2 : goal.invariant_of-self-2
invariant_of-self-2 c =
    let keyed = AreKeyed-stay c.self.inside.names c.key.new.self c.key.ensures.stays c.self.inside.keyed c.self.invariant c.key.ensures.apart in
    c.need.ensures.keyed c.key.new.self keyed c.in_ok-key.ensures.known

pub returns-clause-cached : goal.returns-clause-cached
returns-clause-cached c =
    let names = c.key.new.self in
    let keyed = AreKeyed-stay c.self.inside.names names c.key.ensures.stays c.self.inside.keyed c.self.invariant c.key.ensures.apart in
    let lists = lists-stay c.self.inside.names names c.key.ensures.stays c.self.inside.keyed c.self.invariant ∙ c.self.view_is in
    IfOk-weaker c.need.result _ (λ cached. cached ≡ holds c.args.self.now.cache.cached c.args.spot.now)
    (λ cached told.
    told names keyed c.in_ok-key.ensures.known
    ∙ ap (λ s. holds (lists_by names c.self.inside.keyed).cache.cached s) c.in_ok-key.ensures.spot
    ∙ ap (λ (b : BoundedCache). holds b.cache.cached c.args.spot.now) lists)
    c.need.ensures.cached

pub returns-clause-lists : goal.returns-clause-lists
returns-clause-lists c =
    let names = c.key.new.self in
    let keyed = AreKeyed-stay c.self.inside.names names c.key.ensures.stays c.self.inside.keyed c.self.invariant c.key.ensures.apart in
    let lists = lists-stay c.self.inside.names names c.key.ensures.stays c.self.inside.keyed c.self.invariant ∙ c.self.view_is in
    IfOk-weaker c.need.result _ _
    (λ cached told.
    told names keyed c.in_ok-key.ensures.known
    ∙ ap (λ s. record (lists_by names c.self.inside.keyed) { cache = after_need cached (lists_by names c.self.inside.keyed).blocks (lists_by names c.self.inside.keyed).cache s }) c.in_ok-key.ensures.spot
    ∙ ap (λ (b : BoundedCache). record b { cache = after_need cached b.blocks b.cache c.args.spot.now }) lists)
    c.need.ensures.lists
