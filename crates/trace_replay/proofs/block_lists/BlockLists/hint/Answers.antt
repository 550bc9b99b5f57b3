use Rattle.std.proofs.Common.{◌≡◌, ◌∙◌, ap}
use Rattle.std.proofs.lemmas.Result.{on_ok_weaker}
use Rattle.program_model.specs.Cache.{hinted}
use Rattle.trace_replay.specs.Lists.{BoundedCache}
use Rattle.trace_replay.specs.Keyed.{lists_by}
use Rattle.trace_replay.proofs.Named.{lists-stay, AreKeyed-stay}
use Rattle.trace_replay.proofs.block_lists.BlockLists.hint.Goals as goal

pub invariant_of-self : goal.invariant_of-self
invariant_of-self c = AreKeyed-stay c.self.inside.names c.key.new.self c.key.ensures.stays c.self.inside.keyed c.self.invariant c.key.ensures.apart

pub invariant_of-self-2 : goal.invariant_of-self-2
invariant_of-self-2 c =
    let keyed = AreKeyed-stay c.self.inside.names c.key.new.self c.key.ensures.stays c.self.inside.keyed c.self.invariant c.key.ensures.apart in
    c.hint.ensures.keyed c.key.new.self keyed c.in_ok-key.ensures.known

pub returns : goal.returns
returns c =
    let names = c.key.new.self in
    let b : BoundedCache = lists_by names c.self.inside.keyed in
    let keyed = AreKeyed-stay c.self.inside.names names c.key.ensures.stays c.self.inside.keyed c.self.invariant c.key.ensures.apart in
    let lists = lists-stay c.self.inside.names names c.key.ensures.stays c.self.inside.keyed c.self.invariant ∙ c.self.view_is in
    on_ok_weaker c.hint.result
    (λ told.
    told names keyed c.in_ok-key.ensures.known
    ∙ ap (λ s. record b { cache = hinted b.depth b.cache s }) c.in_ok-key.ensures.spot
    ∙ ap (λ (l : BoundedCache). record l { cache = hinted l.depth l.cache c.args.spot.now }) lists)
    c.hint.ensures.lists
