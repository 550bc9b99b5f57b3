use Rattle.std.proofs.Common.{Some, refl, sym, subst}
use Rattle.circular_buffer.specs.Buffer.{Buffer}
use Rattle.spec_base.specs.declared.spot.BlockSpot.{BlockSpot}
use Rattle.cache_queue.specs.Orders.{IsOrderly}
use Rattle.cache_queue.specs.State.{CachedBlocks, keys_of, lists}
use Rattle.cache_queue.specs.Flights.{state_of}
use Rattle.cache_queue.proofs.Order.{IsOrderly-used, IsOrderly-awaited}
use Rattle.cache_queue.proofs.cache.Cache.need.Goals as goal

pub invariant_of-self : goal.invariant_of-self
invariant_of-self c =
    subst
    (λ ks. IsOrderly (record { cached = ks; queue = c.self.inside.queue.items; demanded = c.self.inside.demanded }))
    (sym (c.if-get.ensures.first refl))
    (IsOrderly-used (lists (state_of c.self.inside)) c.args.spot c.self.invariant (sym c.if-get.ensures.found))

pub invariant_of-self-2 : goal.invariant_of-self-2
invariant_of-self-2 c =
    let before = IsOrderly-awaited (lists (state_of c.self.inside)) c.args.spot c.self.invariant (sym c.if-get.ensures.found) in
    subst
    (λ (b : CachedBlocks). IsOrderly (record { cached = keys_of b; queue = c.unqueue.new.queue.items; demanded = Some c.args.spot }))
    (sym (c.if-get.ensures.absent refl).0)
    (subst
    (λ (q : Buffer BlockSpot). IsOrderly (record { cached = keys_of c.self.inside.blocks; queue = q.items; demanded = Some c.args.spot }))
    (sym c.unqueue.ensures)
    before)
