use Rattle.std.proofs.Common.{◌≡◌, false, None, refl, sym, ◌∙◌, ap, subst}
use Rattle.program_model.specs.Cache.{holds}
use Rattle.cache_queue.specs.Orders.{IsOrderly}
use Rattle.cache_queue.specs.State.{CachedBlocks, CacheState, lists}
use Rattle.cache_queue.specs.Finishes.{IsKept}
use Rattle.cache_queue.specs.Flights.{state_of}
use Rattle.cache_queue.proofs.Order.{IsOrderly-with_block, lists-with_block}
use Rattle.cache_queue.proofs.cache.Cache.keep.Goals as goal
use Rattle.cache_queue.proofs.cache.Cache.keep.Goals.{in-Ok, in-Err}

pub invariant_of-self : goal.invariant_of-self
invariant_of-self c = elim c.match-keep.branch [
  | in-Ok w ↦
      subst
      (λ (b : CachedBlocks). IsOrderly (lists (record { blocks = b; queue = c.self.inside.queue.items; demanded = c.self.inside.demanded; depth = c.self.inside.queue.capacity })))
      (sym w.in-Ok.ensures.ok)
      (IsOrderly-with_block (state_of c.self.inside) c.args.spot.now c.args.bytes.now c.self.invariant
      (subst (λ (s : CacheState). holds s.queue c.args.spot.now ≡ false) (sym c.self.view_is) c.requires.apart)
      (subst (λ (s : CacheState). s.demanded ≡ None) (sym c.self.view_is) c.requires.idle))
  | in-Err w ↦
      subst
      (λ (b : CachedBlocks). IsOrderly (lists (record { blocks = b; queue = c.self.inside.queue.items; demanded = c.self.inside.demanded; depth = c.self.inside.queue.capacity })))
      (sym w.in-Err.ensures.err)
      c.self.invariant
]

pub returns : goal.returns
returns c =
    subst
    (λ (s : CacheState). IsKept s c.args.spot.now c.args.bytes.now c.match-keep.result (record { blocks = c.keep.new.self; queue = c.self.inside.queue.items; demanded = c.self.inside.demanded; depth = c.self.inside.queue.capacity }))
    c.self.view_is
    (elim c.match-keep.branch [
      | in-Ok w ↦
          subst
          (λ r. IsKept (state_of c.self.inside) c.args.spot.now c.args.bytes.now r (record { blocks = c.keep.new.self; queue = c.self.inside.queue.items; demanded = c.self.inside.demanded; depth = c.self.inside.queue.capacity }))
          (sym w.result-is) (
            refl,
            ap (λ (b : CachedBlocks). lists (record { blocks = b; queue = c.self.inside.queue.items; demanded = c.self.inside.demanded; depth = c.self.inside.queue.capacity })) w.in-Ok.ensures.ok
                ∙ lists-with_block (state_of c.self.inside) c.args.spot.now c.args.bytes.now,
            w.in-Ok.ensures.ok,
            refl,
            refl,
          )
      | in-Err w ↦
          subst
          (λ r. IsKept (state_of c.self.inside) c.args.spot.now c.args.bytes.now r (record { blocks = c.keep.new.self; queue = c.self.inside.queue.items; demanded = c.self.inside.demanded; depth = c.self.inside.queue.capacity }))
          (sym w.result-is) (
            refl,
            ap (λ (b : CachedBlocks). record { blocks = b; queue = c.self.inside.queue.items; demanded = c.self.inside.demanded; depth = c.self.inside.queue.capacity }) w.in-Err.ensures.err,
          )
    ])
