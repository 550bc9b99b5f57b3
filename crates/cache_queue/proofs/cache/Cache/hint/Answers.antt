use Rattle.std.proofs.Common.{◌≡◌, ◌++◌, ◌∷◌, [], false, sym, subst, inl, inr}
use Rattle.circular_buffer.specs.Buffer.{Buffer, buffer}
use Rattle.spec_base.specs.declared.spot.BlockSpot.{BlockSpot}
use Rattle.program_model.specs.Cache.{is_idle_hint}
use Rattle.cache_queue.specs.Orders.{IsOrderly}
use Rattle.cache_queue.specs.State.{CacheState, keys_of, lists}
use Rattle.cache_queue.specs.Flights.{state_of}
use Rattle.cache_queue.proofs.Order.{IsOrderly-hinted}
use Rattle.cache_queue.proofs.Rounds.{pushed}
use Rattle.cache_queue.proofs.cache.Cache.hint.Goals as goal

pub invariant_of-self : goal.invariant_of-self
invariant_of-self c =
    let idle : is_idle_hint c.self.inside.queue.capacity (lists (state_of c.self.inside)) c.args.spot ≡ false =
    subst (λ (s : CacheState). is_idle_hint s.depth (lists s) c.args.spot ≡ false) (sym c.self.view_is) (sym c.if-is_idle.ensures) in
    elim
    (pushed c.try_push_back.result c.try_push_back.new.self c.self.inside.queue (buffer (c.self.inside.queue.items ++ c.args.spot ∷ []) c.self.inside.queue.capacity) c.args.spot c.try_push_back.ensures.ok c.try_push_back.ensures.err) [
      | inl joined ↦
          subst
          (λ (q : Buffer BlockSpot). IsOrderly (record { cached = keys_of c.self.inside.blocks; queue = q.items; demanded = c.self.inside.demanded }))
          (sym joined)
          (IsOrderly-hinted (lists (state_of c.self.inside)) c.self.inside.queue.capacity c.args.spot c.self.invariant idle)
      | inr left ↦
          subst
          (λ (q : Buffer BlockSpot). IsOrderly (record { cached = keys_of c.self.inside.blocks; queue = q.items; demanded = c.self.inside.demanded }))
          (sym left)
          c.self.invariant
    ]
