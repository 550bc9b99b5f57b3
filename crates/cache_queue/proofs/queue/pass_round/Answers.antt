use Rattle.std.proofs.Common.{◌<◌, ◌++◌, ◌∷◌, [], length, ◌∙◌, ap, arith}
use Rattle.circular_buffer.specs.Buffer.{Buffer}
use Rattle.spec_base.specs.declared.spot.BlockSpot.{BlockSpot}
use Rattle.cache_queue.proofs.Rounds.{pushed_surely, differs, agrees, never_empty, rest_short, goes_back, goes_away}
use Rattle.cache_queue.proofs.queue.pass_round.Goals as goal
use Rattle.cache_queue.proofs.queue.pass_round.Goals.{in-Some+then-ne, in-Some+else-ne, in_default}

pub loop-preserved : goal.loop-preserved
loop-preserved c =
    let within : c.loop.counter < length c.args.queue.now.items = omega arith in
    elim c.match-pop_front.branch [
      | in-Some+then-ne w ↦
          let apart = differs w.ne.result c.args.spot.now w.in-Some.queued w.ne.ensures w.if-ne.true in
          let popped = w.in-Some.ensures.items in
          let short = rest_short c.args.queue.now.items c.loop.queue.items c.loop.counter c.args.spot.now w.in-Some.queued c.loop.invariant.items within in
          let room : length c.pop_front.new.self.items < c.pop_front.new.self.capacity =
          omega (arith, ap (λ (q : Buffer BlockSpot). length q.items) popped, ap (λ (q : Buffer BlockSpot). q.capacity) popped, short, c.loop.invariant.capacity) in
          let new = pushed_surely w.try_push_back.result w.try_push_back.new.self _ (w.try_push_back.ensures.variant.1 room) w.try_push_back.ensures.ok in
          record {
            items = ap (λ (q : Buffer BlockSpot). q.items) (w.queue-is ∙ new)
                ∙ ap (λ (q : Buffer BlockSpot). q.items ++ w.in-Some.queued ∷ []) popped
                ∙ goes_back c.args.queue.now.items c.loop.queue.items c.loop.counter c.args.spot.now w.in-Some.queued c.loop.invariant.items within w.in-Some.ensures.value apart;
            capacity = ap (λ (q : Buffer BlockSpot). q.capacity) (w.queue-is ∙ new) ∙ ap (λ (q : Buffer BlockSpot). q.capacity) popped ∙ c.loop.invariant.capacity;
          }
      | in-Some+else-ne w ↦
          let same = agrees w.ne.result c.args.spot.now w.in-Some.queued w.ne.ensures w.if-ne.false in
          let now = w.queue-is ∙ w.in-Some.ensures.items in
          record {
            items = ap (λ (q : Buffer BlockSpot). q.items) now
                ∙ goes_away c.args.queue.now.items c.loop.queue.items c.loop.counter c.args.spot.now w.in-Some.queued c.loop.invariant.items within w.in-Some.ensures.value same;
            capacity = ap (λ (q : Buffer BlockSpot). q.capacity) now ∙ c.loop.invariant.capacity;
          }
      | in_default w ↦
          absurd (never_empty c.args.queue.now.items c.loop.queue.items c.loop.counter c.args.spot.now c.args.spot.now c.loop.invariant.items within w.in_default.ensures.value)
    ]
