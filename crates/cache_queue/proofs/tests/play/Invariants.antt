use Rattle.std.proofs.Common.{◌≡◌, false, None}
use Rattle.cache_queue.proofs.tests.play.Given as goal

abbrev pub invariant-loop-step : goal.invariant-loop-step
invariant-loop-step g l = l.waiting ≡ false → l.cache.demanded ≡ None
