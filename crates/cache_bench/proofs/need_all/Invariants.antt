use Rattle.std.proofs.Common.{◌≡◌, None}
use Rattle.cache_bench.proofs.need_all.Given as goal

abbrev pub invariant-loop-at : goal.invariant-loop-at
invariant-loop-at l = l.cache.demanded ≡ None
