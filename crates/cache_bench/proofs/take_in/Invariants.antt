use Rattle.std.proofs.Common.{◌≡◌, None}
use Rattle.cache_bench.proofs.take_in.Given as goal

abbrev pub invariant-loop-block : goal.invariant-loop-block
invariant-loop-block l = l.cache.demanded ≡ None
