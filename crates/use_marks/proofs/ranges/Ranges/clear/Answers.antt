use Rattle.std.proofs.Common.{ℕ, List, ap}
use Rattle.use_marks.specs.Ranges.{in_ranges}
use Rattle.use_marks.proofs.InRanges.{none_bounded}
use Rattle.use_marks.proofs.ranges.Ranges.clear.Goals as goal

pub returns : goal.returns
unfolding in_ranges
returns c = λ a. ap (λ (ranges : List (ℕ × ℕ)). in_ranges ranges a) c.clear.ensures.empty

pub invariant_of-self-clause-bounded : goal.invariant_of-self-clause-bounded
unfolding in_ranges
invariant_of-self-clause-bounded c = none_bounded _ _ _ (λ a. ap (λ (ranges : List (ℕ × ℕ)). in_ranges ranges a) c.clear.ensures.empty)
