use Rattle.std.proofs.Common.{ℕ, List, ap}
use Rattle.use_marks.specs.Ranges.{in_ranges}
use Rattle.use_marks.proofs.InRanges.{none_bounded}
use Rattle.use_marks.proofs.ranges.Ranges.new.Goals as goal

pub returns : goal.returns
unfolding in_ranges
returns c = λ a. ap (λ (ranges : List (ℕ × ℕ)). in_ranges ranges a) c.new.ensures.empty

pub invariant_of-result-clause-bounded : goal.invariant_of-result-clause-bounded
unfolding in_ranges
invariant_of-result-clause-bounded c = none_bounded _ _ _ (λ a. ap (λ (ranges : List (ℕ × ℕ)). in_ranges ranges a) c.new.ensures.empty)
