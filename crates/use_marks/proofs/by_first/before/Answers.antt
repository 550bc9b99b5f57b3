use Rattle.std.proofs.Common.{◌≡◌, ℕ, IsSome, Some, Option, refl, inl, inr}
use Rattle.std.proofs.lemmas.Map.Keys.{le_from_not_gt, ge_from_not_lt}
use Rattle.std.proofs.lemmas.Bool.{cases_lt}
use Rattle.std.specs.BTreeMap as tree
use Rattle.std.specs.Ordering.{nat_cmp}
use Rattle.use_marks.proofs.Spans.{nowhere, up_to}
use Rattle.use_marks.proofs.by_first.before.Goals as goal

is_some_from : (o : Option ℕ) (b : ℕ) → o ≡ Some b → IsSome o
is_some_from o b e = rw e refl

pub returns-in-Some-clause-some : goal.returns-in-Some-clause-some
returns-in-Some-clause-some c =
    let h = c.range.ensures.in_range tt in
    let k = c.in-Some.ensures.steps in
    let m = tree.get nat_cmp c.args.ranges.now in
    let e : ℕ × ℕ = (c.in-Some.first.now, c.in-Some.last.now) in
    let last = h.3 e c.next_back.new.self k in
    record {
      found = last.1;
      up_to = le_from_not_gt _ _ last.0.1;
      latest = λ next end at le. ge_from_not_lt _ _ (h.4 e c.next_back.new.self k next (tt, up_to next c.args.here le) (is_some_from (m next) end at));
    }

pub returns-in-None-clause-none : goal.returns-in-None-clause-none
returns-in-None-clause-none c = λ first last at.
    let h = c.range.ensures.in_range tt in
    let k = c.in-None.ensures.steps in
    let m = tree.get nat_cmp c.args.ranges.now in
    elim (cases_lt c.args.here first) [
      | inl far ↦ far
      | inr near ↦ nowhere m first last at (h.5 k.0 first (tt, up_to first c.args.here near))
    ]
