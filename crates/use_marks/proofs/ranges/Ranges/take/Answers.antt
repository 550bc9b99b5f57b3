use Rattle.std.proofs.Common.{sym, subst, ◌∙◌, ◌≡◌, ◌<◌, ◌+◌, ◌-◌, ℕ, arith}
use Rattle.std.specs.BTreeMap as tree
use Rattle.std.specs.Ordering.{nat_cmp}
use Rattle.use_marks.specs.Ranges.{in_ranges, Takes}
use Rattle.use_marks.proofs.InRanges.{taken_range, after_take, none_taken, some_any}
use Rattle.use_marks.proofs.ranges.Ranges.take.Goals as goal

pub overflow_sub-count : goal.overflow_sub-count
overflow_sub-count c = let some : 0 < c.args.count = some_any (in_ranges c.args.self.now.last_by_first.entries) c.args.address c.args.count (sym c.contains_any.ensures ∙ c.if-not-contains_any.false) in omega (arith, some)

pub invariant_of-self-clause-bounded : goal.invariant_of-self-clause-bounded
invariant_of-self-clause-bounded c =
    after_take c.take.result c.args.self.now.last_by_first c.take.new.ranges c.take.ensures.ordered c.args.address c.saturating_add.result c.args.self.now.least c.args.self.now.most c.take.ensures.takes c.take.ensures.err c.args.self.now.bounded

pub returns-then-not-contains_any-clause-ok : goal.returns-then-not-contains_any-clause-ok
returns-then-not-contains_any-clause-ok c = λ fits a.
    none_taken (in_ranges c.args.self.now.last_by_first.entries) c.args.address c.args.count (sym c.if-not-contains_any.true ∙ c.contains_any.ensures) a

pub returns-clause-ok : goal.returns-clause-ok
returns-clause-ok c = λ fits a.
    let some : 0 < c.args.count = some_any (in_ranges c.args.self.now.last_by_first.entries) c.args.address c.args.count (sym c.contains_any.ensures ∙ c.if-not-contains_any.false) in
    let room = fits some in
    let last : c.saturating_add.result ≡ c.args.address + (c.args.count - 1) = omega (arith, c.saturating_add.ensures, room, some) in
    taken_range c.args.self.now.last_by_first c.take.new.ranges c.in_ok-take.ensures.old_ordered c.in_ok-take.ensures.ordered c.args.address c.args.count some
    (subst (λ (l : ℕ). Takes (tree.get nat_cmp c.args.self.now.last_by_first) c.args.address l (tree.get nat_cmp c.take.new.ranges)) last c.in_ok-take.ensures.takes) a
