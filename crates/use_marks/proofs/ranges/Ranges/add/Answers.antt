use Rattle.std.proofs.Common.{sym, subst, ◌≡◌, ◌+◌, ◌-◌, ℕ, min, true, arith}
use Rattle.std.specs.BTreeMap as tree
use Rattle.std.specs.Ordering.{nat_cmp}
use Rattle.use_marks.specs.Ranges.{in_ranges, AreBounded, Adds}
use Rattle.use_marks.proofs.InRanges.{added_range, added_bounded, no_range}
use Rattle.use_marks.proofs.ranges.Ranges.add.Goals as goal

pub invariant_of-self-2-clause-bounded : goal.invariant_of-self-2-clause-bounded
invariant_of-self-2-clause-bounded c =
    let wide = added_bounded c.args.self.now.last_by_first c.add.new.ranges c.in_ok-add.ensures.ordered c.args.address c.saturating_add-last.result c.args.self.now.least c.args.self.now.most c.saturating_add-last.type_inv c.in_ok-add.ensures.adds c.args.self.now.bounded in
    subst (λ (l : ℕ). AreBounded c.add.new.ranges.entries l c.max-self.result) (sym c.min-self.ensures) (subst (λ (h : ℕ). AreBounded c.add.new.ranges.entries (min c.args.self.now.least c.args.address) h) (sym c.max-self.ensures) wide)

pub returns-then-count-eq0-clause-ok : goal.returns-then-count-eq0-clause-ok
returns-then-count-eq0-clause-ok c = λ fits a. no_range (in_ranges c.args.self.now.last_by_first.entries) c.args.address c.args.count true c.if-count-eq0.true a

pub returns-clause-ok : goal.returns-clause-ok
returns-clause-ok c = λ fits a.
    let some = c.if-count-eq0.false in
    let room = fits (omega (arith, some)) in
    let last : c.saturating_add-last.result ≡ c.args.address + (c.args.count - 1) = omega (arith, c.saturating_add-last.ensures, room, some) in
    added_range c.args.self.now.last_by_first c.add.new.ranges c.in_ok-add.ensures.old_ordered c.in_ok-add.ensures.ordered c.args.address c.args.count (omega (arith, some))
    (subst (λ (l : ℕ). Adds (tree.get nat_cmp c.args.self.now.last_by_first) c.args.address l (tree.get nat_cmp c.add.new.ranges)) last c.in_ok-add.ensures.adds) a
