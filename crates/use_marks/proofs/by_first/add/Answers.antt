use Rattle.std.proofs.Common.{◌≤◌, ◌-◌, Some, arith, ap, ◌∙◌}
use Rattle.std.specs.BTreeMap as tree
use Rattle.std.specs.Ordering.{nat_cmp}
use Rattle.use_marks.proofs.Spans.{joined-adds, begun-adds}
use Rattle.use_marks.proofs.by_first.add.Goals as goal

pub returns-in-Some-clause-adds : goal.returns-in-Some-clause-adds
returns-in-Some-clause-adds c =
    let g = tree.get nat_cmp c.args.ranges.now in
    let h = tree.get nat_cmp c.set_last.new.ranges in
    let e = c.saturating_sub.ensures in
    let r : c.args.first - 1 ≤ c.in-Some.to = omega (arith, c.in-Some.ensures.reaches, e) in
    joined-adds g h c.args.first c.args.last c.in-Some.from c.in-Some.to c.requires.kept c.in-Some.ensures.some r c.requires.forward (omega arith) (c.set_last.ensures.here ∙ ap Some c.max-end.ensures) c.set_last.ensures.others (tree.get nat_cmp c.absorb.new.ranges) c.absorb.ensures.same

pub returns-in_ok-begin-in-None-clause-adds : goal.returns-in_ok-begin-in-None-clause-adds
returns-in_ok-begin-in-None-clause-adds c =
    let g = tree.get nat_cmp c.args.ranges.now in
    let h = tree.get nat_cmp c.begin.new.ranges in
    begun-adds g h c.args.first c.args.last c.requires.kept (λ q l e up. let p = c.in-None.ensures.none q l e up in omega (arith, c.saturating_sub.ensures)) c.requires.forward (omega arith) c.in_ok-begin-in-None.ensures.here c.in_ok-begin-in-None.ensures.others (tree.get nat_cmp c.absorb-in-None.new.ranges) c.absorb-in-None.ensures.same
