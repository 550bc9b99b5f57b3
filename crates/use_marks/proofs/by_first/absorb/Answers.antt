use Rattle.std.proofs.Common.{◌≡◌, ℕ, ◌+◌, ◌<◌, Some, arith}
use Rattle.std.specs.BTreeMap as tree
use Rattle.std.specs.Ordering.{nat_cmp}
use Rattle.use_marks.proofs.Spans.{absorbing-start, absorbing-next, absorbed-addresses, absorbed-forward, absorbed-apart, absorbed-same}
use Rattle.use_marks.proofs.by_first.absorb.Goals as goal

pub loop-next-init : goal.loop-next-init
loop-next-init c = record { absorbs = absorbing-start (tree.get nat_cmp c.args.ranges.now) c.args.first c.args.last c.requires; fits = omega arith }

pub loop-next-preserved : goal.loop-next-preserved
loop-next-preserved c =
    let b = c.in-Some.ensures.some in
    let e = c.saturating_add.ensures in
    let m = c.max-to.ensures in
    let h = absorbing-next (tree.get nat_cmp c.loop-next.ranges) (tree.get nat_cmp c.finish.new.ranges) c.in-Some.next c.finish.ensures.here c.finish.ensures.others (tree.get nat_cmp c.args.ranges.now) c.args.first c.args.last c.loop-next.to c.in-Some.reached c.loop-next.invariant.absorbs b.found (omega (arith, b.from)) (omega (arith, b.to, e)) in
    record { absorbs = rw m h; fits = omega (arith, c.loop-next.invariant.fits) }

pub returns-clause-kept : goal.returns-clause-kept
returns-clause-kept c =
    let g = tree.get nat_cmp c.args.ranges.now in
    let m = tree.get nat_cmp c.loop-next.ranges in
    let h = tree.get nat_cmp c.set_last.new.ranges in
    let inv = c.loop-next.invariant in
    let none : (q l : ℕ) → m q ≡ Some l → c.args.first < q → c.loop-next.to + 1 < q = λ q l e f. let p = c.in_default.ensures.none q l e f in omega (arith, c.saturating_add.ensures, inv.fits, inv.absorbs.addresses q l e, inv.absorbs.forward q l e) in
    record {
      addresses = absorbed-addresses g m h c.args.first c.args.last c.loop-next.to inv.absorbs inv.fits none c.set_last.ensures.here c.set_last.ensures.others;
      forward = absorbed-forward g m h c.args.first c.args.last c.loop-next.to inv.absorbs inv.fits none c.set_last.ensures.here c.set_last.ensures.others;
      apart = absorbed-apart g m h c.args.first c.args.last c.loop-next.to inv.absorbs inv.fits none c.set_last.ensures.here c.set_last.ensures.others;
    }

pub returns-clause-same : goal.returns-clause-same
returns-clause-same c =
    let g = tree.get nat_cmp c.args.ranges.now in
    let m = tree.get nat_cmp c.loop-next.ranges in
    let h = tree.get nat_cmp c.set_last.new.ranges in
    let inv = c.loop-next.invariant in
    let none : (q l : ℕ) → m q ≡ Some l → c.args.first < q → c.loop-next.to + 1 < q = λ q l e f. let p = c.in_default.ensures.none q l e f in omega (arith, c.saturating_add.ensures, inv.fits, inv.absorbs.addresses q l e, inv.absorbs.forward q l e) in
    absorbed-same g m h c.args.first c.args.last c.loop-next.to inv.absorbs inv.fits none c.set_last.ensures.here c.set_last.ensures.others
