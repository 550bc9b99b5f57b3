use Rattle.std.proofs.Common.{◌-◌, ◌∙◌, length, ap, sym, arith}
use Rattle.rv_model.specs.Memory.{Memory}
use Rattle.hart_mem.specs.Held.{space_of}
use Rattle.cow_regions.proofs.CopyRuns.{counted-new, counted-old, uncopied-most, uncopied-none}
use Rattle.cow_regions.proofs.copying.count_new.Goals.{then-is_uncopied, else-is_uncopied}
use Rattle.cow_regions.proofs.copying.count_new.Goals as goal

pub overflow_add-count : goal.overflow_add-count
overflow_add-count c =
    let s : Memory = (space_of c.args.mem.now).shared in
    omega (arith, c.loop-region.invariant, counted-new s c.loop-region.region c.args.end c.loop-region-test.true (sym c.is_uncopied.ensures ∙ c.if-is_uncopied.true), uncopied-most s c.args.first (c.args.end - c.args.first), c.ranges.end)

pub loop-region-preserved : goal.loop-region-preserved
loop-region-preserved c =
    let s : Memory = (space_of c.args.mem.now).shared in
    elim c.if-is_uncopied.branch [
      | then-is_uncopied w ↦ omega (arith, c.loop-region.invariant, w.count-is, counted-new s c.loop-region.region c.args.end c.loop-region-test.true (sym c.is_uncopied.ensures ∙ w.if-is_uncopied.true))
      | else-is_uncopied w ↦ omega (arith, c.loop-region.invariant, w.count-is, counted-old s c.loop-region.region c.args.end c.loop-region-test.true (sym c.is_uncopied.ensures ∙ w.if-is_uncopied.false))
    ]

pub returns-clause-value : goal.returns-clause-value
returns-clause-value c =
    let s : Memory = (space_of c.args.mem.now).shared in
    omega (arith, c.loop-region.invariant, ap length (uncopied-none s c.loop-region.region (c.args.end - c.loop-region.region) (omega arith)))

pub returns-clause-most : goal.returns-clause-most
returns-clause-most c =
    let s : Memory = (space_of c.args.mem.now).shared in
    omega (arith, c.loop-region.invariant, uncopied-most s c.args.first (c.args.end - c.args.first))
