use Rattle.std.proofs.Common.{◌≡◌, ◌+◌, ◌*◌, ◌∙◌, IsTrue, refl, ap, sym, subst, arith}
use Rattle.spec_base.specs.declared.layout.Layout.{Layout}
use Rattle.rv_model.specs.Memory.{all_from}
use Rattle.rv_model.specs.Rights.{in_range}
use Rattle.rv_model.specs.Space.{Space}
use Rattle.hart_mem.specs.Held.{space_of}
use Rattle.cow_regions.specs.Tables.{IsNumber}
use Rattle.cow_regions.proofs.RangeBytes.{copied_part, copied_part-none, copied_part-more, region-inside}
use Rattle.cow_regions.proofs.SharedNumbers.{copy-number}
use Rattle.cow_regions.proofs.copying.copy_bytes.Goals as goal

pub loop-i-init : goal.loop-i-init
loop-i-init c = record { space = copied_part-none (space_of c.args.mem.now) c.args.slot c.args.region; spare = refl }

pub range_number-number-requires-clause-inside : goal.range_number-number-requires-clause-inside
range_number-number-requires-clause-inside c =
    subst (λ (l : Layout). IsTrue (all_from (in_range l) (256 * c.args.region + 8 * c.loop-i.i) 8)) (sym (ap (λ (s : Space). s.layout) c.loop-i.invariant.space))
    (region-inside (space_of c.args.mem.now).layout c.args.region (8 * c.loop-i.i) 8 c.requires.above c.requires.inside (omega (arith, c.loop-i-test.true)))

pub put-requires : goal.put-requires
put-requires c =
    subst (λ (l : Layout). IsNumber l (0x4500_0000 + 256 * c.args.slot + 8 * c.loop-i.i) 8) (sym (ap (λ (s : Space). s.layout) c.loop-i.invariant.space))
    (copy-number (space_of c.args.mem.now).layout c.args.slot (8 * c.loop-i.i) 8 (omega arith) c.requires.slot (omega (arith, c.loop-i-test.true)) (omega arith))

pub loop-i-preserved : goal.loop-i-preserved
loop-i-preserved c =
    let s : Space = space_of c.args.mem.now in
    let more : space_of c.put.new.mem ≡ copied_part s c.args.slot c.args.region (8 * c.loop-i.i + 8) =
    copied_part-more s (space_of c.loop-i.mem) (space_of c.put.new.mem) c.args.slot c.args.region (8 * c.loop-i.i) 8 c.range_number-number.result c.loop-i.invariant.space c.range_number-number.ensures c.put.ensures.space in
    record {
      space = more ∙ ap (copied_part s c.args.slot c.args.region) (omega arith);
      spare = c.put.ensures.spare ∙ c.loop-i.invariant.spare;
    }

pub returns-clause-space : goal.returns-clause-space
returns-clause-space c = c.loop-i.invariant.space ∙ ap (copied_part (space_of c.args.mem.now) c.args.slot c.args.region) (omega (arith, c.loop-i-test.false))
