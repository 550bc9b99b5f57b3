use Rattle.std.proofs.Common.{◌≡◌, ◌+◌, ◌*◌, ◌<◌, ◌∙◌, ap, subst, sym, arith}
use Rattle.spec_base.specs.declared.layout.Layout.{Layout}
use Rattle.rv_model.specs.Space.{Space}
use Rattle.hart_mem.specs.Held.{space_of}
use Rattle.cow_regions.specs.Tables.{IsNumber}
use Rattle.cow_regions.proofs.SharedNumbers.{entry-number, count-number, listed-number}
use Rattle.cow_regions.proofs.copying.copy_region.Goals as goal

pub put-requires : goal.put-requires
put-requires c =
    let layout : (space_of c.copy_bytes.new.mem).layout ≡ (space_of c.args.mem.now).layout = ap (λ (s : Space). s.layout) c.copy_bytes.ensures.space in
    let room : c.used-slot.result < (space_of c.args.mem.now).layout.regions = omega (arith, c.used-slot.ensures, c.requires.room) in
    subst (λ (l : Layout). IsNumber l (0x4400_0008 + 4 * c.used-slot.result) 4) (sym layout) (listed-number (space_of c.args.mem.now).layout c.used-slot.result c.requires.few room)

pub put-requires-2 : goal.put-requires-2
put-requires-2 c = count-number (space_of c.put.new.mem).layout

pub put-requires-3 : goal.put-requires-3
put-requires-3 c =
    let layout : (space_of c.put-2.new.mem).layout ≡ (space_of c.args.mem.now).layout =
    ap (λ (s : Space). s.layout) c.put-2.ensures.space ∙ ap (λ (s : Space). s.layout) c.put.ensures.space ∙ ap (λ (s : Space). s.layout) c.copy_bytes.ensures.space in
    subst (λ (l : Layout). IsNumber l (0x4300_0000 + 4 * c.args.region) 4) (sym layout) (entry-number (space_of c.args.mem.now).layout c.args.region c.requires.inside)
