use Rattle.std.proofs.Common.{◌≡◌, ℕ, ◌-◌, ◌%◌, Bool, true, false, List, length, take, drop, refl, sym, ap, ◌∙◌, arith}
use Rattle.std.proofs.lemmas.List.{length-take-le, length-drop}
use Rattle.rv_model.specs.Space.{Space}
use Rattle.spec_base.specs.declared.note.Note.{Note}
use Rattle.hart_mem.specs.Held.{space_of}
use Rattle.cow_regions.specs.Fills.{fitted, regions_fit, filled_space}
use Rattle.cow_regions.specs.declared.filling.Fitted.TheVariants.{Done, Full}
use Rattle.runner_parts.specs.Fillings.{filled_if, fill_notes}
use Rattle.runner_parts.proofs.FilledReads.{done-is, full-is, long-enough}
use Rattle.runner_parts.proofs.filling.fill_told.Goals as goal

pub returns-in-Done-clause-filled : goal.returns-in-Done-clause-filled
returns-in-Done-clause-filled c ok =
    let s : Space = space_of c.args.mem.now in
    let long : length c.bytes_of.result.now ≡ c.args.spot.now.count = ap length c.bytes_of.ensures ∙ long-enough c.args.spot.now c.args.blocks.now c.requires.count c.requires.room in
    let fits : regions_fit s c.args.address (c.args.spot.now.count - 1) ≡ true = ap (λ (n : ℕ). regions_fit s c.args.address (n - 1)) (sym long) ∙ done-is _ (sym c.in-Done.ensures.answer) in
    c.in-Done.ensures.done refl ok ∙ ap (λ (b : List ℕ). filled_space s c.args.address b) c.bytes_of.ensures ∙ ap (λ (b : Bool). filled_if b s c.args.address (take c.args.spot.now.count (drop (c.args.spot.now.offset % 4096) c.args.blocks.now))) (sym fits)

pub returns-in-Done-clause-tells : goal.returns-in-Done-clause-tells
returns-in-Done-clause-tells c =
    let s : Space = space_of c.args.mem.now in
    let long : length c.bytes_of.result.now ≡ c.args.spot.now.count = ap length c.bytes_of.ensures ∙ long-enough c.args.spot.now c.args.blocks.now c.requires.count c.requires.room in
    let fits : regions_fit s c.args.address (c.args.spot.now.count - 1) ≡ true = ap (λ (n : ℕ). regions_fit s c.args.address (n - 1)) (sym long) ∙ done-is _ (sym c.in-Done.ensures.answer) in
    c.add.ensures ∙ ap (λ (b : Bool). fill_notes b c.args.spot.now c.args.notes.now) (sym fits)

pub returns-in-Full-clause-filled : goal.returns-in-Full-clause-filled
returns-in-Full-clause-filled c ok =
    let s : Space = space_of c.args.mem.now in
    let long : length c.bytes_of.result.now ≡ c.args.spot.now.count = ap length c.bytes_of.ensures ∙ long-enough c.args.spot.now c.args.blocks.now c.requires.count c.requires.room in
    let fits : regions_fit s c.args.address (c.args.spot.now.count - 1) ≡ false = ap (λ (n : ℕ). regions_fit s c.args.address (n - 1)) (sym long) ∙ full-is _ (sym c.in-Full.ensures.answer) in
    ap space_of (c.in-Full.ensures.full refl) ∙ ap (λ (b : Bool). filled_if b s c.args.address (take c.args.spot.now.count (drop (c.args.spot.now.offset % 4096) c.args.blocks.now))) (sym fits)

pub returns-in-Full-clause-tells : goal.returns-in-Full-clause-tells
returns-in-Full-clause-tells c =
    let s : Space = space_of c.args.mem.now in
    let long : length c.bytes_of.result.now ≡ c.args.spot.now.count = ap length c.bytes_of.ensures ∙ long-enough c.args.spot.now c.args.blocks.now c.requires.count c.requires.room in
    let fits : regions_fit s c.args.address (c.args.spot.now.count - 1) ≡ false = ap (λ (n : ℕ). regions_fit s c.args.address (n - 1)) (sym long) ∙ full-is _ (sym c.in-Full.ensures.answer) in
    ap (λ (b : Bool). fill_notes b c.args.spot.now c.args.notes.now) (sym fits)
