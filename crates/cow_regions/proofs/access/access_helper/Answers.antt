-- Each word is that of the listing.
use Rattle.std.proofs.Common.{◌≡◌, ℤ, ◌∙◌, rules}
use Rattle.std.proofs.lemmas.Int.{to_z-of_z}
use mir.Syntax.{w64}
use mir.Val.{to_z, of_z, SFits}
use Rattle.cow_regions.proofs.access.access_helper.Goals as goal

-- a number that is passed is the number that was made
carried : (z v : ℤ) → SFits w64 z → z ≡ v → to_z w64 (of_z w64 z) ≡ v
carried z v h e = to_z-of_z w64 z h ∙ e

pub returns : goal.returns
returns c =
    let mask = carried c.unaligned_bits.result _ (search rules) c.unaligned_bits.ensures in
    let fault_5 = carried c.to_helper.result _ (search rules) c.to_helper.ensures in
    let fault_7 = carried c.to_helper-2.result _ (search rules) c.to_helper-2.ensures in
    let fault_9 = carried c.to_helper-3.result _ (search rules) c.to_helper-3.ensures in
    let low_reaching = carried c.lo.result _ (search rules) c.lo.ensures in
    let past = carried c.to_word.result _ (search rules) c.to_word.ensures in
    let low_end = carried c.lo-2.result _ (search rules) c.lo-2.ensures in
    let fault_15 = carried c.to_helper-4.result _ (search rules) c.to_helper-4.ensures in
    let tail = carried c.between.result _ (search rules) c.between.ensures in
    simp (c.sd.ensures, c.sd-2.ensures, c.ld.ensures, c.andi.ensures, c.bne.ensures, c.lui.ensures, c.bltu.ensures, c.lui-2.ensures, c.bgeu.ensures, c.lui-3.ensures, c.addi.ensures, c.bltu-2.ensures, c.lui-4.ensures, c.addi-2.ensures, c.bltu-3.ensures, c.jal.ensures, mask, fault_5, fault_7, fault_9, low_reaching, past, low_end, fault_15, tail, c.hi.ensures.field, c.hi-2.ensures.field, c.hi-3.ensures.field, c.hi-4.ensures.field, c.range_end-range_end.ensures, c.x-x0.ensures, c.x-x30.ensures, c.x-x31.ensures)
