-- The bytes of a read that the shadow fills.
use Rattle.std.proofs.Common.{◌≡◌, ℕ, ◌+◌, ◌-◌, ◌*◌, ◌%◌, ◌≤◌, Bool, true, false, ◌&&◌, List, ◌++◌, length, take, drop, refl, sym, ap, ◌∙◌, arith}
use Rattle.std.proofs.lemmas.List.{length-take-le, length-drop, take-append-drop}
use Rattle.spec_base.specs.Files.{Files}
use Rattle.spec_base.specs.declared.note.Note.{Note}
use Rattle.spec_base.specs.declared.spot.ReadSpot.{ReadSpot}
use Rattle.rv_model.specs.Space.{Space}
use Rattle.program_model.specs.Cache.{blocks_of}
use Rattle.program_model.specs.Calls.{bytes_read}
use Rattle.cow_regions.specs.Fills.{fitted}
use Rattle.cow_regions.specs.declared.filling.Fitted.TheVariants.{Done, Full}
use Rattle.runner_parts.specs.Staged.{joined, staged}
use Rattle.runner_parts.proofs.Staged.{bytes_are_staged}

pub done-is : (b : Bool) → fitted b ≡ Done → b ≡ true
done-is true e = refl
done-is false e = absurd cc

pub full-is : (b : Bool) → fitted b ≡ Full → b ≡ false
full-is false e = refl
full-is true e = absurd cc

-- a read has all its bytes in 17 blocks
pub long-enough : (spot : ReadSpot) (blocks : List ℕ) → spot.count ≤ 65536 → length blocks ≡ 69632 → length (take spot.count (drop (spot.offset % 4096) blocks)) ≡ spot.count
long-enough spot blocks few room =
    let rest : length (drop (spot.offset % 4096) blocks) ≡ length blocks - spot.offset % 4096 = length-drop (spot.offset % 4096) blocks in
    length-take-le spot.count (drop (spot.offset % 4096) blocks) (omega (arith, rest, room, few))

-- where its blocks stand in a buffer, its bytes do
pub bytes-there :
    (files : Files) (spot : ReadSpot) (buffer : List ℕ) → take (4096 * length (blocks_of spot)) buffer ≡ joined files (blocks_of spot) → length (bytes_read files spot) ≡ spot.count
    → take spot.count (drop (spot.offset % 4096) buffer) ≡ bytes_read files spot
bytes-there files spot buffer there long =
    let n : ℕ = 4096 * length (blocks_of spot) in
    let split : buffer ≡ staged files spot ++ drop n buffer = sym (take-append-drop n buffer) ∙ ap (λ (k : List ℕ). k ++ drop n buffer) there in
    ap (λ (k : List ℕ). take spot.count (drop (spot.offset % 4096) k)) split ∙ bytes_are_staged files spot (drop n buffer) long
