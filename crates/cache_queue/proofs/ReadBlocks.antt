-- The blocks of a read, one after the other.
use Rattle.std.proofs.Common.{◌≡◌, ℕ, zero, suc, ◌+◌, ◌-◌, ◌/◌, ◌≤◌, ◌<◌, List, [], ◌∷◌, length, refl, sym, ◌∙◌, ap, arith}
use Rattle.spec_base.specs.Files.{Name}
use Rattle.spec_base.specs.declared.spot.BlockSpot.{BlockSpot}
use Rattle.spec_base.specs.declared.spot.ReadSpot.{ReadSpot}
use Rattle.program_model.specs.Cache.{blocks_up, blocks_touched, blocks_of}

blocks_touched-range : (spot : ReadSpot) (count : ℕ) → (count ≡ 0 → ⊥)
    → blocks_up spot.name (spot.offset / 4096) ((spot.offset + (count - 1)) / 4096 + 1 - spot.offset / 4096) ≡ blocks_touched spot count
blocks_touched-range spot zero some = absurd (some refl)
blocks_touched-range spot (suc n) some =
    let first = spot.offset / 4096 in
    let less : suc n - 1 ≡ n = omega arith in
    let order : first ≤ (spot.offset + n) / 4096 = omega arith in
    let many : (spot.offset + n) / 4096 + 1 - first ≡ (spot.offset + n) / 4096 - first + 1 = omega arith in
    ap (λ k. blocks_up spot.name first ((spot.offset + k) / 4096 + 1 - first)) less
    ∙ ap (blocks_up spot.name first) many

-- the blocks from the first byte's to the last byte's
pub blocks_of-range : (spot : ReadSpot) → (spot.count ≡ 0 → ⊥)
    → blocks_up spot.name (spot.offset / 4096) ((spot.offset + (spot.count - 1)) / 4096 + 1 - spot.offset / 4096) ≡ blocks_of spot
blocks_of-range spot some = blocks_touched-range spot spot.count some

-- no byte is in no block
pub blocks_of-none : (spot : ReadSpot) → spot.count ≡ 0 → [] ≡ blocks_of spot
blocks_of-none spot none = sym (ap (blocks_touched spot) none)

-- the first of the blocks up to an end
pub blocks_up-next : (name : Name) (block end : ℕ) → block < end
    → blocks_up name block (end - block) ≡ record { name = name; block = block } ∷ blocks_up name (block + 1) (end - (block + 1))
blocks_up-next name block end lt =
    let more : end - block ≡ suc (end - (block + 1)) = omega arith in
    ap (blocks_up name block) more

-- no block is left at the end
pub blocks_up-end : (name : Name) (block end : ℕ) → end ≤ block → blocks_up name block (end - block) ≡ []
blocks_up-end name block end ge =
    let none : end - block ≡ 0 = omega arith in
    ap (blocks_up name block) none

pub length-blocks_up : (name : Name) (first n : ℕ) → length (blocks_up name first n) ≡ n
length-blocks_up name first zero = refl
length-blocks_up name first (suc n) = let rest = length-blocks_up name (first + 1) n in omega (arith, rest)

-- how many blocks a read of at most 65,536 bytes has
pub length-blocks_of : (spot : ReadSpot) → spot.count ≤ 65_536 → length (blocks_of spot) ≤ 17
length-blocks_of spot few = touched spot.count few
  where
    touched : (n : ℕ) → n ≤ 65_536 → length (blocks_touched spot n) ≤ 17
    touched zero few = omega arith
    touched (suc n) few =
        omega (arith, length-blocks_up spot.name (spot.offset / 4096) ((spot.offset + n) / 4096 - spot.offset / 4096 + 1))
