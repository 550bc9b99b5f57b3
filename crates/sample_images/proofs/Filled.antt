-- The loops that fill a text and a file, one step more.
use Rattle.std.proofs.Common.{◌≡◌, ℕ, zero, suc, ◌+◌, ◌-◌, ◌<◌, List, [], ◌∷◌, ◌++◌, take, length, refl, sym, ap, ◌∙◌, arith}
use Rattle.std.specs.List.{flat_map}
use Rattle.std.proofs.lemmas.Grind.{flat_map-append}
use Rattle.sample_images.specs.Demos.{data_byte, data_bytes}

-- the bytes from one on are it and those from the next on
pub next-data : (i n : ℕ) → i < n → data_byte i ∷ data_bytes (i + 1) (n - (i + 1)) ≡ data_bytes i (n - i)
next-data i n less =
    let left : n - i ≡ suc (n - (i + 1)) = omega (arith, less) in
    sym (ap (data_bytes i) left)
