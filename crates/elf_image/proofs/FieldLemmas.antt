use Rattle.std.proofs.Common.{◌≡◌, ℕ, zero, suc, ◌+◌, ◌*◌, List, drop, slice_index, refl, ap, add-zero, add-suc}
use Rattle.std.proofs.lemmas.List.{get_or-drop}
use Rattle.byteorder.specs.Endian.{little_from}

-- a number at a place of what is left of a list after an offset
pub little_from-drop : (n i offset : ℕ) (bytes : List ℕ) → little_from i n (drop offset bytes) ≡ little_from (offset + i) n bytes
little_from-drop zero i offset bytes = refl
little_from-drop (suc n) i offset bytes =
    rw (get_or-drop offset bytes i 0) (ap (λ m. slice_index bytes (offset + i) + 256 * m) (rw (little_from-drop n (suc i) offset bytes) (rw add-suc refl)))

-- the number at an offset is the first one after it
pub reads_at : (n offset : ℕ) (bytes : List ℕ) → little_from 0 n (drop offset bytes) ≡ little_from offset n bytes
reads_at n offset bytes = rw (little_from-drop n 0 offset bytes) (rw add-zero refl)
