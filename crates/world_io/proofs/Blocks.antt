-- Blocks of files.
use Rattle.std.proofs.Common.{◌≡◌, ℕ, ◌-◌, ◌*◌, min, List, ◌++◌, length, take, drop, arith, ap, ◌∙◌, Some, Option}
use Rattle.std.proofs.lemmas.List.{take_at, take_min, length-take, length-drop, take_all}
use Rattle.world_io.specs.Fetches.{HasBlock}

-- a slice from a place on is what is left there
rest_of : (bytes : List ℕ) (start : ℕ) → take (length bytes - start) (drop start bytes) ≡ drop start bytes
rest_of bytes start = take_all (length bytes - start) (drop start bytes) (omega (arith, length-drop {A = ℕ}))

-- the block that was copied to the front of `into` is the file's
pub copied-HasBlock : (file : Option (List ℕ)) (bytes into copy : List ℕ) (block count : ℕ)
    → file ≡ Some bytes
    → count ≡ min (length (take (length bytes - block * 4096) (drop (block * 4096) bytes))) 4096
    → copy ≡ take count (take (length bytes - block * 4096) (drop (block * 4096) bytes))
    → HasBlock file block count (copy ++ drop count into)
copied-HasBlock file bytes into copy block count is e same =
    let place : 4096 * block ≡ block * 4096 = omega arith in
    let count_is : count ≡ min (length (drop (block * 4096) bytes)) 4096 = rw (← rest_of bytes (block * 4096)) e in
    let copy_is : copy ≡ take count (drop (block * 4096) bytes) = rw (← rest_of bytes (block * 4096)) same in
    let long : length copy ≡ count = ap length copy_is ∙ omega (arith, length-take {A = ℕ}) in
    let least : take count (drop (block * 4096) bytes) ≡ take 4096 (drop (block * 4096) bytes) =
    (let least_is : count ≡ min 4096 (length (drop (block * 4096) bytes)) = omega arith in
    ap (λ n. take n (drop (block * 4096) bytes)) least_is ∙ take_min 4096 (drop (block * 4096) bytes)) in
    rw (is, place) (omega (arith, length-take {A = ℕ}), take_at copy (drop count into) count long ∙ copy_is ∙ least)
