use Rattle.std.proofs.Common.{◌≡◌, ◌<◌, ◌∙◌, ℕ, zero, suc, List, [], ◌∷◌, Option, Bor, length, take, get_or, refl, ap, sym, subst, arith}
use Rattle.std.specs.Int.{to_le_bytes, w64}
use Rattle.std.specs.Array.{IsFirstChunk}
use Rattle.std.specs.Option.{MatchOption}
use Rattle.std.proofs.lemmas.List.{get_or-take, length-take-le}
use Rattle.std.proofs.lemmas.Nat.{le_bytes_8}
use Rattle.spec_base.specs.Word.{byte_of}
use Rattle.cow_regions.proofs.filling.first_number.Goals as goal

le_byte : (x i : ℕ) → i < 8 → get_or (to_le_bytes w64 x) i 0 ≡ byte_of x i
le_byte x zero h = omega arith
le_byte x (suc zero) h = refl
le_byte x (suc (suc zero)) h = refl
le_byte x (suc (suc (suc zero))) h = refl
le_byte x (suc (suc (suc (suc zero)))) h = refl
le_byte x (suc (suc (suc (suc (suc zero))))) h = refl
le_byte x (suc (suc (suc (suc (suc (suc zero)))))) h = refl
le_byte x (suc (suc (suc (suc (suc (suc (suc zero))))))) h = refl
le_byte x (suc (suc (suc (suc (suc (suc (suc (suc i)))))))) h = absurd (omega arith)

-- the first of small bytes are small
small-take : (n : ℕ) (bytes : List ℕ) (i : ℕ) → ((k : ℕ) → get_or bytes k 0 < 256) → get_or (take n bytes) i 0 < 256
small-take zero bytes i h = omega arith
small-take (suc n) [] i h = omega arith
small-take (suc n) (byte ∷ bytes) zero h = h 0
small-take (suc n) (byte ∷ bytes) (suc i) h = small-take n bytes i (λ k. h (suc k))

pub returns : goal.returns
returns c =
    let bytes : List ℕ = c.args.bytes.now in
    let chunk : List ℕ = c.unwrap.result.now in
    let is : IsFirstChunk bytes chunk 8 = subst (λ (r : Option (Bor (List ℕ))). MatchOption r (length bytes < 8) (λ y. IsFirstChunk bytes y.now 8)) c.unwrap.ensures c.first_chunk.ensures.cases in
    let count : length chunk ≡ 8 = ap length is.same ∙ length-take-le 8 bytes c.requires in
    let small : (i : ℕ) → get_or chunk i 0 < 256 = λ i. rw is.same (small-take 8 bytes i (λ k. omega (arith, c.type_inv.bytes k))) in
    let back : to_le_bytes w64 c.from_le_bytes.result ≡ chunk = le_bytes_8 chunk c.from_le_bytes.result count small c.from_le_bytes.ensures in
    λ i h. sym (le_byte c.from_le_bytes.result i h) ∙ ap (λ (s : List ℕ). get_or s i 0) (back ∙ is.same) ∙ get_or-take 8 bytes i 0 h
