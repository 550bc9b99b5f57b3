-- Hexadecimal digits, written from the last.
use Rattle.std.proofs.Common.{◌≡◌, ℕ, zero, suc, ◌+◌, ◌*◌, ◌/◌, ◌%◌, ◌^◌, ◌≤◌, ◌<◌, true, false, ◌==◌, List, [], ◌∷◌, length, drop, slice_set, refl, ap, sym, ◌∙◌, arith, if◌then◌else◌}
use Rattle.std.specs.Fmt.{digits, digits_onto, digit_glyph}
use Rattle.std.proofs.lemmas.Bool.Decides.{nat_tests}
use Rattle.std.proofs.lemmas.Grind.{pow_more}
use Rattle.std.proofs.lemmas.List.{drop-set}

-- the digits of a number of two or more, of which the last is written
onto_more : (k n : ℕ) (after : List ℕ) → 16 ≤ n → digits_onto (suc k) 16 false n after ≡ digits_onto k 16 false (n / 16) (digit_glyph false (n % 16) ∷ after)
onto_more k n after h =
    let test : (n / 16 == 0) ≡ false = grind (arith, nat_tests) in
    ap (λ b. if b then digit_glyph false (n % 16) ∷ after else digits_onto k 16 false (n / 16) (digit_glyph false (n % 16) ∷ after)) test

-- the digit of a number of one
onto_one : (k n : ℕ) (after : List ℕ) → n < 16 → digits_onto (suc k) 16 false n after ≡ digit_glyph false (n % 16) ∷ after
onto_one k n after h =
    let test : (n / 16 == 0) ≡ true = grind (arith, nat_tests) in
    ap (λ b. if b then digit_glyph false (n % 16) ∷ after else digits_onto k 16 false (n / 16) (digit_glyph false (n % 16) ∷ after)) test

-- what is written behind place `at` of a buffer of 16, and how much of the number is left
pub record Writes (number rest at : ℕ) (buffer : List ℕ) : Type 0 where
  pub digits_are : digits_onto (suc at + 48) 16 false rest (drop (at + 1) buffer) ≡ digits 16 false number
  pub fits : rest < 16 * 16 ^ at

-- nothing is written
pub first-Writes : (number : ℕ) (buffer : List ℕ) → number < 2 ^ 64 → length buffer ≡ 16 → Writes number number 15 buffer
unfolding digits
first-Writes number buffer small h =
    let none : drop 16 buffer ≡ [] = nothing_left buffer 16 h in
    record { digits_are = ap (λ l. digits_onto 64 16 false number l) none; fits = small }
  where
    nothing_left : (xs : List ℕ) (n : ℕ) → length xs ≡ n → drop n xs ≡ []
    nothing_left [] zero e = refl
    nothing_left [] (suc n) e = refl
    nothing_left (x ∷ xs) zero e = cc
    nothing_left (x ∷ xs) (suc n) e = nothing_left xs n (omega (arith, e))

-- a power of 16 is 16 times the one before
power : (n : ℕ) → 16 ^ (n + 1) ≡ 16 * 16 ^ n
power n = pow_more 16 n ∙ omega arith

-- one digit more
pub next-Writes : (number rest at : ℕ) (buffer : List ℕ) → Writes number rest (at + 1) buffer → 16 ≤ rest → at + 1 < length buffer
    → Writes number (rest / 16) at (slice_set buffer (at + 1) (digit_glyph false (rest % 16)))
next-Writes number rest at buffer h more within =
    let written : drop (at + 1) (slice_set buffer (at + 1) (digit_glyph false (rest % 16))) ≡ digit_glyph false (rest % 16) ∷ drop (at + 1 + 1) buffer = drop-set buffer (at + 1) (digit_glyph false (rest % 16)) within in
    let fuel : suc (at + 1) + 48 ≡ suc (suc at + 48) = omega arith in
    record {
      digits_are = ap (λ l. digits_onto (suc at + 48) 16 false (rest / 16) l) written ∙ (sym (onto_more (suc at + 48) rest (drop (at + 1 + 1) buffer) more) ∙ (ap (λ k. digits_onto k 16 false rest (drop (at + 1 + 1) buffer)) (sym fuel) ∙ h.digits_are));
      fits = omega (arith, h.fits, power at);
    }

-- the last digit
pub last-Writes : (number rest at : ℕ) (buffer : List ℕ) → Writes number rest at buffer → rest < 16 → at < length buffer
    → drop at (slice_set buffer at (digit_glyph false (rest % 16))) ≡ digits 16 false number
last-Writes number rest at buffer h few within =
    let written : drop at (slice_set buffer at (digit_glyph false (rest % 16))) ≡ digit_glyph false (rest % 16) ∷ drop (at + 1) buffer = drop-set buffer at (digit_glyph false (rest % 16)) within in
    let fuel : suc at + 48 ≡ suc (at + 48) = omega arith in
    written ∙ (sym (onto_one (at + 48) rest (drop (at + 1) buffer) few) ∙ (ap (λ k. digits_onto k 16 false rest (drop (at + 1) buffer)) (sym fuel) ∙ h.digits_are))
