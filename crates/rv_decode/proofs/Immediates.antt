-- Two's complement, both ways.
use Rattle.std.proofs.Common.{◌≡◌, ℕ, ◌%◌, ◌^◌, ◌<◌, ℤ, pos, arith}
use Rattle.std.proofs.lemmas.Int.{ints}
use Rattle.rv_decode.specs.Fields.{sign_extended}
use Rattle.rv_decode.specs.Formats.{field_of, FitsIn, IsMultipleOf, IsBelow}

pub sign_extended-field_of-12 : (z : ℤ) → FitsIn 12 z → sign_extended 12 (field_of 12 z) ≡ z
sign_extended-field_of-12 z h = grind (arith, ints)

pub sign_extended-field_of-13 : (z : ℤ) → FitsIn 13 z → sign_extended 13 (field_of 13 z) ≡ z
sign_extended-field_of-13 z h = grind (arith, ints)

pub sign_extended-field_of-21 : (z : ℤ) → FitsIn 21 z → sign_extended 21 (field_of 21 z) ≡ z
sign_extended-field_of-21 z h = grind (arith, ints)

pub sign_extended-field_of-32 : (z : ℤ) → FitsIn 32 z → sign_extended 32 (field_of 32 z) ≡ z
sign_extended-field_of-32 z h = grind (arith, ints)

pub below-12 : (z : ℤ) → FitsIn 12 z → field_of 12 z < 2 ^ 12
below-12 z h = grind (arith, ints)

pub below-13 : (z : ℤ) → FitsIn 13 z → field_of 13 z < 2 ^ 13
below-13 z h = grind (arith, ints)

pub below-21 : (z : ℤ) → FitsIn 21 z → field_of 21 z < 2 ^ 21
below-21 z h = grind (arith, ints)

pub below-32 : (z : ℤ) → FitsIn 32 z → field_of 32 z < 2 ^ 32
below-32 z h = grind (arith, ints)

pub even-13 : (z : ℤ) → FitsIn 13 z → IsMultipleOf 2 z → field_of 13 z % 2 ≡ 0
even-13 z h m = grind (arith, ints)

pub even-21 : (z : ℤ) → FitsIn 21 z → IsMultipleOf 2 z → field_of 21 z % 2 ≡ 0
even-21 z h m = grind (arith, ints)

pub whole-32 : (z : ℤ) → FitsIn 32 z → IsMultipleOf 4096 z → field_of 32 z % 4096 ≡ 0
whole-32 z h m = grind (arith, ints)

pub shift-5 : (z : ℤ) → IsBelow 32 z → (field_of 5 z < 32) × (pos (field_of 5 z) ≡ z)
shift-5 z h = grind (arith, ints)

pub shift-6 : (z : ℤ) → IsBelow 64 z → (field_of 6 z < 64) × (pos (field_of 6 z) ≡ z)
shift-6 z h = grind (arith, ints)

pub field_of-sign_extended-12 : (n : ℕ) → n < 2 ^ 12 → field_of 12 (sign_extended 12 n) ≡ n
field_of-sign_extended-12 n h = grind (arith, ints)

pub field_of-sign_extended-13 : (n : ℕ) → n < 2 ^ 13 → field_of 13 (sign_extended 13 n) ≡ n
field_of-sign_extended-13 n h = grind (arith, ints)

pub field_of-sign_extended-21 : (n : ℕ) → n < 2 ^ 21 → field_of 21 (sign_extended 21 n) ≡ n
field_of-sign_extended-21 n h = grind (arith, ints)

pub field_of-sign_extended-32 : (n : ℕ) → n < 2 ^ 32 → field_of 32 (sign_extended 32 n) ≡ n
field_of-sign_extended-32 n h = grind (arith, ints)
