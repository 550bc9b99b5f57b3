-- The result of each computing instruction, and of each load, is below 2^64 where its operands are, and bytes are below 256.
use Rattle.std.proofs.Common.{ℕ, zero, suc, ◌+◌, ◌-◌, ◌*◌, ◌/◌, ◌%◌, ◌^◌, ◌≤◌, ◌<◌, Bool, true, false, ℤ, pos, negsuc, ◌==◌, arith, div-le_self, lit<, if◌then◌else◌}
use Rattle.std.specs.Prelude.{int_div, int_rem, ◌*ℤ◌, nat_abs, neg_ℤ}
use Rattle.std.proofs.lemmas.Bool.Decides.{nat_tests}
use Rattle.std.specs.Int.{w8, w16, w32, w64, cast_signed, cast_unsigned, int_shr}
use Rattle.std.proofs.lemmas.Nat.{and_le_l, or_lt, xor_lt, div_below}
use Rattle.std.proofs.Math.Nat.{mod-le, mul-le-mul_right}
use Rattle.spec_base.specs.Word.{wrap, word_of_int}
use Rattle.rv_decode.specs.declared.instr.RegOp.{RegOp}
use Rattle.rv_decode.specs.declared.instr.RegOp.TheVariants.{Add, Sll, Slt, Sltu, Xor, Srl, Or, And, Sub, Sra, Mul, Mulh, Mulhsu, Mulhu, Div, Divu, Rem, Remu}
use Rattle.rv_decode.specs.declared.instr.RegWOp.{RegWOp}
use Rattle.rv_decode.specs.declared.instr.RegWOp.TheVariants.{Addw, Sllw, Srlw, Subw, Sraw, Mulw, Divw, Divuw, Remw, Remuw}
use Rattle.rv_decode.specs.declared.instr.ImmOp.{ImmOp}
use Rattle.rv_decode.specs.declared.instr.ImmWOp.{ImmWOp}
use Rattle.rv_decode.specs.declared.instr.LoadOp.{LoadOp}
use Rattle.rv_decode.specs.declared.instr.LoadOp.TheVariants.{Lb, Lh, Lw, Ld, Lbu, Lhu, Lwu}
use Rattle.rv_model.specs.Memory.{Memory, loaded}
use Rattle.rv_model.specs.Arithmetic.{signed, unsigned, bit, extended_word, low, reg_result, reg_w_result, imm_result, imm_w_result, register_form, register_w_form, load_width, extended}

-- ---- numbers

-- a number of 64 bits
abbrev Small : ℕ → Type 0
Small n = n < 2 ^ 64

-- both choices are below a bound
if-below : (b : Bool) (x y k : ℕ) → x < k → y < k → (if b then x else y) < k
if-below true x y k h l = h
if-below false x y k h l = l

-- a bit is small
bit-small : (b : Bool) → Small (bit b)
bit-small true = lit< tt
bit-small false = lit< tt

-- so are 64 ones
ones-small : Small (2 ^ 64 - 1)
ones-small = lit< tt

-- so is what is taken modulo 2^64
pub wrap-small : (n : ℕ) → Small (wrap n)
wrap-small n = omega arith

-- so are the 64 bits of a signed number
pub word_of_int-small : (z : ℤ) → Small (word_of_int z)
word_of_int-small (pos n) = omega arith
word_of_int-small (negsuc n) = omega arith

-- so is a quotient of a small number
quotient-small : (n k : ℕ) → Small n → Small (n / k)
quotient-small n k h = omega (arith, div-le_self n k)

-- so is its remainder
mod-small : (n k : ℕ) → Small n → Small (n % k)
mod-small n k h = omega (arith, mod-le n k)

-- so is the high half of a product of 128 bits
high_half-small : (x y : ℕ) → x ≤ 2 ^ 64 → y < 2 ^ 64 → Small (x * y / 2 ^ 64)
high_half-small x y h l =
    let product : x * y ≤ 2 ^ 64 * y = mul-le-mul_right y h in
    div_below (x * y) (2 ^ 64) (2 ^ 64) (lit< tt) (omega (arith, product, l))

-- ---- numbers with a sign

-- the bits of a negative number are small
negative-small : (n : ℕ) → Small (unsigned (negsuc n))
negative-small n = omega arith

-- so are those of an opposite
opposite-small : (n : ℕ) → Small (unsigned (neg_ℤ (pos n)))
opposite-small zero = lit< tt
opposite-small (suc n) = negative-small n

-- 64 bits read as a number of size at most 2^63
signed_64-abs : (n : ℕ) → nat_abs (cast_signed w64 n) ≤ 2 ^ 63
signed_64-abs n = grind (arith, nat_tests)

-- 32 bits of at most 2^31
signed_32-abs : (n : ℕ) → nat_abs (cast_signed w32 n) ≤ 2 ^ 31
signed_32-abs n = grind (arith, nat_tests)

-- 16 bits of at most 2^15
signed_16-abs : (n : ℕ) → nat_abs (cast_signed w16 n) ≤ 2 ^ 15
signed_16-abs n = grind (arith, nat_tests)

-- 8 bits of at most 2^7
signed_8-abs : (n : ℕ) → nat_abs (cast_signed w8 n) ≤ 2 ^ 7
signed_8-abs n = grind (arith, nat_tests)

-- the bits of a number of small size are small
unsigned-small : (z : ℤ) → Small (nat_abs z) → Small (unsigned z)
unsigned-small (pos n) h = h
unsigned-small (negsuc n) h = negative-small n

-- so are those of its quotient
int_div-small : (x y : ℤ) → Small (nat_abs x) → Small (unsigned (int_div x y))
int_div-small (pos a) (pos b) h = quotient-small a b h
int_div-small (pos a) (negsuc b) h = opposite-small (a / suc b)
int_div-small (negsuc a) (pos b) h = opposite-small (suc a / b)
int_div-small (negsuc a) (negsuc b) h = quotient-small (suc a) (suc b) h

-- so are those of its remainder
int_rem-small : (x y : ℤ) → Small (nat_abs x) → Small (unsigned (int_rem x y))
int_rem-small (pos a) y h = mod-small a (nat_abs y) h
int_rem-small (negsuc a) y h = opposite-small (suc a % nat_abs y)

-- so are those of it shifted to the right
int_shr-small : (x : ℤ) (k : ℕ) → Small (nat_abs x) → Small (unsigned (int_shr x k))
int_shr-small (pos a) k h = quotient-small a (2 ^ k) h
int_shr-small (negsuc a) k h = negative-small (a / 2 ^ k)

-- so are those of the high half of an opposite
opposite_high-small : (n : ℕ) → Small (unsigned (int_shr (neg_ℤ (pos n)) 64))
opposite_high-small zero = lit< tt
opposite_high-small (suc n) = negative-small (n / 2 ^ 64)

-- so are those of the high half of a signed product
int_high_half-small : (x y : ℤ) → nat_abs x ≤ 2 ^ 64 → Small (nat_abs y) → Small (unsigned (int_shr (x *ℤ y) 64))
int_high_half-small (pos a) (pos b) h l = high_half-small a b h l
int_high_half-small (pos a) (negsuc b) h l = opposite_high-small (a * suc b)
int_high_half-small (negsuc a) (pos b) h l = opposite_high-small (suc a * b)
int_high_half-small (negsuc a) (negsuc b) h l = high_half-small (suc a) (suc b) h l

-- the size of a signed register
signed-small : (n : ℕ) → Small (nat_abs (cast_signed w64 n))
signed-small n = omega (arith, signed_64-abs n)

-- and of its low word
signed_word-small : (n : ℕ) → Small (nat_abs (cast_signed w32 n))
signed_word-small n = omega (arith, signed_32-abs n)

-- a word with its sign extended is small
extended_word-small : (n : ℕ) → Small (extended_word n)
extended_word-small n = unsigned-small (cast_signed w32 n) (signed_word-small n)

-- ---- computing instructions

-- each operation on 64 bits has a small result
pub reg_result-small : (op : RegOp) (x y : ℕ) → Small x → Small y → Small (reg_result op x y)
reg_result-small Add x y h l = wrap-small (x + y)
reg_result-small Sll x y h l = wrap-small (x * 2 ^ (y % 64))
reg_result-small Slt x y h l = bit-small _
reg_result-small Sltu x y h l = bit-small _
reg_result-small Xor x y h l = xor_lt 64 x y h l
reg_result-small Srl x y h l = quotient-small x (2 ^ (y % 64)) h
reg_result-small Or x y h l = or_lt 64 x y h l
reg_result-small And x y h l = omega (arith, and_le_l x y)
reg_result-small Sub x y h l = wrap-small (x + (2 ^ 64 - y))
reg_result-small Sra x y h l = int_shr-small (signed x) (y % 64) (signed-small x)
reg_result-small Mul x y h l = wrap-small (x * y)
reg_result-small Mulh x y h l = int_high_half-small (signed x) (signed y) (omega (arith, signed-small x)) (signed-small y)
reg_result-small Mulhsu x y h l = int_high_half-small (signed x) (pos y) (omega (arith, signed-small x)) l
reg_result-small Mulhu x y h l = high_half-small x y (omega (arith, h)) l
reg_result-small Div x y h l = if-below (y == 0) _ _ (2 ^ 64) ones-small (int_div-small (signed x) (signed y) (signed-small x))
reg_result-small Divu x y h l = if-below (y == 0) _ _ (2 ^ 64) ones-small (quotient-small x y h)
reg_result-small Rem x y h l = if-below (y == 0) _ _ (2 ^ 64) h (int_rem-small (signed x) (signed y) (signed-small x))
reg_result-small Remu x y h l = if-below (y == 0) _ _ (2 ^ 64) h (mod-small x y h)

-- each operation on 32 bits has
pub reg_w_result-small : (op : RegWOp) (x y : ℕ) → Small (reg_w_result op x y)
reg_w_result-small Addw x y = extended_word-small ((x + y) % 2 ^ 32)
reg_w_result-small Sllw x y = extended_word-small (x * 2 ^ (y % 32) % 2 ^ 32)
reg_w_result-small Srlw x y = extended_word-small (low x / 2 ^ (y % 32))
reg_w_result-small Subw x y = extended_word-small ((x + (2 ^ 64 - y)) % 2 ^ 32)
reg_w_result-small Sraw x y = int_shr-small (cast_signed w32 (low x)) (y % 32) (signed_word-small (low x))
reg_w_result-small Mulw x y = extended_word-small (x * y % 2 ^ 32)
reg_w_result-small Divw x y =
    if-below (low y == 0) _ _ (2 ^ 64) ones-small
    (extended_word-small (cast_unsigned w32 (int_div (cast_signed w32 (low x)) (cast_signed w32 (low y)))))
reg_w_result-small Divuw x y = if-below (low y == 0) _ _ (2 ^ 64) ones-small (extended_word-small (low x / low y))
reg_w_result-small Remw x y =
    if-below (low y == 0) _ _ (2 ^ 64) (extended_word-small (low x))
    (int_rem-small (cast_signed w32 (low x)) (cast_signed w32 (low y)) (signed_word-small (low x)))
reg_w_result-small Remuw x y = if-below (low y == 0) _ _ (2 ^ 64) (extended_word-small (low x)) (extended_word-small (low x % low y))

-- so has each operation with an immediate
pub imm_result-small : (op : ImmOp) (x : ℕ) (imm : ℤ) → Small x → Small (imm_result op x imm)
imm_result-small op x imm h = reg_result-small (register_form op) x (word_of_int imm) h (word_of_int-small imm)

-- on 64 bits and on 32
pub imm_w_result-small : (op : ImmWOp) (x : ℕ) (imm : ℤ) → Small (imm_w_result op x imm)
imm_w_result-small op x imm = reg_w_result-small (register_w_form op) x (word_of_int imm)

-- ---- loads

-- each byte is below 256
abbrev pub Bytes : Memory → Type 0
Bytes m = (a : ℕ) → m a < 256

module _ (m : Memory) (h : Bytes m) where
  -- one byte more
  byte_up : (a k : ℕ) → loaded m (a + 1) k < 256 ^ k → loaded m a (suc k) < 256 ^ suc k
  unfolding loaded
  byte_up a k l = omega (arith, h a)

  -- n bytes write a number below 256^n
  loaded-below : (a n : ℕ) → loaded m a n < 256 ^ n
  unfolding loaded
  loaded-below a zero = lit< tt
  loaded-below a (suc n) = byte_up a n (loaded-below (a + 1) n)

-- each load gives a small number
pub load-small : (op : LoadOp) (m : Memory) (a : ℕ) → Bytes m → Small (extended op (loaded m a (load_width op)))
load-small Lb m a h = unsigned-small (cast_signed w8 n) (omega (arith, signed_8-abs n))
  where
    n : ℕ
    n = loaded m a 1
load-small Lh m a h = unsigned-small (cast_signed w16 n) (omega (arith, signed_16-abs n))
  where
    n : ℕ
    n = loaded m a 2
load-small Lw m a h = extended_word-small (loaded m a 4)
load-small Ld m a h = loaded-below m h a 8
load-small Lbu m a h = omega (arith, loaded-below m h a 1)
load-small Lhu m a h = omega (arith, loaded-below m h a 2)
load-small Lwu m a h = omega (arith, loaded-below m h a 4)
