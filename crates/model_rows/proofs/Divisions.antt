-- Worked divisions: by zero, and where the quotient overflows.
use Rattle.std.proofs.Common.{◌≡◌, ℕ, refl}
use Rattle.rv_decode.specs.declared.instr.RegOp.TheVariants.{Div, Divu, Rem, Remu}
use Rattle.rv_decode.specs.declared.instr.RegWOp.TheVariants.{Divw, Divuw, Remw, Remuw}
use Rattle.rv_model.specs.Arithmetic.{reg_result, reg_w_result, extended_word, low}

-- ---- 64 bits by zero: the quotient is all ones, and the remainder is the dividend

div-by_zero : (x : ℕ) → reg_result Div x 0 ≡ 0xFFFF_FFFF_FFFF_FFFF
div-by_zero x = refl

divu-by_zero : (x : ℕ) → reg_result Divu x 0 ≡ 0xFFFF_FFFF_FFFF_FFFF
divu-by_zero x = refl

rem-by_zero : (x : ℕ) → reg_result Rem x 0 ≡ x
rem-by_zero x = refl

remu-by_zero : (x : ℕ) → reg_result Remu x 0 ≡ x
remu-by_zero x = refl

-- ---- 32 bits by zero: the same of the low words, and the remainder's sign is extended

divw-by_zero : (x : ℕ) → reg_w_result Divw x 0 ≡ 0xFFFF_FFFF_FFFF_FFFF
divw-by_zero x = refl

divuw-by_zero : (x : ℕ) → reg_w_result Divuw x 0 ≡ 0xFFFF_FFFF_FFFF_FFFF
divuw-by_zero x = refl

remw-by_zero : (x : ℕ) → reg_w_result Remw x 0 ≡ extended_word (low x)
remw-by_zero x = refl

remuw-by_zero : (x : ℕ) → reg_w_result Remuw x 0 ≡ extended_word (low x)
remuw-by_zero x = refl

remw-by_zero_positive : reg_w_result Remw 0x0123_4567_7FFF_FFFF 0 ≡ 0x7FFF_FFFF
remw-by_zero_positive = refl

remw-by_zero_negative : reg_w_result Remw 0x0123_4567_8000_0001 0 ≡ 0xFFFF_FFFF_8000_0001
remw-by_zero_negative = refl

remuw-by_zero_negative : reg_w_result Remuw 0x0123_4567_8000_0001 0 ≡ 0xFFFF_FFFF_8000_0001
remuw-by_zero_negative = refl

-- a divisor whose low word alone is zero counts as zero
divw-by_low_zero : reg_w_result Divw 7 0x1_0000_0000 ≡ 0xFFFF_FFFF_FFFF_FFFF
divw-by_low_zero = refl

divuw-by_low_zero : reg_w_result Divuw 7 0x1_0000_0000 ≡ 0xFFFF_FFFF_FFFF_FFFF
divuw-by_low_zero = refl

remw-by_low_zero : reg_w_result Remw 7 0x1_0000_0000 ≡ 7
remw-by_low_zero = refl

remuw-by_low_zero : reg_w_result Remuw 7 0x1_0000_0000 ≡ 7
remuw-by_low_zero = refl

-- ---- the least number by -1: the quotient is the dividend, and the remainder is 0

div-overflow : reg_result Div 0x8000_0000_0000_0000 0xFFFF_FFFF_FFFF_FFFF ≡ 0x8000_0000_0000_0000
div-overflow = refl

rem-overflow : reg_result Rem 0x8000_0000_0000_0000 0xFFFF_FFFF_FFFF_FFFF ≡ 0
rem-overflow = refl

divw-overflow : reg_w_result Divw 0x8000_0000 0xFFFF_FFFF ≡ 0xFFFF_FFFF_8000_0000
divw-overflow = refl

remw-overflow : reg_w_result Remw 0x8000_0000 0xFFFF_FFFF ≡ 0
remw-overflow = refl

-- without signs the same operands don't overflow
divu-greatest : reg_result Divu 0x8000_0000_0000_0000 0xFFFF_FFFF_FFFF_FFFF ≡ 0
divu-greatest = refl

remu-greatest : reg_result Remu 0x8000_0000_0000_0000 0xFFFF_FFFF_FFFF_FFFF ≡ 0x8000_0000_0000_0000
remu-greatest = refl

divuw-greatest : reg_w_result Divuw 0x8000_0000 0xFFFF_FFFF ≡ 0
divuw-greatest = refl

remuw-greatest : reg_w_result Remuw 0x8000_0000 0xFFFF_FFFF ≡ 0xFFFF_FFFF_8000_0000
remuw-greatest = refl

-- ---- -7 by 2, and 7 by -2: quotients round towards zero, and a remainder has the dividend's sign

div-negative_by_positive : reg_result Div 0xFFFF_FFFF_FFFF_FFF9 2 ≡ 0xFFFF_FFFF_FFFF_FFFD
div-negative_by_positive = refl

rem-negative_by_positive : reg_result Rem 0xFFFF_FFFF_FFFF_FFF9 2 ≡ 0xFFFF_FFFF_FFFF_FFFF
rem-negative_by_positive = refl

div-positive_by_negative : reg_result Div 7 0xFFFF_FFFF_FFFF_FFFE ≡ 0xFFFF_FFFF_FFFF_FFFD
div-positive_by_negative = refl

rem-positive_by_negative : reg_result Rem 7 0xFFFF_FFFF_FFFF_FFFE ≡ 1
rem-positive_by_negative = refl

divw-negative_by_positive : reg_w_result Divw 0xFFFF_FFF9 2 ≡ 0xFFFF_FFFF_FFFF_FFFD
divw-negative_by_positive = refl

remw-negative_by_positive : reg_w_result Remw 0xFFFF_FFF9 2 ≡ 0xFFFF_FFFF_FFFF_FFFF
remw-negative_by_positive = refl

divw-positive_by_negative : reg_w_result Divw 7 0xFFFF_FFFE ≡ 0xFFFF_FFFF_FFFF_FFFD
divw-positive_by_negative = refl

remw-positive_by_negative : reg_w_result Remw 7 0xFFFF_FFFE ≡ 1
remw-positive_by_negative = refl
