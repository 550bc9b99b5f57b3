-- What the computing instructions compute, on registers of 64 bits (RISC-V Unprivileged ISA 20191213, sections 2.4, 5.2, 7.1 and 7.2).
use Rattle.std.specs.Prelude.{ℕ, ◌+◌, ◌-◌, ◌*◌, ◌/◌, ◌%◌, ◌^◌, ℤ, pos, ◌*ℤ◌, int_div, int_rem, int_lt, Bool, not, nat_lt, nat_le, ◌==◌, if◌then◌else◌, bit_and, bit_or, bit_xor}
use Rattle.std.specs.Int.{w8, w16, w32, w64, cast_signed, cast_unsigned, int_shr}
use Rattle.spec_base.specs.Word.{wrap, word_of_int}
use Rattle.rv_decode.specs.declared.instr.RegOp.{RegOp}
use Rattle.rv_decode.specs.declared.instr.RegOp.TheVariants.{Add, Sll, Slt, Sltu, Xor, Srl, Or, And, Sub, Sra, Mul, Mulh, Mulhsu, Mulhu, Div, Divu, Rem, Remu}
use Rattle.rv_decode.specs.declared.instr.RegWOp.{RegWOp}
use Rattle.rv_decode.specs.declared.instr.RegWOp.TheVariants.{Addw, Sllw, Srlw, Subw, Sraw, Mulw, Divw, Divuw, Remw, Remuw}
use Rattle.rv_decode.specs.declared.instr.ImmOp.{ImmOp}
use Rattle.rv_decode.specs.declared.instr.ImmOp.TheVariants.{Addi, Slti, Sltiu, Xori, Ori, Andi, Slli, Srli, Srai}
use Rattle.rv_decode.specs.declared.instr.ImmWOp.{ImmWOp}
use Rattle.rv_decode.specs.declared.instr.ImmWOp.TheVariants.{Addiw, Slliw, Srliw, Sraiw}
use Rattle.rv_decode.specs.declared.instr.LoadOp.{LoadOp}
use Rattle.rv_decode.specs.declared.instr.LoadOp.TheVariants.{Lb, Lh, Lw, Ld, Lbu, Lhu, Lwu}
use Rattle.rv_decode.specs.declared.instr.StoreOp.{StoreOp}
use Rattle.rv_decode.specs.declared.instr.StoreOp.TheVariants.{Sb, Sh, Sw, Sd}
use Rattle.rv_decode.specs.declared.instr.BranchOp.{BranchOp}
use Rattle.rv_decode.specs.declared.instr.BranchOp.TheVariants.{Beq, Bne, Blt, Bge, Bltu, Bgeu}

-- ---- numbers with a sign

-- a number below 2^64 with its sign
abbrev pub signed : ℕ → ℤ
signed x = cast_signed w64 x

-- the 64 bits of a signed number that 64 bits can hold
abbrev pub unsigned : ℤ → ℕ
unsigned z = cast_unsigned w64 z

-- a difference modulo 2^64, of numbers below 2^64
abbrev pub minus : ℕ → ℕ → ℕ
minus x y = wrap (x + (2 ^ 64 - y))

-- a truth value as 1 or 0
abbrev pub bit : Bool → ℕ
bit b = if b then 1 else 0

-- ---- 64 bits

-- division rounds towards zero; by 0 it gives all ones. Where it overflows it gives the dividend, whose bits the wrapped quotient has
abbrev pub quotient : ℕ → ℕ → ℕ
quotient x y = if y == 0 then 2 ^ 64 - 1 else unsigned (int_div (signed x) (signed y))

-- the remainder by 0 is the dividend
abbrev pub remainder : ℕ → ℕ → ℕ
remainder x y = if y == 0 then x else unsigned (int_rem (signed x) (signed y))

-- what an operation makes of two registers
abbrev pub reg_result : RegOp → ℕ → ℕ → ℕ
reg_result Add x y = wrap (x + y)
reg_result Sll x y = wrap (x * 2 ^ (y % 64))
reg_result Slt x y = bit (int_lt (signed x) (signed y))
reg_result Sltu x y = bit (nat_lt x y)
reg_result Xor x y = bit_xor x y
reg_result Srl x y = x / 2 ^ (y % 64)
reg_result Or x y = bit_or x y
reg_result And x y = bit_and x y
reg_result Sub x y = minus x y
reg_result Sra x y = unsigned (int_shr (signed x) (y % 64))
reg_result Mul x y = wrap (x * y)
reg_result Mulh x y = unsigned (int_shr (signed x *ℤ signed y) 64)
reg_result Mulhsu x y = unsigned (int_shr (signed x *ℤ pos y) 64)
reg_result Mulhu x y = x * y / 2 ^ 64
reg_result Div x y = quotient x y
reg_result Divu x y = if y == 0 then 2 ^ 64 - 1 else x / y
reg_result Rem x y = remainder x y
reg_result Remu x y = if y == 0 then x else x % y

-- ---- 32 bits: the operands are the low words, and the result's sign fills the high word

-- the low word
abbrev pub low : ℕ → ℕ
low x = x % 2 ^ 32

-- a number below 2^32 with its sign extended to 64 bits
abbrev pub extended_word : ℕ → ℕ
extended_word n = unsigned (cast_signed w32 n)

-- division of low words
abbrev pub word_quotient : ℕ → ℕ → ℕ
word_quotient x y = if y == 0 then 2 ^ 64 - 1 else extended_word (cast_unsigned w32 (int_div (cast_signed w32 x) (cast_signed w32 y)))

-- the remainder of low words
abbrev pub word_remainder : ℕ → ℕ → ℕ
word_remainder x y = if y == 0 then extended_word x else unsigned (int_rem (cast_signed w32 x) (cast_signed w32 y))

-- what an operation makes of two low words
abbrev pub reg_w_result : RegWOp → ℕ → ℕ → ℕ
reg_w_result Addw x y = extended_word ((x + y) % 2 ^ 32)
reg_w_result Sllw x y = extended_word (x * 2 ^ (y % 32) % 2 ^ 32)
reg_w_result Srlw x y = extended_word (low x / 2 ^ (y % 32))
reg_w_result Subw x y = extended_word ((x + (2 ^ 64 - y)) % 2 ^ 32)
reg_w_result Sraw x y = unsigned (int_shr (cast_signed w32 (low x)) (y % 32))
reg_w_result Mulw x y = extended_word (x * y % 2 ^ 32)
reg_w_result Divw x y = word_quotient (low x) (low y)
reg_w_result Divuw x y = if low y == 0 then 2 ^ 64 - 1 else extended_word (low x / low y)
reg_w_result Remw x y = word_remainder (low x) (low y)
reg_w_result Remuw x y = if low y == 0 then extended_word (low x) else extended_word (low x % low y)

-- ---- an immediate is the second operand, its sign extended

-- the operation on two registers that an immediate form stands for
abbrev pub register_form : ImmOp → RegOp
register_form Addi = Add
register_form Slti = Slt
register_form Sltiu = Sltu
register_form Xori = Xor
register_form Ori = Or
register_form Andi = And
register_form Slli = Sll
register_form Srli = Srl
register_form Srai = Sra

-- what an operation makes of a register and an immediate
abbrev pub imm_result : ImmOp → ℕ → ℤ → ℕ
imm_result op x imm = reg_result (register_form op) x (word_of_int imm)

-- the same for low words
abbrev pub register_w_form : ImmWOp → RegWOp
register_w_form Addiw = Addw
register_w_form Slliw = Sllw
register_w_form Srliw = Srlw
register_w_form Sraiw = Sraw

-- what an operation makes of a low word and an immediate
abbrev pub imm_w_result : ImmWOp → ℕ → ℤ → ℕ
imm_w_result op x imm = reg_w_result (register_w_form op) x (word_of_int imm)

-- ---- branches, loads and stores

-- whether two registers compare so that the branch is taken
abbrev pub is_taken : BranchOp → ℕ → ℕ → Bool
is_taken Beq x y = x == y
is_taken Bne x y = not (x == y)
is_taken Blt x y = int_lt (signed x) (signed y)
is_taken Bge x y = not (int_lt (signed x) (signed y))
is_taken Bltu x y = nat_lt x y
is_taken Bgeu x y = nat_le y x

-- how many bytes a load takes
abbrev pub load_width : LoadOp → ℕ
load_width Lb = 1
load_width Lh = 2
load_width Lw = 4
load_width Ld = 8
load_width Lbu = 1
load_width Lhu = 2
load_width Lwu = 4

-- what a load makes of the number of its bytes
abbrev pub extended : LoadOp → ℕ → ℕ
extended Lb n = unsigned (cast_signed w8 n)
extended Lh n = unsigned (cast_signed w16 n)
extended Lw n = extended_word n
extended Ld n = n
extended Lbu n = n
extended Lhu n = n
extended Lwu n = n

-- how many bytes a store puts
abbrev pub store_width : StoreOp → ℕ
store_width Sb = 1
store_width Sh = 2
store_width Sw = 4
store_width Sd = 8
