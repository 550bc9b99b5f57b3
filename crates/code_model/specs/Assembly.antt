-- Short names for the instructions of the emitted code, as assemblers write them (RISC-V Unprivileged ISA 20191213, chapter 25).
use Rattle.std.specs.Prelude.{ℕ, ◌+◌, ◌-◌, ◌*◌, ◌/◌, ◌%◌, ◌^◌, true, false, ℤ, pos, negsuc, nat_le}
use Rattle.rv_decode.specs.Fields.{sign_extended}
use Rattle.rv_decode.specs.declared.instr.Instr.{Instr}
use Rattle.rv_decode.specs.declared.instr.Instr.TheVariants.{Lui, Jal, Jalr, Branch, Load, Store, OpImm, Op}
use Rattle.rv_decode.specs.declared.instr.BranchOp.{BranchOp}
use Rattle.rv_decode.specs.declared.instr.ImmOp.TheVariants.{Addi, Andi, Slli, Srli}
use Rattle.rv_decode.specs.declared.instr.LoadOp.TheVariants.{Lwu, Ld}
use Rattle.rv_decode.specs.declared.instr.StoreOp.TheVariants.{Sw, Sd}
use Rattle.rv_decode.specs.declared.instr.RegOp.TheVariants.{Add, Sub}

-- ---- numbers in instructions

-- a difference of two numbers
abbrev pub diff : ℕ → ℕ → ℤ
diff a b = elim (nat_le b a) [ true ↦ pos (a - b) | false ↦ negsuc (b - a - 1) ]

-- what lui makes of the field hi v, plus lo v, is v modulo 2^32 with its sign extended
abbrev pub hi : ℕ → ℕ
hi v = (v + 0x800) / 4096 % 2 ^ 20

-- the lower 12 bits, with their sign
abbrev pub lo : ℕ → ℤ
lo v = sign_extended 12 (v % 4096)

-- ---- instructions

-- lui with a field of 20 bits, whose sign is extended
abbrev pub lui : ℕ → ℕ → Instr
lui rd field = Lui rd (sign_extended 32 (4096 * field))

-- addi rd, rs1, imm
abbrev pub addi : ℕ → ℕ → ℤ → Instr
addi rd rs1 imm = OpImm Addi rd rs1 imm

-- andi rd, rs1, imm
abbrev pub andi : ℕ → ℕ → ℤ → Instr
andi rd rs1 imm = OpImm Andi rd rs1 imm

-- slli rd, rs1, n
abbrev pub slli : ℕ → ℕ → ℕ → Instr
slli rd rs1 n = OpImm Slli rd rs1 (pos n)

-- srli rd, rs1, n
abbrev pub srli : ℕ → ℕ → ℕ → Instr
srli rd rs1 n = OpImm Srli rd rs1 (pos n)

-- add rd, rs1, rs2
abbrev pub add : ℕ → ℕ → ℕ → Instr
add rd rs1 rs2 = Op Add rd rs1 rs2

-- sub rd, rs1, rs2
abbrev pub sub : ℕ → ℕ → ℕ → Instr
sub rd rs1 rs2 = Op Sub rd rs1 rs2

-- ld rd, offset(rs1)
abbrev pub ld : ℕ → ℤ → ℕ → Instr
ld rd offset rs1 = Load Ld rd rs1 offset

-- lwu rd, offset(rs1)
abbrev pub lwu : ℕ → ℤ → ℕ → Instr
lwu rd offset rs1 = Load Lwu rd rs1 offset

-- sd rs2, offset(rs1)
abbrev pub sd : ℕ → ℤ → ℕ → Instr
sd rs2 offset rs1 = Store Sd rs1 rs2 offset

-- sw rs2, offset(rs1)
abbrev pub sw : ℕ → ℤ → ℕ → Instr
sw rs2 offset rs1 = Store Sw rs1 rs2 offset

-- jalr rd, offset(rs1)
abbrev pub jalr : ℕ → ℤ → ℕ → Instr
jalr rd offset rs1 = Jalr rd rs1 offset

-- addi x0, x0, 0
abbrev pub nop : Instr
nop = addi 0 0 (pos 0)

-- ---- branches and jumps between words of one helper, which are counted from 1

-- a branch from word k to another word of the same list
abbrev pub branch_to : BranchOp → ℕ → ℕ → ℕ → ℕ → Instr
branch_to op rs1 rs2 from to = Branch op rs1 rs2 (diff (4 * to) (4 * from))

-- a jump from word k to another word of the same list
abbrev pub jump_to : ℕ → ℕ → Instr
jump_to from to = Jal 0 (diff (4 * to) (4 * from))

-- ---- private places of 8 bytes, as offsets from x0

-- where x31 is spilled
abbrev pub X31 : ℤ
X31 = negsuc 7

-- where x30 is
abbrev pub X30 : ℤ
X30 = negsuc 15

-- where x29 is
abbrev pub X29 : ℤ
X29 = negsuc 23

-- where x28 is
abbrev pub X28 : ℤ
X28 = negsuc 31

-- the address of an access, or of a jump's target
abbrev pub ADR : ℤ
ADR = negsuc 39

-- where a helper returns to
abbrev pub RET : ℤ
RET = negsuc 47

-- the address of a table entry
abbrev pub ENT : ℤ
ENT = negsuc 55

-- the key of a call
abbrev pub VAL : ℤ
VAL = negsuc 63
