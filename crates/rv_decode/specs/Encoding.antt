-- The word of an instruction, and which instructions have one (RISC-V Unprivileged ISA 20191213, chapter 24; the gate instructions are this project's own).
use Rattle.std.specs.Prelude.{◌≡◌, ℕ, ◌+◌, ◌*◌, ◌^◌, ◌<◌, true, false, ℤ}
use Rattle.spec_base.specs.Park.{park_number}
use Rattle.rv_decode.specs.Fields.{opcode, funct3}
use Rattle.rv_decode.specs.Formats.{field_of, FitsIn, IsMultipleOf, IsBelow, r_word, i_word, s_word, b_word, u_word, j_word}
use Rattle.rv_decode.specs.declared.instr.Instr.{Instr}
use Rattle.rv_decode.specs.declared.instr.Instr.TheVariants.{Lui, Auipc, Jal, Jalr, Branch, Load, Store, OpImm, OpImmW, Op, OpW, Fence, Ecall, Ebreak, Hgate, Hleave, Hsite, Hkey, Hstop, Hrestart, Hcall, Hpark, Illegal}
use Rattle.rv_decode.specs.declared.instr.BranchOp.{BranchOp}
use Rattle.rv_decode.specs.declared.instr.BranchOp.TheVariants.{Beq, Bne, Blt, Bge, Bltu, Bgeu}
use Rattle.rv_decode.specs.declared.instr.LoadOp.{LoadOp}
use Rattle.rv_decode.specs.declared.instr.LoadOp.TheVariants.{Lb, Lh, Lw, Ld, Lbu, Lhu, Lwu}
use Rattle.rv_decode.specs.declared.instr.StoreOp.{StoreOp}
use Rattle.rv_decode.specs.declared.instr.StoreOp.TheVariants.{Sb, Sh, Sw, Sd}
use Rattle.rv_decode.specs.declared.instr.ImmOp.{ImmOp}
use Rattle.rv_decode.specs.declared.instr.ImmOp.TheVariants.{Addi, Slti, Sltiu, Xori, Ori, Andi, Slli, Srli, Srai}
use Rattle.rv_decode.specs.declared.instr.ImmWOp.{ImmWOp}
use Rattle.rv_decode.specs.declared.instr.ImmWOp.TheVariants.{Addiw, Slliw, Srliw, Sraiw}
use Rattle.rv_decode.specs.declared.instr.RegOp.{RegOp}
use Rattle.rv_decode.specs.declared.instr.RegOp.TheVariants.{Add, Sll, Slt, Sltu, Xor, Srl, Or, And, Sub, Sra, Mul, Mulh, Mulhsu, Mulhu, Div, Divu, Rem, Remu}
use Rattle.rv_decode.specs.declared.instr.RegWOp.{RegWOp}
use Rattle.rv_decode.specs.declared.instr.RegWOp.TheVariants.{Addw, Sllw, Srlw, Subw, Sraw, Mulw, Divw, Divuw, Remw, Remuw}

-- funct3 of each branch (chapter 24, RV32I)
abbrev pub branch_funct3 : BranchOp → ℕ
branch_funct3 Beq = 0b000
branch_funct3 Bne = 0b001
branch_funct3 Blt = 0b100
branch_funct3 Bge = 0b101
branch_funct3 Bltu = 0b110
branch_funct3 Bgeu = 0b111

-- funct3 of each load (chapter 24, RV32I and RV64I)
abbrev pub load_funct3 : LoadOp → ℕ
load_funct3 Lb = 0b000
load_funct3 Lh = 0b001
load_funct3 Lw = 0b010
load_funct3 Ld = 0b011
load_funct3 Lbu = 0b100
load_funct3 Lhu = 0b101
load_funct3 Lwu = 0b110

-- funct3 of each store (chapter 24, RV32I and RV64I)
abbrev pub store_funct3 : StoreOp → ℕ
store_funct3 Sb = 0b000
store_funct3 Sh = 0b001
store_funct3 Sw = 0b010
store_funct3 Sd = 0b011

-- funct3 of each operation on an immediate (chapter 24, RV32I and RV64I)
abbrev pub imm_funct3 : ImmOp → ℕ
imm_funct3 Addi = 0b000
imm_funct3 Slti = 0b010
imm_funct3 Sltiu = 0b011
imm_funct3 Xori = 0b100
imm_funct3 Ori = 0b110
imm_funct3 Andi = 0b111
imm_funct3 Slli = 0b001
imm_funct3 Srli = 0b101
imm_funct3 Srai = 0b101

-- imm[11:0] of each operation on an immediate: a shift has funct6 above its six bits of amount (section 5.2)
abbrev pub imm_bits : ImmOp → ℤ → ℕ
imm_bits Slli imm = field_of 6 imm
imm_bits Srli imm = field_of 6 imm
imm_bits Srai imm = 0b010000 * 2 ^ 6 + field_of 6 imm
imm_bits _ imm = field_of 12 imm

-- funct3 of each operation on an immediate at 32 bits (chapter 24, RV64I)
abbrev pub imm_w_funct3 : ImmWOp → ℕ
imm_w_funct3 Addiw = 0b000
imm_w_funct3 Slliw = 0b001
imm_w_funct3 Srliw = 0b101
imm_w_funct3 Sraiw = 0b101

-- imm[11:0] of each operation on an immediate at 32 bits: a shift has funct7 above its five bits of amount (section 5.2)
abbrev pub imm_w_bits : ImmWOp → ℤ → ℕ
imm_w_bits Addiw imm = field_of 12 imm
imm_w_bits Slliw imm = field_of 5 imm
imm_w_bits Srliw imm = field_of 5 imm
imm_w_bits Sraiw imm = 0b0100000 * 2 ^ 5 + field_of 5 imm

-- funct7 of each operation on two registers (chapter 24, RV32I and RV32M)
abbrev pub reg_funct7 : RegOp → ℕ
reg_funct7 Add = 0b0000000
reg_funct7 Sll = 0b0000000
reg_funct7 Slt = 0b0000000
reg_funct7 Sltu = 0b0000000
reg_funct7 Xor = 0b0000000
reg_funct7 Srl = 0b0000000
reg_funct7 Or = 0b0000000
reg_funct7 And = 0b0000000
reg_funct7 Sub = 0b0100000
reg_funct7 Sra = 0b0100000
reg_funct7 Mul = 0b0000001
reg_funct7 Mulh = 0b0000001
reg_funct7 Mulhsu = 0b0000001
reg_funct7 Mulhu = 0b0000001
reg_funct7 Div = 0b0000001
reg_funct7 Divu = 0b0000001
reg_funct7 Rem = 0b0000001
reg_funct7 Remu = 0b0000001

-- funct3 of each operation on two registers (chapter 24, RV32I and RV32M)
abbrev pub reg_funct3 : RegOp → ℕ
reg_funct3 Add = 0b000
reg_funct3 Sll = 0b001
reg_funct3 Slt = 0b010
reg_funct3 Sltu = 0b011
reg_funct3 Xor = 0b100
reg_funct3 Srl = 0b101
reg_funct3 Or = 0b110
reg_funct3 And = 0b111
reg_funct3 Sub = 0b000
reg_funct3 Sra = 0b101
reg_funct3 Mul = 0b000
reg_funct3 Mulh = 0b001
reg_funct3 Mulhsu = 0b010
reg_funct3 Mulhu = 0b011
reg_funct3 Div = 0b100
reg_funct3 Divu = 0b101
reg_funct3 Rem = 0b110
reg_funct3 Remu = 0b111

-- funct7 of each operation on two registers at 32 bits (chapter 24, RV64I and RV64M)
abbrev pub reg_w_funct7 : RegWOp → ℕ
reg_w_funct7 Addw = 0b0000000
reg_w_funct7 Sllw = 0b0000000
reg_w_funct7 Srlw = 0b0000000
reg_w_funct7 Subw = 0b0100000
reg_w_funct7 Sraw = 0b0100000
reg_w_funct7 Mulw = 0b0000001
reg_w_funct7 Divw = 0b0000001
reg_w_funct7 Divuw = 0b0000001
reg_w_funct7 Remw = 0b0000001
reg_w_funct7 Remuw = 0b0000001

-- funct3 of each operation on two registers at 32 bits (chapter 24, RV64I and RV64M)
abbrev pub reg_w_funct3 : RegWOp → ℕ
reg_w_funct3 Addw = 0b000
reg_w_funct3 Sllw = 0b001
reg_w_funct3 Srlw = 0b101
reg_w_funct3 Subw = 0b000
reg_w_funct3 Sraw = 0b101
reg_w_funct3 Mulw = 0b000
reg_w_funct3 Divw = 0b100
reg_w_funct3 Divuw = 0b101
reg_w_funct3 Remw = 0b110
reg_w_funct3 Remuw = 0b111

-- the word of an instruction: its format with its fields; Illegal has no word of its own, and 0 is an illegal one
abbrev pub word_of : Instr → ℕ
word_of (Lui rd imm) = u_word (field_of 32 imm) rd 0b0110111
word_of (Auipc rd imm) = u_word (field_of 32 imm) rd 0b0010111
word_of (Jal rd imm) = j_word (field_of 21 imm) rd 0b1101111
word_of (Jalr rd rs1 imm) = i_word (field_of 12 imm) rs1 0b000 rd 0b1100111
word_of (Branch op rs1 rs2 imm) = b_word (field_of 13 imm) rs2 rs1 (branch_funct3 op) 0b1100011
word_of (Load op rd rs1 imm) = i_word (field_of 12 imm) rs1 (load_funct3 op) rd 0b0000011
word_of (Store op rs1 rs2 imm) = s_word (field_of 12 imm) rs2 rs1 (store_funct3 op) 0b0100011
word_of (OpImm op rd rs1 imm) = i_word (imm_bits op imm) rs1 (imm_funct3 op) rd 0b0010011
word_of (OpImmW op rd rs1 imm) = i_word (imm_w_bits op imm) rs1 (imm_w_funct3 op) rd 0b0011011
word_of (Op op rd rs1 rs2) = r_word (reg_funct7 op) rs2 rs1 (reg_funct3 op) rd 0b0110011
word_of (OpW op rd rs1 rs2) = r_word (reg_w_funct7 op) rs2 rs1 (reg_w_funct3 op) rd 0b0111011
word_of (Fence word) = word
word_of Ecall = 0x00000073
word_of Ebreak = 0x00100073
word_of Hgate = 0x0000000B
word_of Hleave = 0x0000100B
word_of (Hsite rd) = 0x0000200B + 128 * rd
word_of (Hkey rd) = 0x0000300B + 128 * rd
word_of Hstop = 0x0000400B
word_of Hrestart = 0x0000500B
word_of (Hcall false) = 0x0000600B
word_of (Hcall true) = 0x0000608B
word_of (Hpark cause) = 0x0000700B + 128 * park_number cause
word_of Illegal = 0

-- the immediate is one that the operation can have: a shift amount, or a number of twelve bits
abbrev pub ImmFits : ImmOp → ℤ → Type 0
ImmFits Slli imm = IsBelow 64 imm
ImmFits Srli imm = IsBelow 64 imm
ImmFits Srai imm = IsBelow 64 imm
ImmFits _ imm = FitsIn 12 imm

-- the same at 32 bits
abbrev pub ImmWFits : ImmWOp → ℤ → Type 0
ImmWFits Addiw imm = FitsIn 12 imm
ImmWFits _ imm = IsBelow 32 imm

-- a word of the fence row: its opcode and funct3 are those of FENCE, the other fields are free (section 2.7)
abbrev pub IsFence : ℕ → Type 0
IsFence word = (word < 2 ^ 32) × (opcode word ≡ 0b0001111) × (funct3 word ≡ 0b000)

-- the instruction has a word: it isn't Illegal, its immediate is one that its format can give, a fence keeps a fence's word
abbrev pub IsEncodable : Instr → Type 0
IsEncodable (Lui rd imm) = FitsIn 32 imm × IsMultipleOf 4096 imm
IsEncodable (Auipc rd imm) = FitsIn 32 imm × IsMultipleOf 4096 imm
IsEncodable (Jal rd imm) = FitsIn 21 imm × IsMultipleOf 2 imm
IsEncodable (Jalr rd rs1 imm) = FitsIn 12 imm
IsEncodable (Branch op rs1 rs2 imm) = FitsIn 13 imm × IsMultipleOf 2 imm
IsEncodable (Load op rd rs1 imm) = FitsIn 12 imm
IsEncodable (Store op rs1 rs2 imm) = FitsIn 12 imm
IsEncodable (OpImm op rd rs1 imm) = ImmFits op imm
IsEncodable (OpImmW op rd rs1 imm) = ImmWFits op imm
IsEncodable (Fence word) = IsFence word
IsEncodable Illegal = ⊥
IsEncodable _ = Unit {0}

-- each register is one of the 32, as it is in every instruction that a program holds
abbrev pub HasRegisters : Instr → Type 0
HasRegisters (Lui rd imm) = rd < 32
HasRegisters (Auipc rd imm) = rd < 32
HasRegisters (Jal rd imm) = rd < 32
HasRegisters (Jalr rd rs1 imm) = (rd < 32) × (rs1 < 32)
HasRegisters (Branch op rs1 rs2 imm) = (rs1 < 32) × (rs2 < 32)
HasRegisters (Load op rd rs1 imm) = (rd < 32) × (rs1 < 32)
HasRegisters (Store op rs1 rs2 imm) = (rs1 < 32) × (rs2 < 32)
HasRegisters (OpImm op rd rs1 imm) = (rd < 32) × (rs1 < 32)
HasRegisters (OpImmW op rd rs1 imm) = (rd < 32) × (rs1 < 32)
HasRegisters (Op op rd rs1 rs2) = (rd < 32) × (rs1 < 32) × (rs2 < 32)
HasRegisters (OpW op rd rs1 rs2) = (rd < 32) × (rs1 < 32) × (rs2 < 32)
HasRegisters (Hsite rd) = rd < 32
HasRegisters (Hkey rd) = rd < 32
HasRegisters _ = Unit {0}
