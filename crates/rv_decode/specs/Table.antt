-- The decode table, one row for each instruction (RISC-V Unprivileged ISA 20191213, chapter 24: RV32I, RV64I, RV32M, RV64M; the gate instructions are this project's own).
use Rattle.std.specs.Prelude.{ℕ, ◌==◌, ℤ, pos, Bool, true, false, ◌&&◌, if◌then◌else◌, List, [], ◌∷◌}
use Rattle.rv_decode.specs.Fields.{bits, opcode, rd, funct3, rs1, rs2, funct7, i_imm, s_imm, b_imm, u_imm, j_imm}
use Rattle.rv_decode.specs.declared.instr.Instr.{Instr}
use Rattle.rv_decode.specs.declared.instr.Instr.TheVariants.{Lui, Auipc, Jal, Jalr, Branch, Load, Store, OpImm, OpImmW, Op, OpW, Fence, Ecall, Ebreak, Hgate, Hleave, Hsite, Hkey, Hstop, Hrestart, Hcall, Hpark, Illegal}
use Rattle.rv_decode.specs.declared.instr.BranchOp.TheVariants.{Beq, Bne, Blt, Bge, Bltu, Bgeu}
use Rattle.rv_decode.specs.declared.instr.LoadOp.TheVariants.{Lb, Lh, Lw, Ld, Lbu, Lhu, Lwu}
use Rattle.rv_decode.specs.declared.instr.StoreOp.TheVariants.{Sb, Sh, Sw, Sd}
use Rattle.rv_decode.specs.declared.instr.ImmOp.TheVariants.{Addi, Slti, Sltiu, Xori, Ori, Andi, Slli, Srli, Srai}
use Rattle.rv_decode.specs.declared.instr.ImmWOp.TheVariants.{Addiw, Slliw, Srliw, Sraiw}
use Rattle.rv_decode.specs.declared.instr.RegOp.TheVariants.{Add, Sll, Slt, Sltu, Xor, Srl, Or, And, Sub, Sra, Mul, Mulh, Mulhsu, Mulhu, Div, Divu, Rem, Remu}
use Rattle.rv_decode.specs.declared.instr.RegWOp.TheVariants.{Addw, Sllw, Srlw, Subw, Sraw, Mulw, Divw, Divuw, Remw, Remuw}
use Rattle.spec_base.specs.declared.park.Park.TheVariants.{Exit, Fault, Regions, LogFull, Store as StorePark}
use Rattle.rv_decode.specs.declared.instr.BranchOp.{BranchOp}
use Rattle.rv_decode.specs.declared.instr.LoadOp.{LoadOp}
use Rattle.rv_decode.specs.declared.instr.StoreOp.{StoreOp}
use Rattle.rv_decode.specs.declared.instr.ImmOp.{ImmOp}
use Rattle.rv_decode.specs.declared.instr.ImmWOp.{ImmWOp}
use Rattle.rv_decode.specs.declared.instr.RegOp.{RegOp}
use Rattle.rv_decode.specs.declared.instr.RegWOp.{RegWOp}

-- the words of a row, and the instruction of such a word
pub record Row : Type 0 where
  pub fits : ℕ → Bool
  pub make : ℕ → Instr

-- a row that fixes the opcode
abbrev pub by_opcode : ℕ → (ℕ → Instr) → Row
by_opcode op make = record { fits = λ w. opcode w == op; make = make }

-- a row that fixes opcode and funct3
abbrev pub by_funct3 : ℕ → ℕ → (ℕ → Instr) → Row
by_funct3 op f3 make = record { fits = λ w. (opcode w == op) && (funct3 w == f3); make = make }

-- a row that fixes opcode, funct3 and bits 31 to 26
abbrev pub by_funct6 : ℕ → ℕ → ℕ → (ℕ → Instr) → Row
by_funct6 op f3 f6 make = record { fits = λ w. (opcode w == op) && ((funct3 w == f3) && (bits 31 26 w == f6)); make = make }

-- a row that fixes opcode, funct3 and funct7
abbrev pub by_funct7 : ℕ → ℕ → ℕ → (ℕ → Instr) → Row
by_funct7 op f3 f7 make = record { fits = λ w. (opcode w == op) && ((funct3 w == f3) && (funct7 w == f7)); make = make }

-- a row of custom-0 that fixes funct3, and in which rd alone is free
abbrev pub by_gate : ℕ → (ℕ → Instr) → Row
by_gate f3 make = record { fits = λ w. (opcode w == 0b0001011) && ((funct3 w == f3) && (bits 31 15 w == 0)); make = make }

-- a row of one word
abbrev pub exactly : ℕ → Instr → Row
exactly word i = record { fits = λ w. w == word; make = λ _. i }

-- the operands of each kind of row
abbrev pub upper : (ℕ → ℤ → Instr) → ℕ → Instr
upper make w = make (rd w) (u_imm w)

-- a branch with this comparison
abbrev pub branch : BranchOp → ℕ → Instr
branch op w = Branch op (rs1 w) (rs2 w) (b_imm w)

-- a load of this kind
abbrev pub load : LoadOp → ℕ → Instr
load op w = Load op (rd w) (rs1 w) (i_imm w)

-- a store of this width
abbrev pub store : StoreOp → ℕ → Instr
store op w = Store op (rs1 w) (rs2 w) (s_imm w)

-- an operation on a register and an I-immediate
abbrev pub imm : ImmOp → ℕ → Instr
imm op w = OpImm op (rd w) (rs1 w) (i_imm w)

-- the amount of a shift has six bits
abbrev pub shift : ImmOp → ℕ → Instr
shift op w = OpImm op (rd w) (rs1 w) (pos (bits 25 20 w))

-- the amount of a shift of 32 bits has five bits
abbrev pub shift_w : ImmWOp → ℕ → Instr
shift_w op w = OpImmW op (rd w) (rs1 w) (pos (bits 24 20 w))

-- an operation on two registers
abbrev pub register_op : RegOp → ℕ → Instr
register_op op w = Op op (rd w) (rs1 w) (rs2 w)

-- an operation on the low words of two registers
abbrev pub register_w_op : RegWOp → ℕ → Instr
register_w_op op w = OpW op (rd w) (rs1 w) (rs2 w)

-- the 78 rows: opcode, funct3 and funct7 (or the whole word), then the instruction
abbrev pub rows : List Row
rows =
    -- LUI, AUIPC, JAL, JALR
    by_opcode 0b0110111 (upper Lui) ∷
    by_opcode 0b0010111 (upper Auipc) ∷
    by_opcode 0b1101111 (λ w. Jal (rd w) (j_imm w)) ∷
    by_funct3 0b1100111 0b000 (λ w. Jalr (rd w) (rs1 w) (i_imm w)) ∷
    -- BRANCH
    by_funct3 0b1100011 0b000 (branch Beq) ∷
    by_funct3 0b1100011 0b001 (branch Bne) ∷
    by_funct3 0b1100011 0b100 (branch Blt) ∷
    by_funct3 0b1100011 0b101 (branch Bge) ∷
    by_funct3 0b1100011 0b110 (branch Bltu) ∷
    by_funct3 0b1100011 0b111 (branch Bgeu) ∷
    -- LOAD
    by_funct3 0b0000011 0b000 (load Lb) ∷
    by_funct3 0b0000011 0b001 (load Lh) ∷
    by_funct3 0b0000011 0b010 (load Lw) ∷
    by_funct3 0b0000011 0b011 (load Ld) ∷
    by_funct3 0b0000011 0b100 (load Lbu) ∷
    by_funct3 0b0000011 0b101 (load Lhu) ∷
    by_funct3 0b0000011 0b110 (load Lwu) ∷
    -- STORE
    by_funct3 0b0100011 0b000 (store Sb) ∷
    by_funct3 0b0100011 0b001 (store Sh) ∷
    by_funct3 0b0100011 0b010 (store Sw) ∷
    by_funct3 0b0100011 0b011 (store Sd) ∷
    -- OP-IMM
    by_funct3 0b0010011 0b000 (imm Addi) ∷
    by_funct3 0b0010011 0b010 (imm Slti) ∷
    by_funct3 0b0010011 0b011 (imm Sltiu) ∷
    by_funct3 0b0010011 0b100 (imm Xori) ∷
    by_funct3 0b0010011 0b110 (imm Ori) ∷
    by_funct3 0b0010011 0b111 (imm Andi) ∷
    by_funct6 0b0010011 0b001 0b000000 (shift Slli) ∷
    by_funct6 0b0010011 0b101 0b000000 (shift Srli) ∷
    by_funct6 0b0010011 0b101 0b010000 (shift Srai) ∷
    -- OP-IMM-32
    by_funct3 0b0011011 0b000 (λ w. OpImmW Addiw (rd w) (rs1 w) (i_imm w)) ∷
    by_funct7 0b0011011 0b001 0b0000000 (shift_w Slliw) ∷
    by_funct7 0b0011011 0b101 0b0000000 (shift_w Srliw) ∷
    by_funct7 0b0011011 0b101 0b0100000 (shift_w Sraiw) ∷
    -- OP
    by_funct7 0b0110011 0b000 0b0000000 (register_op Add) ∷
    by_funct7 0b0110011 0b001 0b0000000 (register_op Sll) ∷
    by_funct7 0b0110011 0b010 0b0000000 (register_op Slt) ∷
    by_funct7 0b0110011 0b011 0b0000000 (register_op Sltu) ∷
    by_funct7 0b0110011 0b100 0b0000000 (register_op Xor) ∷
    by_funct7 0b0110011 0b101 0b0000000 (register_op Srl) ∷
    by_funct7 0b0110011 0b110 0b0000000 (register_op Or) ∷
    by_funct7 0b0110011 0b111 0b0000000 (register_op And) ∷
    by_funct7 0b0110011 0b000 0b0100000 (register_op Sub) ∷
    by_funct7 0b0110011 0b101 0b0100000 (register_op Sra) ∷
    by_funct7 0b0110011 0b000 0b0000001 (register_op Mul) ∷
    by_funct7 0b0110011 0b001 0b0000001 (register_op Mulh) ∷
    by_funct7 0b0110011 0b010 0b0000001 (register_op Mulhsu) ∷
    by_funct7 0b0110011 0b011 0b0000001 (register_op Mulhu) ∷
    by_funct7 0b0110011 0b100 0b0000001 (register_op Div) ∷
    by_funct7 0b0110011 0b101 0b0000001 (register_op Divu) ∷
    by_funct7 0b0110011 0b110 0b0000001 (register_op Rem) ∷
    by_funct7 0b0110011 0b111 0b0000001 (register_op Remu) ∷
    -- OP-32
    by_funct7 0b0111011 0b000 0b0000000 (register_w_op Addw) ∷
    by_funct7 0b0111011 0b001 0b0000000 (register_w_op Sllw) ∷
    by_funct7 0b0111011 0b101 0b0000000 (register_w_op Srlw) ∷
    by_funct7 0b0111011 0b000 0b0100000 (register_w_op Subw) ∷
    by_funct7 0b0111011 0b101 0b0100000 (register_w_op Sraw) ∷
    by_funct7 0b0111011 0b000 0b0000001 (register_w_op Mulw) ∷
    by_funct7 0b0111011 0b100 0b0000001 (register_w_op Divw) ∷
    by_funct7 0b0111011 0b101 0b0000001 (register_w_op Divuw) ∷
    by_funct7 0b0111011 0b110 0b0000001 (register_w_op Remw) ∷
    by_funct7 0b0111011 0b111 0b0000001 (register_w_op Remuw) ∷
    -- MISC-MEM: every field but opcode and funct3 is free
    by_funct3 0b0001111 0b000 (λ w. Fence w) ∷
    -- SYSTEM
    exactly 0x00000073 Ecall ∷
    exactly 0x00100073 Ebreak ∷
    -- custom-0: the gate instructions
    exactly 0x0000000B Hgate ∷
    exactly 0x0000100B Hleave ∷
    by_gate 0b010 (λ w. Hsite (rd w)) ∷
    by_gate 0b011 (λ w. Hkey (rd w)) ∷
    exactly 0x0000400B Hstop ∷
    exactly 0x0000500B Hrestart ∷
    exactly 0x0000600B (Hcall false) ∷
    exactly 0x0000608B (Hcall true) ∷
    exactly 0x0000708B (Hpark Exit) ∷
    exactly 0x0000710B (Hpark Fault) ∷
    exactly 0x0000718B (Hpark Regions) ∷
    exactly 0x0000720B (Hpark LogFull) ∷
    exactly 0x0000728B (Hpark StorePark) ∷
    []

-- the instruction of the first row that a word fits, and Illegal where it fits none
abbrev pub first_row : List Row → ℕ → Instr
first_row [] w = Illegal
first_row (r ∷ rs) w = if r.fits w then r.make w else first_row rs w

-- the instruction of a word by the table
unfoldable pub table_of : ℕ → Instr
table_of word = first_row rows word
