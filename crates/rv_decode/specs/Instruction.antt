-- The instruction of a word, by its opcode and then by the fields that this opcode has (RISC-V Unprivileged ISA 20191213, chapter 24; the gate instructions are this project's own).
use Rattle.std.specs.Prelude.{ℕ, ◌==◌, ◌+◌, ◌*◌, pos, true, false, if◌then◌else◌, Option, Some, None}
use Rattle.spec_base.specs.Park.{park_with}
use Rattle.rv_decode.specs.Fields.{bits, opcode, rd, funct3, rs1, rs2, funct7, i_imm, s_imm, b_imm, u_imm, j_imm}
use Rattle.rv_decode.specs.declared.instr.Instr.{Instr}
use Rattle.rv_decode.specs.declared.instr.Instr.TheVariants.{Lui, Auipc, Jal, Jalr, Branch, Load, Store, OpImm, OpImmW, Op, OpW, Fence, Ecall, Ebreak, Hgate, Hleave, Hsite, Hkey, Hstop, Hrestart, Hcall, Hpark, Illegal}
use Rattle.rv_decode.specs.declared.instr.BranchOp.{BranchOp}
use Rattle.rv_decode.specs.declared.instr.BranchOp.TheVariants.{Beq, Bne, Blt, Bge, Bltu, Bgeu}
use Rattle.rv_decode.specs.declared.instr.LoadOp.{LoadOp}
use Rattle.rv_decode.specs.declared.instr.LoadOp.TheVariants.{Lb, Lh, Lw, Ld, Lbu, Lhu, Lwu}
use Rattle.rv_decode.specs.declared.instr.StoreOp.{StoreOp}
use Rattle.rv_decode.specs.declared.instr.StoreOp.TheVariants.{Sb, Sh, Sw, Sd}
use Rattle.rv_decode.specs.declared.instr.ImmOp.{ImmOp}
use Rattle.rv_decode.specs.declared.instr.ImmOp.TheVariants.{Addi, Slti, Sltiu, Xori, Ori, Andi, Slli, Srli, Srai}
use Rattle.rv_decode.specs.declared.instr.ImmWOp.{ImmWOp}
use Rattle.rv_decode.specs.declared.instr.ImmWOp.TheVariants.{Addiw, Slliw, Srliw, Sraiw}
use Rattle.rv_decode.specs.declared.instr.RegOp.{RegOp}
use Rattle.rv_decode.specs.declared.instr.RegOp.TheVariants.{Add, Sll, Slt, Sltu, Xor, Srl, Or, And, Sub, Sra, Mul, Mulh, Mulhsu, Mulhu, Div, Divu, Rem, Remu}
use Rattle.rv_decode.specs.declared.instr.RegWOp.{RegWOp}
use Rattle.rv_decode.specs.declared.instr.RegWOp.TheVariants.{Addw, Sllw, Srlw, Subw, Sraw, Mulw, Divw, Divuw, Remw, Remuw}

-- BRANCH by funct3
abbrev pub branch_op : ℕ → Option BranchOp
branch_op f3 =
    if f3 == 0b000 then Some Beq
    else if f3 == 0b001 then Some Bne
    else if f3 == 0b100 then Some Blt
    else if f3 == 0b101 then Some Bge
    else if f3 == 0b110 then Some Bltu
    else if f3 == 0b111 then Some Bgeu
    else None

-- LOAD by funct3
abbrev pub load_op : ℕ → Option LoadOp
load_op f3 =
    if f3 == 0b000 then Some Lb
    else if f3 == 0b001 then Some Lh
    else if f3 == 0b010 then Some Lw
    else if f3 == 0b011 then Some Ld
    else if f3 == 0b100 then Some Lbu
    else if f3 == 0b101 then Some Lhu
    else if f3 == 0b110 then Some Lwu
    else None

-- STORE by funct3
abbrev pub store_op : ℕ → Option StoreOp
store_op f3 =
    if f3 == 0b000 then Some Sb
    else if f3 == 0b001 then Some Sh
    else if f3 == 0b010 then Some Sw
    else if f3 == 0b011 then Some Sd
    else None

-- OP-IMM that is no shift, by funct3
abbrev pub imm_op : ℕ → Option ImmOp
imm_op f3 =
    if f3 == 0b000 then Some Addi
    else if f3 == 0b010 then Some Slti
    else if f3 == 0b011 then Some Sltiu
    else if f3 == 0b100 then Some Xori
    else if f3 == 0b110 then Some Ori
    else if f3 == 0b111 then Some Andi
    else None

-- OP-IMM that is a shift, by funct3 and bits 31 to 26
abbrev pub shift_op : ℕ → ℕ → Option ImmOp
shift_op f3 high =
    if f3 == 0b001 then (if high == 0b000000 then Some Slli else None)
    else if f3 == 0b101 then (if high == 0b000000 then Some Srli else if high == 0b010000 then Some Srai else None)
    else None

-- OP-IMM-32 that is a shift, by funct3 and funct7
abbrev pub shift_w_op : ℕ → ℕ → Option ImmWOp
shift_w_op f3 f7 =
    if f3 == 0b001 then (if f7 == 0b0000000 then Some Slliw else None)
    else if f3 == 0b101 then (if f7 == 0b0000000 then Some Srliw else if f7 == 0b0100000 then Some Sraiw else None)
    else None

-- OP by funct7 and funct3
abbrev pub reg_op : ℕ → ℕ → Option RegOp
reg_op f7 f3 =
    if f7 == 0b0000000 then
    (if f3 == 0b000 then Some Add
    else if f3 == 0b001 then Some Sll
    else if f3 == 0b010 then Some Slt
    else if f3 == 0b011 then Some Sltu
    else if f3 == 0b100 then Some Xor
    else if f3 == 0b101 then Some Srl
    else if f3 == 0b110 then Some Or
    else if f3 == 0b111 then Some And
    else None)
    else if f7 == 0b0100000 then
    (if f3 == 0b000 then Some Sub
    else if f3 == 0b101 then Some Sra
    else None)
    else if f7 == 0b0000001 then
    (if f3 == 0b000 then Some Mul
    else if f3 == 0b001 then Some Mulh
    else if f3 == 0b010 then Some Mulhsu
    else if f3 == 0b011 then Some Mulhu
    else if f3 == 0b100 then Some Div
    else if f3 == 0b101 then Some Divu
    else if f3 == 0b110 then Some Rem
    else if f3 == 0b111 then Some Remu
    else None)
    else None

-- OP-32 by funct7 and funct3
abbrev pub reg_w_op : ℕ → ℕ → Option RegWOp
reg_w_op f7 f3 =
    if f7 == 0b0000000 then
    (if f3 == 0b000 then Some Addw
    else if f3 == 0b001 then Some Sllw
    else if f3 == 0b101 then Some Srlw
    else None)
    else if f7 == 0b0100000 then
    (if f3 == 0b000 then Some Subw
    else if f3 == 0b101 then Some Sraw
    else None)
    else if f7 == 0b0000001 then
    (if f3 == 0b000 then Some Mulw
    else if f3 == 0b100 then Some Divw
    else if f3 == 0b101 then Some Divuw
    else if f3 == 0b110 then Some Remw
    else if f3 == 0b111 then Some Remuw
    else None)
    else None

-- the instruction of an operation, Illegal where there is none
abbrev pub of_op : {A : Type 0} → (A → Instr) → Option A → Instr
of_op make None = Illegal
of_op make (Some op) = make op

-- custom-0: the gate instructions, by funct3 and the fields above it
abbrev pub gate_of : ℕ → Instr
gate_of word =
    if funct3 word == 0b010 then (if bits 31 15 word == 0 then Hsite (rd word) else Illegal)
    else if funct3 word == 0b011 then (if bits 31 15 word == 0 then Hkey (rd word) else Illegal)
    else if word == 0x0000000B then Hgate
    else if word == 0x0000100B then Hleave
    else if word == 0x0000400B then Hstop
    else if word == 0x0000500B then Hrestart
    else if word == 0x0000600B then Hcall false
    else if word == 0x0000608B then Hcall true
    else if funct3 word == 0b111 then of_op Hpark (park_with (bits 31 15 word * 32 + rd word))
    else Illegal

-- OP-IMM: a shift has its amount in bits 25 to 20
abbrev pub op_imm_of : ℕ → Instr
op_imm_of word =
    if funct3 word == 0b001 then of_op (λ op. OpImm op (rd word) (rs1 word) (pos (bits 25 20 word))) (shift_op (funct3 word) (bits 31 26 word))
    else if funct3 word == 0b101 then of_op (λ op. OpImm op (rd word) (rs1 word) (pos (bits 25 20 word))) (shift_op (funct3 word) (bits 31 26 word))
    else of_op (λ op. OpImm op (rd word) (rs1 word) (i_imm word)) (imm_op (funct3 word))

-- OP-IMM-32: a shift has its amount in bits 24 to 20
abbrev pub op_imm_w_of : ℕ → Instr
op_imm_w_of word =
    if funct3 word == 0b000 then OpImmW Addiw (rd word) (rs1 word) (i_imm word)
    else of_op (λ op. OpImmW op (rd word) (rs1 word) (pos (bits 24 20 word))) (shift_w_op (funct3 word) (funct7 word))

-- SYSTEM: ECALL and EBREAK, each of one word
abbrev pub system_of : ℕ → Instr
system_of word = if word == 0x00000073 then Ecall else if word == 0x00100073 then Ebreak else Illegal

-- the instruction of a word; the opcodes are LUI, AUIPC, JAL, JALR, BRANCH, LOAD, STORE, OP-IMM, OP-IMM-32, OP, OP-32, MISC-MEM, SYSTEM and custom-0
unfoldable pub instr_of : ℕ → Instr
instr_of word =
    if opcode word == 0b0110111 then Lui (rd word) (u_imm word)
    else if opcode word == 0b0010111 then Auipc (rd word) (u_imm word)
    else if opcode word == 0b1101111 then Jal (rd word) (j_imm word)
    else if opcode word == 0b1100111 then (if funct3 word == 0 then Jalr (rd word) (rs1 word) (i_imm word) else Illegal)
    else if opcode word == 0b1100011 then of_op (λ op. Branch op (rs1 word) (rs2 word) (b_imm word)) (branch_op (funct3 word))
    else if opcode word == 0b0000011 then of_op (λ op. Load op (rd word) (rs1 word) (i_imm word)) (load_op (funct3 word))
    else if opcode word == 0b0100011 then of_op (λ op. Store op (rs1 word) (rs2 word) (s_imm word)) (store_op (funct3 word))
    else if opcode word == 0b0010011 then op_imm_of word
    else if opcode word == 0b0011011 then op_imm_w_of word
    else if opcode word == 0b0110011 then of_op (λ op. Op op (rd word) (rs1 word) (rs2 word)) (reg_op (funct7 word) (funct3 word))
    else if opcode word == 0b0111011 then of_op (λ op. OpW op (rd word) (rs1 word) (rs2 word)) (reg_w_op (funct7 word) (funct3 word))
    else if opcode word == 0b0001111 then (if funct3 word == 0 then Fence word else Illegal)
    else if opcode word == 0b1110011 then system_of word
    else if opcode word == 0b0001011 then gate_of word
    else Illegal
