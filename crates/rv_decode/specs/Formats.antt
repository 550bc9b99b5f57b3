-- The formats of an instruction word, each field at its bits, and the immediates that they give (RISC-V Unprivileged ISA 20191213, sections 2.2 and 2.3).
use Rattle.std.specs.Prelude.{◌≡◌, ℕ, suc, ◌+◌, ◌-◌, ◌*◌, ◌%◌, ◌^◌, ℤ, pos, negsuc, neg_ℤ, unsigned_abs, ◌≤ℤ◌, ◌<ℤ◌}
use Rattle.rv_decode.specs.Fields.{bits}

-- an immediate as a field of so many bits, in two's complement
abbrev pub field_of : ℕ → ℤ → ℕ
field_of width (pos n) = n
field_of width (negsuc n) = 2 ^ width - suc n

-- the immediate is a number of so many bits, in two's complement
abbrev pub FitsIn : ℕ → ℤ → Type 0
FitsIn width imm = (neg_ℤ (pos (2 ^ (width - 1))) ≤ℤ imm) × (imm <ℤ pos (2 ^ (width - 1)))

-- the immediate is a multiple of n, as its format gives no lower bits
abbrev pub IsMultipleOf : ℕ → ℤ → Type 0
IsMultipleOf n imm = unsigned_abs imm % n ≡ 0

-- the immediate is a shift amount below n
abbrev pub IsBelow : ℕ → ℤ → Type 0
IsBelow n imm = (pos 0 ≤ℤ imm) × (imm <ℤ pos n)

-- R-type: funct7 in bits 31 to 25, rs2 24 to 20, rs1 19 to 15, funct3 14 to 12, rd 11 to 7, opcode 6 to 0
abbrev pub r_word : ℕ → ℕ → ℕ → ℕ → ℕ → ℕ → ℕ
r_word funct7 rs2 rs1 funct3 rd opcode =
    funct7 * 2 ^ 25 + rs2 * 2 ^ 20 + rs1 * 2 ^ 15 + funct3 * 2 ^ 12 + rd * 2 ^ 7 + opcode

-- I-type: imm[11:0] in bits 31 to 20
abbrev pub i_word : ℕ → ℕ → ℕ → ℕ → ℕ → ℕ
i_word imm rs1 funct3 rd opcode =
    imm * 2 ^ 20 + rs1 * 2 ^ 15 + funct3 * 2 ^ 12 + rd * 2 ^ 7 + opcode

-- S-type: imm[11:5] in bits 31 to 25, imm[4:0] 11 to 7
abbrev pub s_word : ℕ → ℕ → ℕ → ℕ → ℕ → ℕ
s_word imm rs2 rs1 funct3 opcode =
    bits 11 5 imm * 2 ^ 25 + rs2 * 2 ^ 20 + rs1 * 2 ^ 15 + funct3 * 2 ^ 12 + bits 4 0 imm * 2 ^ 7 + opcode

-- B-type: imm[12] in bit 31, imm[10:5] in bits 30 to 25, imm[4:1] 11 to 8, imm[11] in bit 7
abbrev pub b_word : ℕ → ℕ → ℕ → ℕ → ℕ → ℕ
b_word imm rs2 rs1 funct3 opcode =
    bits 12 12 imm * 2 ^ 31 + bits 10 5 imm * 2 ^ 25 + rs2 * 2 ^ 20 + rs1 * 2 ^ 15 + funct3 * 2 ^ 12 + bits 4 1 imm * 2 ^ 8 + bits 11 11 imm * 2 ^ 7 + opcode

-- U-type: imm[31:12] in bits 31 to 12
abbrev pub u_word : ℕ → ℕ → ℕ → ℕ
u_word imm rd opcode =
    bits 31 12 imm * 2 ^ 12 + rd * 2 ^ 7 + opcode

-- J-type: imm[20] in bit 31, imm[10:1] in bits 30 to 21, imm[11] in bit 20, imm[19:12] in bits 19 to 12
abbrev pub j_word : ℕ → ℕ → ℕ → ℕ
j_word imm rd opcode =
    bits 20 20 imm * 2 ^ 31 + bits 10 1 imm * 2 ^ 21 + bits 11 11 imm * 2 ^ 20 + bits 19 12 imm * 2 ^ 12 + rd * 2 ^ 7 + opcode
