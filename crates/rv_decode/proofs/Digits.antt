-- The fields of a word, and the immediate that its format scatters.
use Rattle.std.proofs.Common.{◌≡◌, ℕ, ◌+◌, ◌*◌, ◌/◌, ◌%◌, ◌^◌, ◌<◌, arith}
use Rattle.rv_decode.specs.Fields.{bits, opcode, rd, funct3, rs1, rs2, funct7}
use Rattle.rv_decode.specs.Formats.{r_word, i_word, s_word, b_word, u_word, j_word}

module _ (f7 b a f3 d op : ℕ) (p7 : f7 < 128) (pb : b < 32) (pa : a < 32) (p3 : f3 < 8) (pd : d < 32) (po : op < 128) where
  pub r-opcode : opcode (r_word f7 b a f3 d op) ≡ op
  r-opcode = omega arith

  pub r-rd : rd (r_word f7 b a f3 d op) ≡ d
  r-rd = omega arith

  pub r-funct3 : funct3 (r_word f7 b a f3 d op) ≡ f3
  r-funct3 = omega arith

  pub r-rs1 : rs1 (r_word f7 b a f3 d op) ≡ a
  r-rs1 = omega arith

  pub r-rs2 : rs2 (r_word f7 b a f3 d op) ≡ b
  r-rs2 = omega arith

  pub r-funct7 : funct7 (r_word f7 b a f3 d op) ≡ f7
  r-funct7 = omega arith

module _ (u a f3 d op : ℕ) (pu : u < 2 ^ 12) (pa : a < 32) (p3 : f3 < 8) (pd : d < 32) (po : op < 128) where
  pub i-opcode : opcode (i_word u a f3 d op) ≡ op
  i-opcode = omega arith

  pub i-rd : rd (i_word u a f3 d op) ≡ d
  i-rd = omega arith

  pub i-funct3 : funct3 (i_word u a f3 d op) ≡ f3
  i-funct3 = omega arith

  pub i-rs1 : rs1 (i_word u a f3 d op) ≡ a
  i-rs1 = omega arith

  pub i-imm : bits 31 20 (i_word u a f3 d op) ≡ u
  i-imm = omega arith

  pub i-low6 : bits 25 20 (i_word u a f3 d op) ≡ u % 64
  i-low6 = omega arith

  pub i-high6 : bits 31 26 (i_word u a f3 d op) ≡ u / 64
  i-high6 = omega arith

  pub i-low5 : bits 24 20 (i_word u a f3 d op) ≡ u % 32
  i-low5 = omega arith

  pub i-high7 : funct7 (i_word u a f3 d op) ≡ u / 32
  i-high7 = omega arith

module _ (u b a f3 op : ℕ) (pu : u < 2 ^ 12) (pb : b < 32) (pa : a < 32) (p3 : f3 < 8) (po : op < 128) where
  pub s-opcode : opcode (s_word u b a f3 op) ≡ op
  s-opcode = omega arith

  pub s-funct3 : funct3 (s_word u b a f3 op) ≡ f3
  s-funct3 = omega arith

  pub s-rs1 : rs1 (s_word u b a f3 op) ≡ a
  s-rs1 = omega arith

  pub s-rs2 : rs2 (s_word u b a f3 op) ≡ b
  s-rs2 = omega arith

  pub s-imm : bits 31 25 (s_word u b a f3 op) * 2 ^ 5 + bits 11 7 (s_word u b a f3 op) ≡ u
  s-imm = omega arith

module _ (u b a f3 op : ℕ) (pu : u < 2 ^ 13) (even : u % 2 ≡ 0) (pb : b < 32) (pa : a < 32) (p3 : f3 < 8) (po : op < 128) where
  pub b-opcode : opcode (b_word u b a f3 op) ≡ op
  b-opcode = omega arith

  pub b-funct3 : funct3 (b_word u b a f3 op) ≡ f3
  b-funct3 = omega arith

  pub b-rs1 : rs1 (b_word u b a f3 op) ≡ a
  b-rs1 = omega arith

  pub b-rs2 : rs2 (b_word u b a f3 op) ≡ b
  b-rs2 = omega arith

  pub b-imm : bits 31 31 (b_word u b a f3 op) * 2 ^ 12 + bits 7 7 (b_word u b a f3 op) * 2 ^ 11 + bits 30 25 (b_word u b a f3 op) * 2 ^ 5 + bits 11 8 (b_word u b a f3 op) * 2 ≡ u
  b-imm = omega arith

module _ (u d op : ℕ) (pu : u < 2 ^ 32) (whole : u % 4096 ≡ 0) (pd : d < 32) (po : op < 128) where
  pub u-opcode : opcode (u_word u d op) ≡ op
  u-opcode = omega arith

  pub u-rd : rd (u_word u d op) ≡ d
  u-rd = omega arith

  pub u-imm : bits 31 12 (u_word u d op) * 2 ^ 12 ≡ u
  u-imm = omega arith

module _ (u d op : ℕ) (pu : u < 2 ^ 21) (even : u % 2 ≡ 0) (pd : d < 32) (po : op < 128) where
  pub j-opcode : opcode (j_word u d op) ≡ op
  j-opcode = omega arith

  pub j-rd : rd (j_word u d op) ≡ d
  j-rd = omega arith

  pub j-imm : bits 31 31 (j_word u d op) * 2 ^ 20 + bits 19 12 (j_word u d op) * 2 ^ 12 + bits 20 20 (j_word u d op) * 2 ^ 11 + bits 30 21 (j_word u d op) * 2 ≡ u
  j-imm = omega arith
