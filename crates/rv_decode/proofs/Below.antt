-- The word of an instruction has 32 bits.
use Rattle.std.proofs.Common.{ℕ, ◌^◌, ◌<◌, ℤ, Bool, true, false, arith}
use Rattle.std.proofs.lemmas.Int.{ints}
use Rattle.spec_base.specs.declared.park.Park.{Park}
use Rattle.spec_base.specs.declared.park.Park.TheVariants.{Exit, Fault, Regions, LogFull, Store as ParkStore}
use Rattle.rv_decode.specs.Formats.{r_word, i_word, s_word, b_word, u_word, j_word}
use Rattle.rv_decode.specs.Encoding.{word_of, ImmFits, ImmWFits, imm_bits, imm_w_bits}
use Rattle.rv_decode.specs.Laws.{EncodedIsWord}
use Rattle.rv_decode.specs.declared.instr.Instr.TheVariants.{Lui, Auipc, Jal, Jalr, Branch, Load, Store, OpImm, OpImmW, Op, OpW, Fence, Ecall, Ebreak, Hgate, Hleave, Hsite, Hkey, Hstop, Hrestart, Hcall, Hpark, Illegal}
use Rattle.rv_decode.specs.declared.instr.ImmOp.{ImmOp}
use Rattle.rv_decode.specs.declared.instr.ImmOp.TheVariants.{Addi, Slti, Sltiu, Xori, Ori, Andi, Slli, Srli, Srai}
use Rattle.rv_decode.specs.declared.instr.ImmWOp.{ImmWOp}
use Rattle.rv_decode.specs.declared.instr.ImmWOp.TheVariants.{Addiw, Slliw, Srliw, Sraiw}
use Rattle.rv_decode.proofs.Operations.{branch_funct3-below, load_funct3-below, store_funct3-below, imm_funct3-below, imm_w_funct3-below, reg_funct7-below, reg_funct3-below, reg_w_funct7-below, reg_w_funct3-below}
use Rattle.rv_decode.proofs.Immediates.{below-12, below-13, below-21, below-32}

r_word-below : (f7 b a f3 d op : ℕ) → f7 < 128 → b < 32 → a < 32 → f3 < 8 → d < 32 → op < 128 → r_word f7 b a f3 d op < 2 ^ 32
r_word-below f7 b a f3 d op p7 pb pa p3 pd po = omega arith

i_word-below : (u a f3 d op : ℕ) → u < 2 ^ 12 → a < 32 → f3 < 8 → d < 32 → op < 128 → i_word u a f3 d op < 2 ^ 32
i_word-below u a f3 d op pu pa p3 pd po = omega arith

s_word-below : (u b a f3 op : ℕ) → u < 2 ^ 12 → b < 32 → a < 32 → f3 < 8 → op < 128 → s_word u b a f3 op < 2 ^ 32
s_word-below u b a f3 op pu pb pa p3 po = omega arith

b_word-below : (u b a f3 op : ℕ) → u < 2 ^ 13 → b < 32 → a < 32 → f3 < 8 → op < 128 → b_word u b a f3 op < 2 ^ 32
b_word-below u b a f3 op pu pb pa p3 po = omega arith

u_word-below : (u d op : ℕ) → u < 2 ^ 32 → d < 32 → op < 128 → u_word u d op < 2 ^ 32
u_word-below u d op pu pd po = omega arith

j_word-below : (u d op : ℕ) → u < 2 ^ 21 → d < 32 → op < 128 → j_word u d op < 2 ^ 32
j_word-below u d op pu pd po = omega arith

imm_bits-below : (op : ImmOp) (z : ℤ) → ImmFits op z → imm_bits op z < 2 ^ 12
imm_bits-below Slli z h = grind (arith, ints)
imm_bits-below Srli z h = grind (arith, ints)
imm_bits-below Srai z h = grind (arith, ints)
imm_bits-below Addi z h = below-12 z h
imm_bits-below Slti z h = below-12 z h
imm_bits-below Sltiu z h = below-12 z h
imm_bits-below Xori z h = below-12 z h
imm_bits-below Ori z h = below-12 z h
imm_bits-below Andi z h = below-12 z h

imm_w_bits-below : (op : ImmWOp) (z : ℤ) → ImmWFits op z → imm_w_bits op z < 2 ^ 12
imm_w_bits-below Addiw z h = below-12 z h
imm_w_bits-below Slliw z h = grind (arith, ints)
imm_w_bits-below Srliw z h = grind (arith, ints)
imm_w_bits-below Sraiw z h = grind (arith, ints)

call-below : (known : Bool) → word_of (Hcall known) < 2 ^ 32
call-below false = omega arith
call-below true = omega arith

park-below : (cause : Park) → word_of (Hpark cause) < 2 ^ 32
park-below Exit = omega arith
park-below Fault = omega arith
park-below Regions = omega arith
park-below LogFull = omega arith
park-below ParkStore = omega arith

pub encoded_is_word : EncodedIsWord
encoded_is_word (Lui d z) e r = u_word-below _ d 0b0110111 (below-32 z e.0) r (omega arith)
encoded_is_word (Auipc d z) e r = u_word-below _ d 0b0010111 (below-32 z e.0) r (omega arith)
encoded_is_word (Jal d z) e r = j_word-below _ d 0b1101111 (below-21 z e.0) r (omega arith)
encoded_is_word (Jalr d a z) e r = i_word-below _ a 0b000 d 0b1100111 (below-12 z e) r.1 (omega arith) r.0 (omega arith)
encoded_is_word (Branch op a b z) e r = b_word-below _ b a _ 0b1100011 (below-13 z e.0) r.1 r.0 (branch_funct3-below op) (omega arith)
encoded_is_word (Load op d a z) e r = i_word-below _ a _ d 0b0000011 (below-12 z e) r.1 (load_funct3-below op) r.0 (omega arith)
encoded_is_word (Store op a b z) e r = s_word-below _ b a _ 0b0100011 (below-12 z e) r.1 r.0 (store_funct3-below op) (omega arith)
encoded_is_word (OpImm op d a z) e r = i_word-below _ a _ d 0b0010011 (imm_bits-below op z e) r.1 (imm_funct3-below op) r.0 (omega arith)
encoded_is_word (OpImmW op d a z) e r = i_word-below _ a _ d 0b0011011 (imm_w_bits-below op z e) r.1 (imm_w_funct3-below op) r.0 (omega arith)
encoded_is_word (Op op d a b) e r = r_word-below _ b a _ d 0b0110011 (reg_funct7-below op) r.2 r.1 (reg_funct3-below op) r.0 (omega arith)
encoded_is_word (OpW op d a b) e r = r_word-below _ b a _ d 0b0111011 (reg_w_funct7-below op) r.2 r.1 (reg_w_funct3-below op) r.0 (omega arith)
encoded_is_word (Fence w) e r = e.0
encoded_is_word Ecall e r = omega arith
encoded_is_word Ebreak e r = omega arith
encoded_is_word Hgate e r = omega arith
encoded_is_word Hleave e r = omega arith
encoded_is_word (Hsite d) e r = omega arith
encoded_is_word (Hkey d) e r = omega arith
encoded_is_word Hstop e r = omega arith
encoded_is_word Hrestart e r = omega arith
encoded_is_word (Hcall known) e r = call-below known
encoded_is_word (Hpark cause) e r = park-below cause
encoded_is_word Illegal e r = absurd e
