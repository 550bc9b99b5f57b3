-- Decoding undoes encoding.
use Rattle.std.proofs.Common.{◌≡◌, ℕ, ◌+◌, ◌*◌, ◌/◌, ◌%◌, ◌^◌, ◌<◌, ℤ, pos, ap, refl, sym, ◌∙◌, Bool, true, false, arith}
use Rattle.spec_base.specs.declared.park.Park.{Park}
use Rattle.spec_base.specs.declared.park.Park.TheVariants.{Exit, Fault, Regions, LogFull, Store as ParkStore}
use Rattle.rv_decode.specs.Fields.{bits, opcode, rd, funct3, rs1, rs2, funct7, sign_extended, i_imm, s_imm, b_imm, u_imm, j_imm}
use Rattle.rv_decode.specs.Instruction.{instr_of}
use Rattle.rv_decode.specs.Formats.{field_of, FitsIn, IsMultipleOf, IsBelow, r_word, i_word, s_word, b_word, u_word, j_word}
use Rattle.rv_decode.specs.Laws.{DecodesEncoded}
use Rattle.rv_decode.specs.Encoding.{word_of, branch_funct3, load_funct3, store_funct3, reg_funct7, reg_funct3, reg_w_funct7, reg_w_funct3, ImmFits, ImmWFits}
use Rattle.rv_decode.proofs.Digits.{r-opcode, r-rd, r-funct3, r-rs1, r-rs2, r-funct7, i-opcode, i-rd, i-funct3, i-rs1, i-imm, i-low6, i-high6, i-low5, i-high7, s-opcode, s-funct3, s-rs1, s-rs2, s-imm, b-opcode, b-funct3, b-rs1, b-rs2, b-imm, u-opcode, u-rd, u-imm, j-opcode, j-rd, j-imm}
use Rattle.rv_decode.proofs.Immediates.{sign_extended-field_of-12, sign_extended-field_of-13, sign_extended-field_of-21, sign_extended-field_of-32, below-12, below-13, below-21, below-32, even-13, even-21, whole-32, shift-5, shift-6}
use Rattle.rv_decode.specs.declared.instr.Instr.{Instr}
use Rattle.rv_decode.specs.declared.instr.Instr.TheVariants.{Lui, Auipc, Jal, Jalr, Branch, Load, Store, OpImm, OpImmW, Op, OpW, Fence, Ecall, Ebreak, Hgate, Hleave, Hsite, Hkey, Hstop, Hrestart, Hcall, Hpark, Illegal}
use Rattle.rv_decode.specs.declared.instr.ImmOp.{ImmOp}
use Rattle.rv_decode.specs.declared.instr.ImmOp.TheVariants.{Addi, Slti, Sltiu, Xori, Ori, Andi, Slli, Srli, Srai}
use Rattle.rv_decode.specs.declared.instr.ImmWOp.{ImmWOp}
use Rattle.rv_decode.specs.declared.instr.ImmWOp.TheVariants.{Addiw, Slliw, Srliw, Sraiw}
use Rattle.rv_decode.proofs.Selected.{lui-is, auipc-is, jal-is, jalr-is, branch-is, load-is, store-is, imm-is, shift_left-is, shift_right-is, shift_signed-is, addiw-is, shift_w-is, op-is, op_w-is, fence-is, site-is, key-is}
use Rattle.rv_decode.proofs.Operations.{branch_op-again, branch_funct3-below, load_op-again, load_funct3-below, store_op-again, store_funct3-below, reg_op-again, reg_funct7-below, reg_funct3-below, reg_w_op-again, reg_w_funct7-below, reg_w_funct3-below}

ap2 : {A B C : Type 0} (f : A → B → C) {a a' : A} {b b' : B} → a ≡ a' → b ≡ b' → f a b ≡ f a' b'
ap2 f p q = cc

ap3 : {A B C D : Type 0} (f : A → B → C → D) {a a' : A} {b b' : B} {c c' : C} → a ≡ a' → b ≡ b' → c ≡ c' → f a b c ≡ f a' b' c'
ap3 f p q r = cc

-- ---- each format gives its operands back
-- of the instruction that the word is, by its fields, to the one that it was made of
u-again : (make : ℕ → ℤ → Instr) (d op : ℕ) (z : ℤ) → FitsIn 32 z → IsMultipleOf 4096 z → d < 32 → op < 128 → (let w : ℕ = u_word (field_of 32 z) d op in opcode w ≡ op → instr_of w ≡ make (rd w) (u_imm w)) → instr_of (u_word (field_of 32 z) d op) ≡ make d z
u-again make d op z f m pd po is =
    let u : ℕ = field_of 32 z in
    let pu : u < 2 ^ 32 = below-32 z f in
    let pw : u % 4096 ≡ 0 = whole-32 z f m in
    is (u-opcode u d op pu pw pd po)
    ∙ ap2 make (u-rd u d op pu pw pd po) (ap (sign_extended 32) (u-imm u d op pu pw pd po) ∙ sign_extended-field_of-32 z f)

j-again : (make : ℕ → ℤ → Instr) (d op : ℕ) (z : ℤ) → FitsIn 21 z → IsMultipleOf 2 z → d < 32 → op < 128 → (let w : ℕ = j_word (field_of 21 z) d op in opcode w ≡ op → instr_of w ≡ make (rd w) (j_imm w)) → instr_of (j_word (field_of 21 z) d op) ≡ make d z
j-again make d op z f m pd po is =
    let u : ℕ = field_of 21 z in
    let pu : u < 2 ^ 21 = below-21 z f in
    let pe : u % 2 ≡ 0 = even-21 z f m in
    is (j-opcode u d op pu pe pd po)
    ∙ ap2 make (j-rd u d op pu pe pd po) (ap (sign_extended 21) (j-imm u d op pu pe pd po) ∙ sign_extended-field_of-21 z f)

i-again : (make : ℕ → ℕ → ℤ → Instr) (a f3 d op : ℕ) (z : ℤ) → FitsIn 12 z → a < 32 → f3 < 8 → d < 32 → op < 128 → (let w : ℕ = i_word (field_of 12 z) a f3 d op in opcode w ≡ op → funct3 w ≡ f3 → instr_of w ≡ make (rd w) (rs1 w) (i_imm w)) → instr_of (i_word (field_of 12 z) a f3 d op) ≡ make d a z
i-again make a f3 d op z f pa p3 pd po is =
    let u : ℕ = field_of 12 z in
    let pu : u < 2 ^ 12 = below-12 z f in
    is (i-opcode u a f3 d op pu pa p3 pd po) (i-funct3 u a f3 d op pu pa p3 pd po)
    ∙ ap3 make (i-rd u a f3 d op pu pa p3 pd po) (i-rs1 u a f3 d op pu pa p3 pd po) (ap (sign_extended 12) (i-imm u a f3 d op pu pa p3 pd po) ∙ sign_extended-field_of-12 z f)

s-again : (make : ℕ → ℕ → ℤ → Instr) (b a f3 op : ℕ) (z : ℤ) → FitsIn 12 z → b < 32 → a < 32 → f3 < 8 → op < 128 → (let w : ℕ = s_word (field_of 12 z) b a f3 op in opcode w ≡ op → funct3 w ≡ f3 → instr_of w ≡ make (rs1 w) (rs2 w) (s_imm w)) → instr_of (s_word (field_of 12 z) b a f3 op) ≡ make a b z
s-again make b a f3 op z f pb pa p3 po is =
    let u : ℕ = field_of 12 z in
    let pu : u < 2 ^ 12 = below-12 z f in
    is (s-opcode u b a f3 op pu pb pa p3 po) (s-funct3 u b a f3 op pu pb pa p3 po)
    ∙ ap3 make (s-rs1 u b a f3 op pu pb pa p3 po) (s-rs2 u b a f3 op pu pb pa p3 po) (ap (sign_extended 12) (s-imm u b a f3 op pu pb pa p3 po) ∙ sign_extended-field_of-12 z f)

b-again : (make : ℕ → ℕ → ℤ → Instr) (b a f3 op : ℕ) (z : ℤ) → FitsIn 13 z → IsMultipleOf 2 z → b < 32 → a < 32 → f3 < 8 → op < 128 → (let w : ℕ = b_word (field_of 13 z) b a f3 op in opcode w ≡ op → funct3 w ≡ f3 → instr_of w ≡ make (rs1 w) (rs2 w) (b_imm w)) → instr_of (b_word (field_of 13 z) b a f3 op) ≡ make a b z
b-again make b a f3 op z f m pb pa p3 po is =
    let u : ℕ = field_of 13 z in
    let pu : u < 2 ^ 13 = below-13 z f in
    let pe : u % 2 ≡ 0 = even-13 z f m in
    is (b-opcode u b a f3 op pu pe pb pa p3 po) (b-funct3 u b a f3 op pu pe pb pa p3 po)
    ∙ ap3 make (b-rs1 u b a f3 op pu pe pb pa p3 po) (b-rs2 u b a f3 op pu pe pb pa p3 po) (ap (sign_extended 13) (b-imm u b a f3 op pu pe pb pa p3 po) ∙ sign_extended-field_of-13 z f)

r-again : (make : ℕ → ℕ → ℕ → Instr) (f7 b a f3 d op : ℕ) → f7 < 128 → b < 32 → a < 32 → f3 < 8 → d < 32 → op < 128 → (let w : ℕ = r_word f7 b a f3 d op in opcode w ≡ op → funct7 w ≡ f7 → funct3 w ≡ f3 → instr_of w ≡ make (rd w) (rs1 w) (rs2 w)) → instr_of (r_word f7 b a f3 d op) ≡ make d a b
r-again make f7 b a f3 d op p7 pb pa p3 pd po is =
    is (r-opcode f7 b a f3 d op p7 pb pa p3 pd po) (r-funct7 f7 b a f3 d op p7 pb pa p3 pd po) (r-funct3 f7 b a f3 d op p7 pb pa p3 pd po)
    ∙ ap3 make (r-rd f7 b a f3 d op p7 pb pa p3 pd po) (r-rs1 f7 b a f3 d op p7 pb pa p3 pd po) (r-rs2 f7 b a f3 d op p7 pb pa p3 pd po)

-- ---- operations on an immediate
-- a shift amount n under its kind k
shift6 : (make : ℕ → ℕ → ℤ → Instr) (k a f3 d op : ℕ) (z : ℤ) → IsBelow 64 z → k < 64 → a < 32 → f3 < 8 → d < 32 → op < 128 → (let w : ℕ = i_word (k * 2 ^ 6 + field_of 6 z) a f3 d op in opcode w ≡ op → funct3 w ≡ f3 → bits 31 26 w ≡ k → instr_of w ≡ make (rd w) (rs1 w) (pos (bits 25 20 w))) → instr_of (i_word (k * 2 ^ 6 + field_of 6 z) a f3 d op) ≡ make d a z
shift6 make k a f3 d op z h pk pa p3 pd po is =
    let n : ℕ = field_of 6 z in
    let pn : n < 64 = (shift-6 z h).0 in
    let u : ℕ = k * 2 ^ 6 + n in
    let pu : u < 2 ^ 12 = omega arith in
    let high : u / 64 ≡ k = omega arith in
    let low : u % 64 ≡ n = omega arith in
    is (i-opcode u a f3 d op pu pa p3 pd po) (i-funct3 u a f3 d op pu pa p3 pd po) (i-high6 u a f3 d op pu pa p3 pd po ∙ high)
    ∙ ap3 make (i-rd u a f3 d op pu pa p3 pd po) (i-rs1 u a f3 d op pu pa p3 pd po) (ap (λ x. pos x) (i-low6 u a f3 d op pu pa p3 pd po ∙ low) ∙ (shift-6 z h).1)

shift5 : (make : ℕ → ℕ → ℤ → Instr) (k a f3 d op : ℕ) (z : ℤ) → IsBelow 32 z → k < 128 → a < 32 → f3 < 8 → d < 32 → op < 128 → (let w : ℕ = i_word (k * 2 ^ 5 + field_of 5 z) a f3 d op in opcode w ≡ op → funct3 w ≡ f3 → funct7 w ≡ k → instr_of w ≡ make (rd w) (rs1 w) (pos (bits 24 20 w))) → instr_of (i_word (k * 2 ^ 5 + field_of 5 z) a f3 d op) ≡ make d a z
shift5 make k a f3 d op z h pk pa p3 pd po is =
    let n : ℕ = field_of 5 z in
    let pn : n < 32 = (shift-5 z h).0 in
    let u : ℕ = k * 2 ^ 5 + n in
    let pu : u < 2 ^ 12 = omega arith in
    let high : u / 32 ≡ k = omega arith in
    let low : u % 32 ≡ n = omega arith in
    is (i-opcode u a f3 d op pu pa p3 pd po) (i-funct3 u a f3 d op pu pa p3 pd po) (i-high7 u a f3 d op pu pa p3 pd po ∙ high)
    ∙ ap3 make (i-rd u a f3 d op pu pa p3 pd po) (i-rs1 u a f3 d op pu pa p3 pd po) (ap (λ x. pos x) (i-low5 u a f3 d op pu pa p3 pd po ∙ low) ∙ (shift-5 z h).1)

-- a kind of 0 adds nothing
no_kind : (n u : ℕ) → 0 * n + u ≡ u
no_kind n u = omega arith

imm-again : (op : ImmOp) (d a : ℕ) (z : ℤ) → ImmFits op z → d < 32 → a < 32 → instr_of (word_of (OpImm op d a z)) ≡ OpImm op d a z
imm-again Addi d a z f pd pa = i-again (λ x y i. OpImm Addi x y i) a 0b000 d 0b0010011 z f pa (omega arith) pd (omega arith) (λ o g. imm-is _ 0b000 Addi o g refl refl refl)
imm-again Slti d a z f pd pa = i-again (λ x y i. OpImm Slti x y i) a 0b010 d 0b0010011 z f pa (omega arith) pd (omega arith) (λ o g. imm-is _ 0b010 Slti o g refl refl refl)
imm-again Sltiu d a z f pd pa = i-again (λ x y i. OpImm Sltiu x y i) a 0b011 d 0b0010011 z f pa (omega arith) pd (omega arith) (λ o g. imm-is _ 0b011 Sltiu o g refl refl refl)
imm-again Xori d a z f pd pa = i-again (λ x y i. OpImm Xori x y i) a 0b100 d 0b0010011 z f pa (omega arith) pd (omega arith) (λ o g. imm-is _ 0b100 Xori o g refl refl refl)
imm-again Ori d a z f pd pa = i-again (λ x y i. OpImm Ori x y i) a 0b110 d 0b0010011 z f pa (omega arith) pd (omega arith) (λ o g. imm-is _ 0b110 Ori o g refl refl refl)
imm-again Andi d a z f pd pa = i-again (λ x y i. OpImm Andi x y i) a 0b111 d 0b0010011 z f pa (omega arith) pd (omega arith) (λ o g. imm-is _ 0b111 Andi o g refl refl refl)
imm-again Slli d a z f pd pa = ap (λ u. instr_of (i_word u a 0b001 d 0b0010011)) (sym (no_kind 64 (field_of 6 z))) ∙ shift6 (λ x y i. OpImm Slli x y i) 0 a 0b001 d 0b0010011 z f (omega arith) pa (omega arith) pd (omega arith) (λ o g h. shift_left-is _ o g h)
imm-again Srli d a z f pd pa = ap (λ u. instr_of (i_word u a 0b101 d 0b0010011)) (sym (no_kind 64 (field_of 6 z))) ∙ shift6 (λ x y i. OpImm Srli x y i) 0 a 0b101 d 0b0010011 z f (omega arith) pa (omega arith) pd (omega arith) (λ o g h. shift_right-is _ o g h)
imm-again Srai d a z f pd pa = shift6 (λ x y i. OpImm Srai x y i) 0b010000 a 0b101 d 0b0010011 z f (omega arith) pa (omega arith) pd (omega arith) (λ o g h. shift_signed-is _ o g h)

imm_w-again : (op : ImmWOp) (d a : ℕ) (z : ℤ) → ImmWFits op z → d < 32 → a < 32 → instr_of (word_of (OpImmW op d a z)) ≡ OpImmW op d a z
imm_w-again Addiw d a z f pd pa = i-again (λ x y i. OpImmW Addiw x y i) a 0b000 d 0b0011011 z f pa (omega arith) pd (omega arith) (λ o g. addiw-is _ o g)
imm_w-again Slliw d a z f pd pa = ap (λ u. instr_of (i_word u a 0b001 d 0b0011011)) (sym (no_kind 32 (field_of 5 z))) ∙ shift5 (λ x y i. OpImmW Slliw x y i) 0 a 0b001 d 0b0011011 z f (omega arith) pa (omega arith) pd (omega arith) (λ o g h. shift_w-is _ 0b001 0 Slliw o g h refl refl)
imm_w-again Srliw d a z f pd pa = ap (λ u. instr_of (i_word u a 0b101 d 0b0011011)) (sym (no_kind 32 (field_of 5 z))) ∙ shift5 (λ x y i. OpImmW Srliw x y i) 0 a 0b101 d 0b0011011 z f (omega arith) pa (omega arith) pd (omega arith) (λ o g h. shift_w-is _ 0b101 0 Srliw o g h refl refl)
imm_w-again Sraiw d a z f pd pa = shift5 (λ x y i. OpImmW Sraiw x y i) 0b0100000 a 0b101 d 0b0011011 z f (omega arith) pa (omega arith) pd (omega arith) (λ o g h. shift_w-is _ 0b101 0b0100000 Sraiw o g h refl refl)

-- ---- gates
module _ (d : ℕ) (pd : d < 32) where
  site-opcode : opcode (0x0000200B + 128 * d) ≡ 0b0001011
  site-opcode = omega arith

  site-funct3 : funct3 (0x0000200B + 128 * d) ≡ 0b010
  site-funct3 = omega arith

  site-rest : bits 31 15 (0x0000200B + 128 * d) ≡ 0
  site-rest = omega arith

  site-rd : rd (0x0000200B + 128 * d) ≡ d
  site-rd = omega arith

  key-opcode : opcode (0x0000300B + 128 * d) ≡ 0b0001011
  key-opcode = omega arith

  key-funct3 : funct3 (0x0000300B + 128 * d) ≡ 0b011
  key-funct3 = omega arith

  key-rest : bits 31 15 (0x0000300B + 128 * d) ≡ 0
  key-rest = omega arith

  key-rd : rd (0x0000300B + 128 * d) ≡ d
  key-rd = omega arith

park-again : (cause : Park) → instr_of (word_of (Hpark cause)) ≡ Hpark cause
unfolding instr_of
park-again Exit = refl
park-again Fault = refl
park-again Regions = refl
park-again LogFull = refl
park-again ParkStore = refl

call-again : (known : Bool) → instr_of (word_of (Hcall known)) ≡ Hcall known
unfolding instr_of
call-again false = refl
call-again true = refl

pub decodes_encoded : DecodesEncoded
unfolding instr_of
decodes_encoded (Lui d z) e r = u-again (λ x i. Lui x i) d 0b0110111 z e.0 e.1 r (omega arith) (λ o. lui-is _ o)
decodes_encoded (Auipc d z) e r = u-again (λ x i. Auipc x i) d 0b0010111 z e.0 e.1 r (omega arith) (λ o. auipc-is _ o)
decodes_encoded (Jal d z) e r = j-again (λ x i. Jal x i) d 0b1101111 z e.0 e.1 r (omega arith) (λ o. jal-is _ o)
decodes_encoded (Jalr d a z) e r = i-again (λ x y i. Jalr x y i) a 0 d 0b1100111 z e r.1 (omega arith) r.0 (omega arith) (λ o f. jalr-is _ o f)
decodes_encoded (Branch op a b z) e r = b-again (λ x y i. Branch op x y i) b a (branch_funct3 op) 0b1100011 z e.0 e.1 r.1 r.0 (branch_funct3-below op) (omega arith) (λ o f. branch-is _ _ op o f (branch_op-again op))
decodes_encoded (Load op d a z) e r = i-again (λ x y i. Load op x y i) a (load_funct3 op) d 0b0000011 z e r.1 (load_funct3-below op) r.0 (omega arith) (λ o f. load-is _ _ op o f (load_op-again op))
decodes_encoded (Store op a b z) e r = s-again (λ x y i. Store op x y i) b a (store_funct3 op) 0b0100011 z e r.1 r.0 (store_funct3-below op) (omega arith) (λ o f. store-is _ _ op o f (store_op-again op))
decodes_encoded (OpImm op d a z) e r = imm-again op d a z e r.0 r.1
decodes_encoded (OpImmW op d a z) e r = imm_w-again op d a z e r.0 r.1
decodes_encoded (Op op d a b) e r = r-again (λ x y v. Op op x y v) (reg_funct7 op) b a (reg_funct3 op) d 0b0110011 (reg_funct7-below op) r.2 r.1 (reg_funct3-below op) r.0 (omega arith) (λ o g f. op-is _ _ _ op o g f (reg_op-again op))
decodes_encoded (OpW op d a b) e r = r-again (λ x y v. OpW op x y v) (reg_w_funct7 op) b a (reg_w_funct3 op) d 0b0111011 (reg_w_funct7-below op) r.2 r.1 (reg_w_funct3-below op) r.0 (omega arith) (λ o g f. op_w-is _ _ _ op o g f (reg_w_op-again op))
decodes_encoded (Fence w) e r = fence-is w e.1 e.2
decodes_encoded Ecall e r = refl
decodes_encoded Ebreak e r = refl
decodes_encoded Hgate e r = refl
decodes_encoded Hleave e r = refl
decodes_encoded (Hsite d) e r = site-is _ (site-opcode d r) (site-funct3 d r) (site-rest d r) ∙ ap (λ x. Hsite x) (site-rd d r)
decodes_encoded (Hkey d) e r = key-is _ (key-opcode d r) (key-funct3 d r) (key-rest d r) ∙ ap (λ x. Hkey x) (key-rd d r)
decodes_encoded Hstop e r = refl
decodes_encoded Hrestart e r = refl
decodes_encoded (Hcall known) e r = call-again known
decodes_encoded (Hpark cause) e r = park-again cause
decodes_encoded Illegal e r = absurd e
