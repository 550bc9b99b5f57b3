-- What a word is, by the fields that select its instruction.
use Rattle.std.proofs.Common.{◌≡◌, ◌⊎◌, ℕ, refl, inl, inr, ⊎_elim, pos, false, Some, None, Option, ◌==◌}
use Rattle.std.proofs.lemmas.Bool.Decides.{eqb_tells}
use Rattle.rv_decode.specs.Fields.{bits, opcode, rd, funct3, rs1, rs2, funct7, i_imm, s_imm, b_imm, u_imm, j_imm}
use Rattle.rv_decode.specs.Instruction.{instr_of, op_imm_of, op_imm_w_of, system_of, gate_of, branch_op, load_op, store_op, imm_op, shift_w_op, reg_op, reg_w_op}
use Rattle.rv_decode.specs.declared.instr.Instr.TheVariants.{Lui, Auipc, Jal, Jalr, Branch, Load, Store, OpImm, OpImmW, Op, OpW, Fence, Hsite, Hkey, Illegal}
use Rattle.rv_decode.specs.declared.instr.BranchOp.{BranchOp}
use Rattle.rv_decode.specs.declared.instr.LoadOp.{LoadOp}
use Rattle.rv_decode.specs.declared.instr.StoreOp.{StoreOp}
use Rattle.rv_decode.specs.declared.instr.ImmOp.{ImmOp}
use Rattle.rv_decode.specs.declared.instr.ImmOp.TheVariants.{Slli, Srli, Srai}
use Rattle.rv_decode.specs.declared.instr.ImmWOp.{ImmWOp}
use Rattle.rv_decode.specs.declared.instr.ImmWOp.TheVariants.{Addiw}
use Rattle.rv_decode.specs.declared.instr.RegOp.{RegOp}
use Rattle.rv_decode.specs.declared.instr.RegWOp.{RegWOp}

-- ---- the fields select an instruction
pub lui-is : (w : ℕ) → opcode w ≡ 0b0110111 → instr_of w ≡ Lui (rd w) (u_imm w)
unfolding instr_of
lui-is w o = rw o refl

pub auipc-is : (w : ℕ) → opcode w ≡ 0b0010111 → instr_of w ≡ Auipc (rd w) (u_imm w)
unfolding instr_of
auipc-is w o = rw o refl

pub jal-is : (w : ℕ) → opcode w ≡ 0b1101111 → instr_of w ≡ Jal (rd w) (j_imm w)
unfolding instr_of
jal-is w o = rw o refl

pub jalr-is : (w : ℕ) → opcode w ≡ 0b1100111 → funct3 w ≡ 0 → instr_of w ≡ Jalr (rd w) (rs1 w) (i_imm w)
unfolding instr_of
jalr-is w o f = rw (o, f) refl

pub branch-is : (w f3 : ℕ) (op : BranchOp) → opcode w ≡ 0b1100011 → funct3 w ≡ f3 → branch_op f3 ≡ Some op → instr_of w ≡ Branch op (rs1 w) (rs2 w) (b_imm w)
unfolding instr_of
branch-is w f3 op o f b = rw (o, f, b) refl

pub load-is : (w f3 : ℕ) (op : LoadOp) → opcode w ≡ 0b0000011 → funct3 w ≡ f3 → load_op f3 ≡ Some op → instr_of w ≡ Load op (rd w) (rs1 w) (i_imm w)
unfolding instr_of
load-is w f3 op o f b = rw (o, f, b) refl

pub store-is : (w f3 : ℕ) (op : StoreOp) → opcode w ≡ 0b0100011 → funct3 w ≡ f3 → store_op f3 ≡ Some op → instr_of w ≡ Store op (rs1 w) (rs2 w) (s_imm w)
unfolding instr_of
store-is w f3 op o f b = rw (o, f, b) refl

pub imm-is : (w f3 : ℕ) (op : ImmOp) → opcode w ≡ 0b0010011 → funct3 w ≡ f3 → (f3 == 0b001) ≡ false → (f3 == 0b101) ≡ false → imm_op f3 ≡ Some op → instr_of w ≡ OpImm op (rd w) (rs1 w) (i_imm w)
unfolding instr_of
imm-is w f3 op o f n m b = rw (o, f, n, m, b) refl

pub shift_left-is : (w : ℕ) → opcode w ≡ 0b0010011 → funct3 w ≡ 0b001 → bits 31 26 w ≡ 0 → instr_of w ≡ OpImm Slli (rd w) (rs1 w) (pos (bits 25 20 w))
unfolding instr_of
shift_left-is w o f h = rw (o, f, h) refl

pub shift_right-is : (w : ℕ) → opcode w ≡ 0b0010011 → funct3 w ≡ 0b101 → bits 31 26 w ≡ 0 → instr_of w ≡ OpImm Srli (rd w) (rs1 w) (pos (bits 25 20 w))
unfolding instr_of
shift_right-is w o f h = rw (o, f, h) refl

pub shift_signed-is : (w : ℕ) → opcode w ≡ 0b0010011 → funct3 w ≡ 0b101 → bits 31 26 w ≡ 0b010000 → instr_of w ≡ OpImm Srai (rd w) (rs1 w) (pos (bits 25 20 w))
unfolding instr_of
shift_signed-is w o f h = rw (o, f, h) refl

pub addiw-is : (w : ℕ) → opcode w ≡ 0b0011011 → funct3 w ≡ 0 → instr_of w ≡ OpImmW Addiw (rd w) (rs1 w) (i_imm w)
unfolding instr_of
addiw-is w o f = rw (o, f) refl

pub shift_w-is : (w f3 f7 : ℕ) (op : ImmWOp) → opcode w ≡ 0b0011011 → funct3 w ≡ f3 → funct7 w ≡ f7 → (f3 == 0) ≡ false → shift_w_op f3 f7 ≡ Some op → instr_of w ≡ OpImmW op (rd w) (rs1 w) (pos (bits 24 20 w))
unfolding instr_of
shift_w-is w f3 f7 op o f g n b = rw (o, f, g, n, b) refl

pub op-is : (w f7 f3 : ℕ) (op : RegOp) → opcode w ≡ 0b0110011 → funct7 w ≡ f7 → funct3 w ≡ f3 → reg_op f7 f3 ≡ Some op → instr_of w ≡ Op op (rd w) (rs1 w) (rs2 w)
unfolding instr_of
op-is w f7 f3 op o g f b = rw (o, g, f, b) refl

pub op_w-is : (w f7 f3 : ℕ) (op : RegWOp) → opcode w ≡ 0b0111011 → funct7 w ≡ f7 → funct3 w ≡ f3 → reg_w_op f7 f3 ≡ Some op → instr_of w ≡ OpW op (rd w) (rs1 w) (rs2 w)
unfolding instr_of
op_w-is w f7 f3 op o g f b = rw (o, g, f, b) refl

pub fence-is : (w : ℕ) → opcode w ≡ 0b0001111 → funct3 w ≡ 0 → instr_of w ≡ Fence w
unfolding instr_of
fence-is w o f = rw (o, f) refl

pub site-is : (w : ℕ) → opcode w ≡ 0b0001011 → funct3 w ≡ 0b010 → bits 31 15 w ≡ 0 → instr_of w ≡ Hsite (rd w)
unfolding instr_of
site-is w o f h = rw (o, f, h) refl

pub key-is : (w : ℕ) → opcode w ≡ 0b0001011 → funct3 w ≡ 0b011 → bits 31 15 w ≡ 0 → instr_of w ≡ Hkey (rd w)
unfolding instr_of
key-is w o f h = rw (o, f, h) refl

-- ---- no operation is selected
pub jalr-none : (w : ℕ) → opcode w ≡ 0b1100111 → (funct3 w == 0) ≡ false → instr_of w ≡ Illegal
unfolding instr_of
jalr-none w o n = rw (o, n) refl

pub branch-none : (w f3 : ℕ) → opcode w ≡ 0b1100011 → funct3 w ≡ f3 → branch_op f3 ≡ None → instr_of w ≡ Illegal
unfolding instr_of
branch-none w f3 o f n = rw (o, f, n) refl

pub load-none : (w f3 : ℕ) → opcode w ≡ 0b0000011 → funct3 w ≡ f3 → load_op f3 ≡ None → instr_of w ≡ Illegal
unfolding instr_of
load-none w f3 o f n = rw (o, f, n) refl

pub store-none : (w f3 : ℕ) → opcode w ≡ 0b0100011 → funct3 w ≡ f3 → store_op f3 ≡ None → instr_of w ≡ Illegal
unfolding instr_of
store-none w f3 o f n = rw (o, f, n) refl

pub op-none : (w f7 f3 : ℕ) → opcode w ≡ 0b0110011 → funct7 w ≡ f7 → funct3 w ≡ f3 → reg_op f7 f3 ≡ None → instr_of w ≡ Illegal
unfolding instr_of
op-none w f7 f3 o g f n = rw (o, g, f, n) refl

pub op_w-none : (w f7 f3 : ℕ) → opcode w ≡ 0b0111011 → funct7 w ≡ f7 → funct3 w ≡ f3 → reg_w_op f7 f3 ≡ None → instr_of w ≡ Illegal
unfolding instr_of
op_w-none w f7 f3 o g f n = rw (o, g, f, n) refl

pub fence-none : (w : ℕ) → opcode w ≡ 0b0001111 → (funct3 w == 0) ≡ false → instr_of w ≡ Illegal
unfolding instr_of
fence-none w o n = rw (o, n) refl

pub system-none : (w : ℕ) → opcode w ≡ 0b1110011 → (w == 0x00000073) ≡ false → (w == 0x00100073) ≡ false → instr_of w ≡ Illegal
unfolding instr_of
system-none w o n m = rw (o, n, m) refl

-- ---- the opcode leads to a part of the definition
pub op_imm-is : (w : ℕ) → opcode w ≡ 0b0010011 → instr_of w ≡ op_imm_of w
unfolding instr_of
op_imm-is w o = rw o refl

pub op_imm_w-is : (w : ℕ) → opcode w ≡ 0b0011011 → instr_of w ≡ op_imm_w_of w
unfolding instr_of
op_imm_w-is w o = rw o refl

pub system-is : (w : ℕ) → opcode w ≡ 0b1110011 → instr_of w ≡ system_of w
unfolding instr_of
system-is w o = rw o refl

pub gate-is : (w : ℕ) → opcode w ≡ 0b0001011 → instr_of w ≡ gate_of w
unfolding instr_of
gate-is w o = rw o refl

-- ---- the opcode of a word
-- one of the opcodes of the table, or none of them
pub data Major (w : ℕ) : Type 0 where
  at_lui : opcode w ≡ 0b0110111 → Major w
  at_auipc : opcode w ≡ 0b0010111 → Major w
  at_jal : opcode w ≡ 0b1101111 → Major w
  at_jalr : opcode w ≡ 0b1100111 → Major w
  at_branch : opcode w ≡ 0b1100011 → Major w
  at_load : opcode w ≡ 0b0000011 → Major w
  at_store : opcode w ≡ 0b0100011 → Major w
  at_op_imm : opcode w ≡ 0b0010011 → Major w
  at_op_imm_w : opcode w ≡ 0b0011011 → Major w
  at_op : opcode w ≡ 0b0110011 → Major w
  at_op_w : opcode w ≡ 0b0111011 → Major w
  at_fence : opcode w ≡ 0b0001111 → Major w
  at_system : opcode w ≡ 0b1110011 → Major w
  at_gate : opcode w ≡ 0b0001011 → Major w
  at_none : (opcode w == 0b0110111) ≡ false → (opcode w == 0b0010111) ≡ false → (opcode w == 0b1101111) ≡ false → (opcode w == 0b1100111) ≡ false → (opcode w == 0b1100011) ≡ false → (opcode w == 0b0000011) ≡ false → (opcode w == 0b0100011) ≡ false → (opcode w == 0b0010011) ≡ false → (opcode w == 0b0011011) ≡ false → (opcode w == 0b0110011) ≡ false → (opcode w == 0b0111011) ≡ false → (opcode w == 0b0001111) ≡ false → (opcode w == 0b1110011) ≡ false → (opcode w == 0b0001011) ≡ false → Major w

pub none-is : (w : ℕ) → (opcode w == 0b0110111) ≡ false → (opcode w == 0b0010111) ≡ false → (opcode w == 0b1101111) ≡ false → (opcode w == 0b1100111) ≡ false → (opcode w == 0b1100011) ≡ false → (opcode w == 0b0000011) ≡ false → (opcode w == 0b0100011) ≡ false → (opcode w == 0b0010011) ≡ false → (opcode w == 0b0011011) ≡ false → (opcode w == 0b0110011) ≡ false → (opcode w == 0b0111011) ≡ false → (opcode w == 0b0001111) ≡ false → (opcode w == 0b1110011) ≡ false → (opcode w == 0b0001011) ≡ false → instr_of w ≡ Illegal
unfolding instr_of
none-is w n1 n2 n3 n4 n5 n6 n7 n8 n9 n10 n11 n12 n13 n14 = rw (n1, n2, n3, n4, n5, n6, n7, n8, n9, n10, n11, n12, n13, n14) refl

-- two numbers are equal, or their test says no
pub test : (a b : ℕ) → (a ≡ b) ⊎ ((a == b) ≡ false)
test a b = ⊎_elim (λ h. inl h.1) (λ h. inr h.0) (eqb_tells a b)

pub major_of : (w : ℕ) → Major w
major_of w =
    ⊎_elim (λ o. at_lui o) (λ n1.
    ⊎_elim (λ o. at_auipc o) (λ n2.
    ⊎_elim (λ o. at_jal o) (λ n3.
    ⊎_elim (λ o. at_jalr o) (λ n4.
    ⊎_elim (λ o. at_branch o) (λ n5.
    ⊎_elim (λ o. at_load o) (λ n6.
    ⊎_elim (λ o. at_store o) (λ n7.
    ⊎_elim (λ o. at_op_imm o) (λ n8.
    ⊎_elim (λ o. at_op_imm_w o) (λ n9.
    ⊎_elim (λ o. at_op o) (λ n10.
    ⊎_elim (λ o. at_op_w o) (λ n11.
    ⊎_elim (λ o. at_fence o) (λ n12.
    ⊎_elim (λ o. at_system o) (λ n13.
    ⊎_elim (λ o. at_gate o) (λ n14.
    at_none n1 n2 n3 n4 n5 n6 n7 n8 n9 n10 n11 n12 n13 n14
    ) (test (opcode w) 0b0001011)
    ) (test (opcode w) 0b1110011)
    ) (test (opcode w) 0b0001111)
    ) (test (opcode w) 0b0111011)
    ) (test (opcode w) 0b0110011)
    ) (test (opcode w) 0b0011011)
    ) (test (opcode w) 0b0010011)
    ) (test (opcode w) 0b0100011)
    ) (test (opcode w) 0b0000011)
    ) (test (opcode w) 0b1100011)
    ) (test (opcode w) 0b1100111)
    ) (test (opcode w) 0b1101111)
    ) (test (opcode w) 0b0010111)
    ) (test (opcode w) 0b0110111)

-- nothing was found, or something
pub option_cases : {A : Type 0} (o : Option A) → (o ≡ None) ⊎ ((x : A) × (o ≡ Some x))
option_cases None = inl refl
option_cases (Some x) = inr (x, refl)
