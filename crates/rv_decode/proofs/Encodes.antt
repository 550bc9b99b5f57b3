-- Encoding undoes decoding.
use Rattle.std.proofs.Common.{◌≡◌, ◌≢◌, ℕ, ◌+◌, ◌*◌, ◌^◌, ◌<◌, ap, refl, sym, ◌∙◌, ⊎_elim, arith}
use Rattle.std.proofs.lemmas.Int.{ints}
use Rattle.std.proofs.lemmas.Bool.Decides.{nat_tests}
use Rattle.rv_decode.specs.Fields.{bits, opcode, rd, funct3, rs1, rs2, funct7, i_imm, s_imm, b_imm, u_imm, j_imm}
use Rattle.rv_decode.specs.Instruction.{instr_of, gate_of, op_imm_of, op_imm_w_of, branch_op, load_op, store_op, reg_op, reg_w_op}
use Rattle.rv_decode.specs.Formats.{field_of, r_word, i_word, s_word, b_word, u_word, j_word}
use Rattle.rv_decode.specs.Laws.{EncodesDecoded}
use Rattle.rv_decode.specs.Encoding.{word_of, reg_funct3, reg_w_funct3}
use Rattle.rv_decode.specs.declared.instr.Instr.{Instr}
use Rattle.rv_decode.specs.declared.instr.Instr.TheVariants.{Illegal}
use Rattle.rv_decode.proofs.Immediates.{field_of-sign_extended-12, field_of-sign_extended-13, field_of-sign_extended-21, field_of-sign_extended-32}
use Rattle.rv_decode.proofs.Operations.{branch_funct3-is, load_funct3-is, store_funct3-is, reg_fields-are, reg_w_fields-are}
use Rattle.rv_decode.proofs.Selected.{Major, at_lui, at_auipc, at_jal, at_jalr, at_branch, at_load, at_store, at_op_imm, at_op_imm_w, at_op, at_op_w, at_fence, at_system, at_gate, at_none, major_of, option_cases, test, jalr-is, branch-is, load-is, store-is, op-is, op_w-is, fence-is, jalr-none, branch-none, load-none, store-none, op-none, op_w-none, fence-none, system-none, op_imm-is, op_imm_w-is, gate-is, none-is}

-- ---- a word is made of its fields
module _ (w op : ℕ) (pw : w < 2 ^ 32) (o : opcode w ≡ op) where
  r-back : r_word (funct7 w) (rs2 w) (rs1 w) (funct3 w) (rd w) op ≡ w
  r-back = omega arith

  i-back : i_word (bits 31 20 w) (rs1 w) (funct3 w) (rd w) op ≡ w
  i-back = omega arith

  i-signed : i_word (field_of 12 (i_imm w)) (rs1 w) (funct3 w) (rd w) op ≡ w
  i-signed = ap (λ u. i_word u (rs1 w) (funct3 w) (rd w) op) (field_of-sign_extended-12 (bits 31 20 w) (omega arith)) ∙ i-back

  s-back : s_word (bits 31 25 w * 2 ^ 5 + bits 11 7 w) (rs2 w) (rs1 w) (funct3 w) op ≡ w
  s-back = omega arith

  s-signed : s_word (field_of 12 (s_imm w)) (rs2 w) (rs1 w) (funct3 w) op ≡ w
  s-signed = ap (λ u. s_word u (rs2 w) (rs1 w) (funct3 w) op) (field_of-sign_extended-12 _ (omega arith)) ∙ s-back

  b-back : b_word (bits 31 31 w * 2 ^ 12 + bits 7 7 w * 2 ^ 11 + bits 30 25 w * 2 ^ 5 + bits 11 8 w * 2) (rs2 w) (rs1 w) (funct3 w) op ≡ w
  b-back = omega arith

  b-signed : b_word (field_of 13 (b_imm w)) (rs2 w) (rs1 w) (funct3 w) op ≡ w
  b-signed = ap (λ u. b_word u (rs2 w) (rs1 w) (funct3 w) op) (field_of-sign_extended-13 (bits 31 31 w * 2 ^ 12 + bits 7 7 w * 2 ^ 11 + bits 30 25 w * 2 ^ 5 + bits 11 8 w * 2) (omega arith)) ∙ b-back

  u-back : u_word (bits 31 12 w * 2 ^ 12) (rd w) op ≡ w
  u-back = omega arith

  u-signed : u_word (field_of 32 (u_imm w)) (rd w) op ≡ w
  u-signed = ap (λ u. u_word u (rd w) op) (field_of-sign_extended-32 (bits 31 12 w * 2 ^ 12) (omega arith)) ∙ u-back

  j-back : j_word (bits 31 31 w * 2 ^ 20 + bits 19 12 w * 2 ^ 12 + bits 20 20 w * 2 ^ 11 + bits 30 21 w * 2) (rd w) op ≡ w
  j-back = omega arith

  j-signed : j_word (field_of 21 (j_imm w)) (rd w) op ≡ w
  j-signed = ap (λ u. j_word u (rd w) op) (field_of-sign_extended-21 (bits 31 31 w * 2 ^ 20 + bits 19 12 w * 2 ^ 12 + bits 20 20 w * 2 ^ 11 + bits 30 21 w * 2) (omega arith)) ∙ j-back

-- ---- by the opcode
module _ (w : ℕ) (pw : w < 2 ^ 32) (legal : instr_of w ≢ Illegal) where
  lui-back : opcode w ≡ 0b0110111 → word_of (instr_of w) ≡ w
  unfolding instr_of
  lui-back o = rw o (u-signed w _ pw o)

  auipc-back : opcode w ≡ 0b0010111 → word_of (instr_of w) ≡ w
  unfolding instr_of
  auipc-back o = rw o (u-signed w _ pw o)

  jal-back : opcode w ≡ 0b1101111 → word_of (instr_of w) ≡ w
  unfolding instr_of
  jal-back o = rw o (j-signed w _ pw o)

  branch-back : opcode w ≡ 0b1100011 → word_of (instr_of w) ≡ w
  branch-back o = ⊎_elim
      (λ n. absurd (legal (branch-none w _ o refl n)))
      (λ (op, s). ap word_of (branch-is w _ op o refl s) ∙ ap (λ f. b_word (field_of 13 (b_imm w)) (rs2 w) (rs1 w) f 0b1100011) (branch_funct3-is _ op s) ∙ b-signed w _ pw o)
      (option_cases (branch_op (funct3 w)))

  load-back : opcode w ≡ 0b0000011 → word_of (instr_of w) ≡ w
  load-back o = ⊎_elim
      (λ n. absurd (legal (load-none w _ o refl n)))
      (λ (op, s). ap word_of (load-is w _ op o refl s) ∙ ap (λ f. i_word (field_of 12 (i_imm w)) (rs1 w) f (rd w) 0b0000011) (load_funct3-is _ op s) ∙ i-signed w _ pw o)
      (option_cases (load_op (funct3 w)))

  store-back : opcode w ≡ 0b0100011 → word_of (instr_of w) ≡ w
  store-back o = ⊎_elim
      (λ n. absurd (legal (store-none w _ o refl n)))
      (λ (op, s). ap word_of (store-is w _ op o refl s) ∙ ap (λ f. s_word (field_of 12 (s_imm w)) (rs2 w) (rs1 w) f 0b0100011) (store_funct3-is _ op s) ∙ s-signed w _ pw o)
      (option_cases (store_op (funct3 w)))

  op-back : opcode w ≡ 0b0110011 → word_of (instr_of w) ≡ w
  op-back o = ⊎_elim
      (λ n. absurd (legal (op-none w _ _ o refl refl n)))
      (λ (op, s). ap word_of (op-is w _ _ op o refl refl s) ∙ ap (λ f. r_word f (rs2 w) (rs1 w) (reg_funct3 op) (rd w) 0b0110011) (reg_fields-are (funct7 w) (funct3 w) op s).0 ∙ ap (λ f. r_word (funct7 w) (rs2 w) (rs1 w) f (rd w) 0b0110011) (reg_fields-are (funct7 w) (funct3 w) op s).1 ∙ r-back w _ pw o)
      (option_cases (reg_op (funct7 w) (funct3 w)))

  op_w-back : opcode w ≡ 0b0111011 → word_of (instr_of w) ≡ w
  op_w-back o = ⊎_elim
      (λ n. absurd (legal (op_w-none w _ _ o refl refl n)))
      (λ (op, s). ap word_of (op_w-is w _ _ op o refl refl s) ∙ ap (λ f. r_word f (rs2 w) (rs1 w) (reg_w_funct3 op) (rd w) 0b0111011) (reg_w_fields-are (funct7 w) (funct3 w) op s).0 ∙ ap (λ f. r_word (funct7 w) (rs2 w) (rs1 w) f (rd w) 0b0111011) (reg_w_fields-are (funct7 w) (funct3 w) op s).1 ∙ r-back w _ pw o)
      (option_cases (reg_w_op (funct7 w) (funct3 w)))

gate-back : (w : ℕ) → w < 2 ^ 32 → opcode w ≡ 0b0001011 → (gate_of w ≢ Illegal) → word_of (gate_of w) ≡ w
gate-back w pw o legal = grind (arith, nat_tests)

op_imm_w-back : (w : ℕ) → w < 2 ^ 32 → opcode w ≡ 0b0011011 → (op_imm_w_of w ≢ Illegal) → word_of (op_imm_w_of w) ≡ w
op_imm_w-back w pw o legal = grind (arith, nat_tests, ints)

op_imm-back : (w : ℕ) → w < 2 ^ 32 → opcode w ≡ 0b0010011 → (op_imm_of w ≢ Illegal) → word_of (op_imm_of w) ≡ w
op_imm-back w pw o legal = grind (arith, nat_tests, ints)

-- ---- every word
module _ (w : ℕ) (pw : w < 2 ^ 32) (legal : instr_of w ≢ Illegal) where
  jalr-back : opcode w ≡ 0b1100111 → word_of (instr_of w) ≡ w
  jalr-back o = ⊎_elim (λ f. ap word_of (jalr-is w o f) ∙ ap (λ f. i_word (field_of 12 (i_imm w)) (rs1 w) f (rd w) 0b1100111) (sym f) ∙ i-signed w _ pw o) (λ n. absurd (legal (jalr-none w o n))) (test (funct3 w) 0)

  fence-back : opcode w ≡ 0b0001111 → word_of (instr_of w) ≡ w
  fence-back o = ⊎_elim (λ f. ap word_of (fence-is w o f)) (λ n. absurd (legal (fence-none w o n))) (test (funct3 w) 0)

  system-back : opcode w ≡ 0b1110011 → word_of (instr_of w) ≡ w
  unfolding instr_of
  system-back o = ⊎_elim (λ e. rw e refl) (λ n. ⊎_elim (λ e. rw e refl) (λ m. absurd (legal (system-none w o n m))) (test w 0x00100073)) (test w 0x00000073)

  -- a part of the definition that gives its words back
  within : (i : Instr) → instr_of w ≡ i → (i ≢ Illegal → word_of i ≡ w) → word_of (instr_of w) ≡ w
  within i e back = ap word_of e ∙ back (λ n. legal (e ∙ n))

  back : Major w → word_of (instr_of w) ≡ w
  back (at_lui o) = lui-back w pw legal o
  back (at_auipc o) = auipc-back w pw legal o
  back (at_jal o) = jal-back w pw legal o
  back (at_jalr o) = jalr-back o
  back (at_branch o) = branch-back w pw legal o
  back (at_load o) = load-back w pw legal o
  back (at_store o) = store-back w pw legal o
  back (at_op_imm o) = within (op_imm_of w) (op_imm-is w o) (op_imm-back w pw o)
  back (at_op_imm_w o) = within (op_imm_w_of w) (op_imm_w-is w o) (op_imm_w-back w pw o)
  back (at_op o) = op-back w pw legal o
  back (at_op_w o) = op_w-back w pw legal o
  back (at_fence o) = fence-back o
  back (at_system o) = system-back o
  back (at_gate o) = within (gate_of w) (gate-is w o) (gate-back w pw o)
  back (at_none n1 n2 n3 n4 n5 n6 n7 n8 n9 n10 n11 n12 n13 n14) = absurd (legal (none-is w n1 n2 n3 n4 n5 n6 n7 n8 n9 n10 n11 n12 n13 n14))

pub encodes_decoded : EncodesDecoded
encodes_decoded w pw legal = back w pw legal (major_of w)
