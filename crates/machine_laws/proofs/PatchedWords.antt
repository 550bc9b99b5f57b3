-- The word of a patched text decodes to the patched instruction.
use Rattle.std.proofs.Common.{◌≡◌, ◌≢◌, ℕ, ◌^◌, ◌<◌, refl, sym, ap, ◌∙◌, ⊎_elim, false, ◌==◌, arith}
use Rattle.std.proofs.lemmas.Bool.Decides.{nat_tests}
use Rattle.rv_decode.specs.Fields.{opcode, funct3, funct7}
use Rattle.rv_decode.specs.Instruction.{instr_of, op_imm_of, op_imm_w_of, gate_of, system_of, branch_op, load_op, store_op, reg_op, reg_w_op}
use Rattle.rv_decode.specs.declared.instr.Instr.{Instr}
use Rattle.rv_decode.specs.declared.instr.Instr.TheVariants.{Illegal}
use Rattle.rv_decode.proofs.Selected.{Major, at_lui, at_auipc, at_jal, at_jalr, at_branch, at_load, at_store, at_op_imm, at_op_imm_w, at_op, at_op_w, at_fence, at_system, at_gate, at_none, major_of, option_cases, test, lui-is, auipc-is, jal-is, jalr-is, branch-is, load-is, store-is, op-is, op_w-is, fence-is, jalr-none, branch-none, load-none, store-none, op-none, op_w-none, fence-none, op_imm-is, op_imm_w-is, system-is, gate-is, none-is}
use Rattle.code_model.specs.Patch.{patched_word, patched_instr}
use Rattle.machine_laws.specs.Words.{PatchedDecodes}

-- ---- a word is patched where it is ECALL or has the gates' opcode

-- a word of another opcode stays
word-stays : (w code : ℕ) → opcode w ≡ code → code ≢ 0b1110011 → code ≢ 0b0001011 → patched_word w ≡ w
word-stays w code o n g = grind (arith, nat_tests)

word-stays_none : (w : ℕ) → (opcode w == 0b1110011) ≡ false → (opcode w == 0b0001011) ≡ false → patched_word w ≡ w
word-stays_none w n g = grind (arith, nat_tests)

word-gate : (w : ℕ) → opcode w ≡ 0b0001011 → patched_word w ≡ 0
word-gate w o = grind (arith, nat_tests)

-- ---- and so is an instruction

op_imm-stays : (w : ℕ) → patched_instr (op_imm_of w) ≡ op_imm_of w
op_imm-stays w = grind (arith, nat_tests)

op_imm_w-stays : (w : ℕ) → patched_instr (op_imm_w_of w) ≡ op_imm_w_of w
op_imm_w-stays w = grind (arith, nat_tests)

gate-is_illegal : (w : ℕ) → patched_instr (gate_of w) ≡ Illegal
gate-is_illegal w = grind (arith, nat_tests)

-- the word 0 is illegal
pub illegal-0 : instr_of 0 ≡ Illegal
unfolding instr_of
illegal-0 = refl

-- a word of SYSTEM
system-decodes : (w : ℕ) → opcode w ≡ 0b1110011 → instr_of (patched_word w) ≡ patched_instr (system_of w)
unfolding instr_of
system-decodes w o = grind (arith, nat_tests)

module _ (w : ℕ) where
  -- neither the word nor its instruction is changed
  stays : (i : Instr) → instr_of w ≡ i → patched_word w ≡ w → patched_instr i ≡ i → instr_of (patched_word w) ≡ patched_instr (instr_of w)
  stays i e s p = ap instr_of s ∙ e ∙ sym p ∙ ap patched_instr (sym e)

  by_opcode : Major w → instr_of (patched_word w) ≡ patched_instr (instr_of w)
  by_opcode (at_lui o) = stays _ (lui-is w o) (word-stays w _ o (omega arith) (omega arith)) refl
  by_opcode (at_auipc o) = stays _ (auipc-is w o) (word-stays w _ o (omega arith) (omega arith)) refl
  by_opcode (at_jal o) = stays _ (jal-is w o) (word-stays w _ o (omega arith) (omega arith)) refl
  by_opcode (at_jalr o) =
      let s : patched_word w ≡ w = word-stays w _ o (omega arith) (omega arith) in
      ⊎_elim (λ f. stays _ (jalr-is w o f) s refl) (λ n. stays _ (jalr-none w o n) s refl) (test (funct3 w) 0)
  by_opcode (at_branch o) =
      let s : patched_word w ≡ w = word-stays w _ o (omega arith) (omega arith) in
      ⊎_elim (λ n. stays _ (branch-none w _ o refl n) s refl) (λ (op, b). stays _ (branch-is w _ op o refl b) s refl) (option_cases (branch_op (funct3 w)))
  by_opcode (at_load o) =
      let s : patched_word w ≡ w = word-stays w _ o (omega arith) (omega arith) in
      ⊎_elim (λ n. stays _ (load-none w _ o refl n) s refl) (λ (op, b). stays _ (load-is w _ op o refl b) s refl) (option_cases (load_op (funct3 w)))
  by_opcode (at_store o) =
      let s : patched_word w ≡ w = word-stays w _ o (omega arith) (omega arith) in
      ⊎_elim (λ n. stays _ (store-none w _ o refl n) s refl) (λ (op, b). stays _ (store-is w _ op o refl b) s refl) (option_cases (store_op (funct3 w)))
  by_opcode (at_op_imm o) = stays _ (op_imm-is w o) (word-stays w _ o (omega arith) (omega arith)) (op_imm-stays w)
  by_opcode (at_op_imm_w o) = stays _ (op_imm_w-is w o) (word-stays w _ o (omega arith) (omega arith)) (op_imm_w-stays w)
  by_opcode (at_op o) =
      let s : patched_word w ≡ w = word-stays w _ o (omega arith) (omega arith) in
      ⊎_elim (λ n. stays _ (op-none w _ _ o refl refl n) s refl) (λ (op, b). stays _ (op-is w _ _ op o refl refl b) s refl) (option_cases (reg_op (funct7 w) (funct3 w)))
  by_opcode (at_op_w o) =
      let s : patched_word w ≡ w = word-stays w _ o (omega arith) (omega arith) in
      ⊎_elim (λ n. stays _ (op_w-none w _ _ o refl refl n) s refl) (λ (op, b). stays _ (op_w-is w _ _ op o refl refl b) s refl) (option_cases (reg_w_op (funct7 w) (funct3 w)))
  by_opcode (at_fence o) =
      let s : patched_word w ≡ w = word-stays w _ o (omega arith) (omega arith) in
      ⊎_elim (λ f. stays _ (fence-is w o f) s refl) (λ n. stays _ (fence-none w o n) s refl) (test (funct3 w) 0)
  by_opcode (at_system o) = system-decodes w o ∙ ap patched_instr (sym (system-is w o))
  by_opcode (at_gate o) = ap instr_of (word-gate w o) ∙ illegal-0 ∙ sym (gate-is_illegal w) ∙ ap patched_instr (sym (gate-is w o))
  by_opcode (at_none n1 n2 n3 n4 n5 n6 n7 n8 n9 n10 n11 n12 n13 n14) =
      stays _ (none-is w n1 n2 n3 n4 n5 n6 n7 n8 n9 n10 n11 n12 n13 n14) (word-stays_none w n13 n14) refl

pub patched_decodes : PatchedDecodes
patched_decodes w = by_opcode w (major_of w)

-- a patched word has 32 bits
pub patched-bits : (w : ℕ) → w < 2 ^ 32 → patched_word w < 2 ^ 32
patched-bits w h = grind (arith, nat_tests)
