-- What is decoded can be encoded.
use Rattle.std.proofs.Common.{◌≡◌, ◌≢◌, ℕ, ◌+◌, ◌*◌, ◌%◌, ◌^◌, ◌<◌, refl, sym, subst, ◌∙◌, ⊎_elim, arith}
use Rattle.std.proofs.lemmas.Int.{ints}
use Rattle.std.proofs.lemmas.Bool.Decides.{nat_tests}
use Rattle.rv_decode.specs.Fields.{bits, rd, funct3, rs1, rs2, funct7, sign_extended, i_imm, s_imm, b_imm, u_imm, j_imm}
use Rattle.rv_decode.specs.Instruction.{instr_of, op_imm_of, op_imm_w_of, gate_of, system_of, branch_op, load_op, store_op, reg_op, reg_w_op}
use Rattle.rv_decode.specs.Formats.{FitsIn, IsMultipleOf}
use Rattle.rv_decode.specs.Encoding.{IsEncodable, HasRegisters}
use Rattle.rv_decode.specs.Laws.{DecodedIsEncodable, DecodedHasRegisters}
use Rattle.rv_decode.specs.declared.instr.Instr.{Instr}
use Rattle.rv_decode.specs.declared.instr.Instr.TheVariants.{Illegal}
use Rattle.rv_decode.proofs.Selected.{Major, at_lui, at_auipc, at_jal, at_jalr, at_branch, at_load, at_store, at_op_imm, at_op_imm_w, at_op, at_op_w, at_fence, at_system, at_gate, at_none, major_of, option_cases, test, lui-is, auipc-is, jal-is, jalr-is, branch-is, load-is, store-is, op-is, op_w-is, fence-is, jalr-none, branch-none, load-none, store-none, op-none, op_w-none, fence-none, op_imm-is, op_imm_w-is, system-is, gate-is, none-is}

fits-12 : (n : ℕ) → n < 2 ^ 12 → FitsIn 12 (sign_extended 12 n)
fits-12 n h = grind (arith, ints)

fits-13 : (n : ℕ) → n < 2 ^ 13 → n % 2 ≡ 0 → FitsIn 13 (sign_extended 13 n) × IsMultipleOf 2 (sign_extended 13 n)
fits-13 n h e = grind (arith, ints)

fits-21 : (n : ℕ) → n < 2 ^ 21 → n % 2 ≡ 0 → FitsIn 21 (sign_extended 21 n) × IsMultipleOf 2 (sign_extended 21 n)
fits-21 n h e = grind (arith, ints)

fits-32 : (n : ℕ) → n < 2 ^ 32 → n % 4096 ≡ 0 → FitsIn 32 (sign_extended 32 n) × IsMultipleOf 4096 (sign_extended 32 n)
fits-32 n h e = grind (arith, ints)

branch-fits : (w : ℕ) → FitsIn 13 (b_imm w) × IsMultipleOf 2 (b_imm w)
branch-fits w = fits-13 (bits 31 31 w * 2 ^ 12 + bits 7 7 w * 2 ^ 11 + bits 30 25 w * 2 ^ 5 + bits 11 8 w * 2) (omega arith) (omega arith)

jump-fits : (w : ℕ) → FitsIn 21 (j_imm w) × IsMultipleOf 2 (j_imm w)
jump-fits w = fits-21 (bits 31 31 w * 2 ^ 20 + bits 19 12 w * 2 ^ 12 + bits 20 20 w * 2 ^ 11 + bits 30 21 w * 2) (omega arith) (omega arith)

gate-encodable : (w : ℕ) → (gate_of w ≢ Illegal) → IsEncodable (gate_of w)
gate-encodable w l = grind (arith, nat_tests)

op_imm-encodable : (w : ℕ) → (op_imm_of w ≢ Illegal) → IsEncodable (op_imm_of w)
op_imm-encodable w l = grind (arith, nat_tests, ints)

op_imm_w-encodable : (w : ℕ) → (op_imm_w_of w ≢ Illegal) → IsEncodable (op_imm_w_of w)
op_imm_w-encodable w l = grind (arith, nat_tests, ints)

system-encodable : (w : ℕ) → (system_of w ≢ Illegal) → IsEncodable (system_of w)
system-encodable w l = grind (arith, nat_tests)

module _ (w : ℕ) (pw : w < 2 ^ 32) (legal : instr_of w ≢ Illegal) where
  at : (i : Instr) → instr_of w ≡ i → IsEncodable i → IsEncodable (instr_of w)
  at i e p = subst IsEncodable (sym e) p

  within : (i : Instr) → instr_of w ≡ i → (i ≢ Illegal → IsEncodable i) → IsEncodable (instr_of w)
  within i e p = at i e (p (λ n. legal (e ∙ n)))

  imm-fits : FitsIn 12 (i_imm w)
  imm-fits = fits-12 (bits 31 20 w) (omega arith)

  store-fits : FitsIn 12 (s_imm w)
  store-fits = fits-12 (bits 31 25 w * 2 ^ 5 + bits 11 7 w) (omega arith)

  upper-fits : FitsIn 32 (u_imm w) × IsMultipleOf 4096 (u_imm w)
  upper-fits = fits-32 (bits 31 12 w * 2 ^ 12) (omega arith) (omega arith)

  encodable : Major w → IsEncodable (instr_of w)
  encodable (at_lui o) = at _ (lui-is w o) upper-fits
  encodable (at_auipc o) = at _ (auipc-is w o) upper-fits
  encodable (at_jal o) = at _ (jal-is w o) (jump-fits w)
  encodable (at_jalr o) = ⊎_elim (λ f. at _ (jalr-is w o f) imm-fits) (λ n. absurd (legal (jalr-none w o n))) (test (funct3 w) 0)
  encodable (at_branch o) = ⊎_elim (λ n. absurd (legal (branch-none w _ o refl n))) (λ (op, s). at _ (branch-is w _ op o refl s) (branch-fits w)) (option_cases (branch_op (funct3 w)))
  encodable (at_load o) = ⊎_elim (λ n. absurd (legal (load-none w _ o refl n))) (λ (op, s). at _ (load-is w _ op o refl s) imm-fits) (option_cases (load_op (funct3 w)))
  encodable (at_store o) = ⊎_elim (λ n. absurd (legal (store-none w _ o refl n))) (λ (op, s). at _ (store-is w _ op o refl s) store-fits) (option_cases (store_op (funct3 w)))
  encodable (at_op_imm o) = within (op_imm_of w) (op_imm-is w o) (op_imm-encodable w)
  encodable (at_op_imm_w o) = within (op_imm_w_of w) (op_imm_w-is w o) (op_imm_w-encodable w)
  encodable (at_op o) = ⊎_elim (λ n. absurd (legal (op-none w _ _ o refl refl n))) (λ (op, s). at _ (op-is w _ _ op o refl refl s) tt) (option_cases (reg_op (funct7 w) (funct3 w)))
  encodable (at_op_w o) = ⊎_elim (λ n. absurd (legal (op_w-none w _ _ o refl refl n))) (λ (op, s). at _ (op_w-is w _ _ op o refl refl s) tt) (option_cases (reg_w_op (funct7 w) (funct3 w)))
  encodable (at_fence o) = ⊎_elim (λ f. at _ (fence-is w o f) (pw, o, f)) (λ n. absurd (legal (fence-none w o n))) (test (funct3 w) 0)
  encodable (at_system o) = within (system_of w) (system-is w o) (system-encodable w)
  encodable (at_gate o) = within (gate_of w) (gate-is w o) (gate-encodable w)
  encodable (at_none n1 n2 n3 n4 n5 n6 n7 n8 n9 n10 n11 n12 n13 n14) = absurd (legal (none-is w n1 n2 n3 n4 n5 n6 n7 n8 n9 n10 n11 n12 n13 n14))

pub decoded_is_encodable : DecodedIsEncodable
decoded_is_encodable w pw legal = encodable w pw legal (major_of w)

-- ---- registers
gate-registers : (w : ℕ) → HasRegisters (gate_of w)
gate-registers w = grind (arith, nat_tests)

op_imm-registers : (w : ℕ) → HasRegisters (op_imm_of w)
op_imm-registers w = grind (arith, nat_tests)

op_imm_w-registers : (w : ℕ) → HasRegisters (op_imm_w_of w)
op_imm_w-registers w = grind (arith, nat_tests)

system-registers : (w : ℕ) → HasRegisters (system_of w)
system-registers w = grind (arith, nat_tests)

module _ (w : ℕ) where
  has : (i : Instr) → instr_of w ≡ i → HasRegisters i → HasRegisters (instr_of w)
  has i e p = subst HasRegisters (sym e) p

  rd-below : rd w < 32
  rd-below = omega arith

  rs1-below : rs1 w < 32
  rs1-below = omega arith

  rs2-below : rs2 w < 32
  rs2-below = omega arith

  registers : Major w → HasRegisters (instr_of w)
  registers (at_lui o) = has _ (lui-is w o) rd-below
  registers (at_auipc o) = has _ (auipc-is w o) rd-below
  registers (at_jal o) = has _ (jal-is w o) rd-below
  registers (at_jalr o) = ⊎_elim (λ f. has _ (jalr-is w o f) (rd-below, rs1-below)) (λ n. has _ (jalr-none w o n) tt) (test (funct3 w) 0)
  registers (at_branch o) = ⊎_elim (λ n. has _ (branch-none w _ o refl n) tt) (λ (op, s). has _ (branch-is w _ op o refl s) (rs1-below, rs2-below)) (option_cases (branch_op (funct3 w)))
  registers (at_load o) = ⊎_elim (λ n. has _ (load-none w _ o refl n) tt) (λ (op, s). has _ (load-is w _ op o refl s) (rd-below, rs1-below)) (option_cases (load_op (funct3 w)))
  registers (at_store o) = ⊎_elim (λ n. has _ (store-none w _ o refl n) tt) (λ (op, s). has _ (store-is w _ op o refl s) (rs1-below, rs2-below)) (option_cases (store_op (funct3 w)))
  registers (at_op_imm o) = has _ (op_imm-is w o) (op_imm-registers w)
  registers (at_op_imm_w o) = has _ (op_imm_w-is w o) (op_imm_w-registers w)
  registers (at_op o) = ⊎_elim (λ n. has _ (op-none w _ _ o refl refl n) tt) (λ (op, s). has _ (op-is w _ _ op o refl refl s) (rd-below, rs1-below, rs2-below)) (option_cases (reg_op (funct7 w) (funct3 w)))
  registers (at_op_w o) = ⊎_elim (λ n. has _ (op_w-none w _ _ o refl refl n) tt) (λ (op, s). has _ (op_w-is w _ _ op o refl refl s) (rd-below, rs1-below, rs2-below)) (option_cases (reg_w_op (funct7 w) (funct3 w)))
  registers (at_fence o) = ⊎_elim (λ f. has _ (fence-is w o f) tt) (λ n. has _ (fence-none w o n) tt) (test (funct3 w) 0)
  registers (at_system o) = has _ (system-is w o) (system-registers w)
  registers (at_gate o) = has _ (gate-is w o) (gate-registers w)
  registers (at_none n1 n2 n3 n4 n5 n6 n7 n8 n9 n10 n11 n12 n13 n14) = has _ (none-is w n1 n2 n3 n4 n5 n6 n7 n8 n9 n10 n11 n12 n13 n14) tt

pub decoded_has_registers : DecodedHasRegisters
decoded_has_registers w = registers w (major_of w)
