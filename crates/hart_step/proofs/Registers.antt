-- Registers kept in a list.
use Rattle.std.proofs.Common.{◌≡◌, ℕ, zero, suc, ◌<◌, List, length, set, get_or, slice_index, arith, inl, inr, refl, sym, ◌∙◌}
use Rattle.std.proofs.lemmas.List.{get_or-set_same, get_or-set_other, length-set, get_or-replicate, get_or_past, length-replicate}
use Rattle.std.proofs.lemmas.Bool.{cases_eq, cases_lt}
use Rattle.std.proofs.lemmas.Bool.Decides.{nat_tests}
use Rattle.std.proofs.Math.Path.{fun_ext}
use Rattle.std.proofs.Math.ListN.{replicate}
use Rattle.rv_model.specs.Registers.{all_zero, reg, with_reg}
use Rattle.hart_step.specs.Core.{registers_of}

-- x0 reads as 0, as the list has it
pub reg_of : (rs : List ℕ) (n : ℕ) → slice_index rs 0 ≡ 0 → slice_index rs n ≡ reg (registers_of rs) n
unfolding registers_of
reg_of rs zero h = h
reg_of rs (suc n) h = refl

-- a register is written, and then x0 is 0 again
pub registers_reset : (rs : List ℕ) (n v : ℕ) → slice_index rs 0 ≡ 0 → n < length rs → registers_of (set (set rs n v) 0 0) ≡ with_reg (registers_of rs) n v
unfolding registers_of
registers_reset rs zero v z l = fun_ext (λ k.
    elim (cases_eq k 0) [
      | inl p ↦ (let s : get_or (set (set rs 0 v) 0 0) k 0 ≡ 0 = rw p (get_or-set_same (set rs 0 v) 0 0 0 (rw (length-set rs 0 v) l)) in let r : get_or rs k 0 ≡ 0 = rw p z in s ∙ sym r)
      | inr p ↦ get_or-set_other (set rs 0 v) 0 k 0 0 p ∙ get_or-set_other rs 0 k v 0 p
    ])
registers_reset rs (suc n) v z l = fun_ext (λ k.
    elim (cases_eq k 0) [
      | inl p ↦ (let s : get_or (set (set rs (suc n) v) 0 0) k 0 ≡ 0 = rw p (get_or-set_same (set rs (suc n) v) 0 0 0 (rw (length-set rs (suc n) v) (omega arith))) in let r : get_or rs k 0 ≡ 0 = rw p z in grind (arith, nat_tests))
      | inr p ↦ (let o : get_or (set (set rs (suc n) v) 0 0) k 0 ≡ get_or (set rs (suc n) v) k 0 = get_or-set_other (set rs (suc n) v) 0 k 0 0 p in
          elim (cases_eq k (suc n)) [
            | inl q ↦ (let s : get_or (set rs (suc n) v) k 0 ≡ v = rw q (get_or-set_same rs (suc n) v 0 l) in grind (arith, nat_tests))
            | inr q ↦ (let s : get_or (set rs (suc n) v) k 0 ≡ get_or rs k 0 = get_or-set_other rs (suc n) k v 0 q in grind (arith, nat_tests))
          ])
    ])

zero_anywhere : (n k : ℕ) → get_or (replicate {A = ℕ} n 0) k 0 ≡ 0
zero_anywhere n k = elim (cases_lt k n) [
  | inl p ↦ get_or-replicate n k 0 0 p
  | inr p ↦ get_or_past (replicate {A = ℕ} n 0) k 0 (rw length-replicate p)
]

-- all are 0
pub registers_zero : (n : ℕ) → registers_of (replicate {A = ℕ} n 0) ≡ all_zero
unfolding registers_of
registers_zero n = fun_ext (λ k. grind (arith, nat_tests, zero_anywhere n k))
