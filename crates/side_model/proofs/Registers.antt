-- Reading and writing the registers that stand apart, and that they are the hart's.
use Rattle.std.proofs.Common.{◌≡◌, ℕ, zero, suc, Bool, true, false, ◌==◌, refl, ◌∙◌, ap, sym, subst, arith, cond}
use Rattle.std.proofs.lemmas.Bool.Decides.{nat_tests}
use Rattle.rv_model.specs.Registers.{Registers, reg, with_reg}
use Rattle.side_model.specs.Hart.{Regs, get, put, is_apart}
use Rattle.side_model.specs.Sees.{HasRegs}

-- ---- two writes, and a read behind a write

-- the later of two writes by a test
cond-twice : (b : Bool) (v w x : ℕ) → cond b v (cond b w x) ≡ cond b v x
cond-twice true v w x = refl
cond-twice false v w x = refl

-- the later of two writes among the other registers
low-twice : (b : Bool) (r v w k : ℕ) (f : ℕ → ℕ)
    → cond {A = ℕ → ℕ} b (cond {A = ℕ → ℕ} b f (λ k. cond (k == r) w (f k))) (λ k. cond (k == r) v (cond {A = ℕ → ℕ} b f (λ k. cond (k == r) w (f k)) k)) k
    ≡ cond {A = ℕ → ℕ} b f (λ k. cond (k == r) v (f k)) k
low-twice true r v w k f = refl
low-twice false r v w k f = cond-twice (k == r) v w (f k)

-- the later of two writes to a register
pub put_put : (r v w : ℕ) (q : Regs) → put r v (put r w q) ≡ put r v q
put_put r v w q =
    λ i. record {
      low = λ k. low-twice (is_apart r) r v w k q.low i;
      x28 = cond-twice (r == 28) v w q.x28 i;
      x29 = cond-twice (r == 29) v w q.x29 i;
      x30 = cond-twice (r == 30) v w q.x30 i;
      x31 = cond-twice (r == 31) v w q.x31 i;
    }

-- what is written to x0 makes no difference
pub put_zero : (r v w : ℕ) (q : Regs) → (r == 0) ≡ true → put r v q ≡ put r w q
put_zero r v w q h =
    let k : r ≡ 0 = grind (arith, nat_tests) in
    subst (λ (x : ℕ). put x v q ≡ put x w q) (sym k) refl

-- what another register reads as, or the same, by the tests of the four that stand apart
get-put : (k r v : ℕ) (q : Regs) → get k (put r v q) ≡ cond (k == 0) 0 (cond (k == r) v (get k q))
get-put k r v q = by_tests (k == 0) refl (k == 28) refl (k == 29) refl (k == 30) refl (k == 31) refl (is_apart r) refl
  where
    named : (n : ℕ) (x : ℕ) → k ≡ n → cond (n == r) v x ≡ cond (k == r) v x
    named n x e = ap (λ (j : ℕ). cond (j == r) v x) (sym e)

    turned : (n x : ℕ) → k ≡ n → cond (r == n) v x ≡ cond (k == r) v x
    turned n x e = grind (arith, nat_tests)

    apart : is_apart r ≡ true → (k == 0) ≡ false → (k == 28) ≡ false → (k == 29) ≡ false → (k == 30) ≡ false → (k == 31) ≡ false → (k == r) ≡ false
    apart a b c d e f = grind (arith, nat_tests)

    by_tests : (a : Bool) → (k == 0) ≡ a → (b : Bool) → (k == 28) ≡ b → (c : Bool) → (k == 29) ≡ c → (d : Bool) → (k == 30) ≡ d → (e : Bool) → (k == 31) ≡ e
        → (f : Bool) → is_apart r ≡ f → get k (put r v q) ≡ cond (k == 0) 0 (cond (k == r) v (get k q))
    by_tests true ha b hb c hc d hd e he f hf = rw ha refl
    by_tests false ha true hb c hc d hd e he f hf = rw (ha, hb) (turned 28 q.x28 (grind (arith, nat_tests)))
    by_tests false ha false hb true hc d hd e he f hf = rw (ha, hb, hc) (turned 29 q.x29 (grind (arith, nat_tests)))
    by_tests false ha false hb false hc true hd e he f hf = rw (ha, hb, hc, hd) (turned 30 q.x30 (grind (arith, nat_tests)))
    by_tests false ha false hb false hc false hd true he f hf = rw (ha, hb, hc, hd, he) (turned 31 q.x31 (grind (arith, nat_tests)))
    by_tests false ha false hb false hc false hd false he true hf = let n : (k == r) ≡ false = apart hf ha hb hc hd he in rw (ha, hb, hc, hd, he, hf, n) refl
    by_tests false ha false hb false hc false hd false he false hf = rw (ha, hb, hc, hd, he, hf) refl

-- a register other than x0 holds what was written
pub get_put : (r v : ℕ) (q : Regs) → (r == 0) ≡ false → get r (put r v q) ≡ v
get_put r v q h = let same : (r == r) ≡ true = grind (arith, nat_tests) in get-put r r v q ∙ rw (h, same) refl

-- ---- the hart's registers

-- what a register of the hart reads as behind a write
reg-with_reg : (rs : Registers) (k r v : ℕ) → reg (with_reg rs r v) k ≡ cond (k == 0) 0 (cond (k == r) v (reg rs k))
reg-with_reg rs zero zero v = refl
reg-with_reg rs zero (suc r) v = refl
reg-with_reg rs (suc k) zero v = let z : (suc k == 0) ≡ false = grind (arith, nat_tests) in rw z refl
reg-with_reg rs (suc k) (suc r) v = let z : (suc k == 0) ≡ false = grind (arith, nat_tests) in rw z (by_test (suc k == suc r))
  where
    by_test : (b : Bool) → elim b [ true ↦ v | false ↦ rs (suc k) ] ≡ cond b v (rs (suc k))
    by_test true = refl
    by_test false = refl

-- a write to the hart's is a write to these
pub HasRegs-put : (rs : Registers) (q : Regs) (r v : ℕ) → HasRegs rs q → HasRegs (with_reg rs r v) (put r v q)
HasRegs-put rs q r v h =
    record { at = λ n. reg-with_reg rs n r v ∙ (ap (λ (x : ℕ). cond (n == 0) 0 (cond (n == r) v x)) (h.at n) ∙ sym (get-put n r v q)) }

-- the registers of a hart, as they stand apart
abbrev pub regs_of : Registers → Regs
regs_of rs = record { low = rs; x28 = rs 28; x29 = rs 29; x30 = rs 30; x31 = rs 31 }

-- they are its own
pub HasRegs-of : (rs : Registers) → HasRegs rs (regs_of rs)
HasRegs-of rs = record { at = λ n. at n (n == 0) refl (n == 28) refl (n == 29) refl (n == 30) refl (n == 31) refl }
  where
    is : (n m : ℕ) → (n == m) ≡ true → rs n ≡ rs m
    is n m e = let k : n ≡ m = grind (arith, nat_tests) in ap rs k

    above : (n : ℕ) → (n == 0) ≡ false → reg rs n ≡ rs n
    above zero e = absurd (no e)
      where
        no : true ≡ false → ⊥
        no e = cc
    above (suc n) e = refl

    at : (n : ℕ) (a : Bool) → (n == 0) ≡ a → (b : Bool) → (n == 28) ≡ b → (c : Bool) → (n == 29) ≡ c → (d : Bool) → (n == 30) ≡ d → (e : Bool) → (n == 31) ≡ e → reg rs n ≡ get n (regs_of rs)
    at n true ha b hb c hc d hd e he = let z : n ≡ 0 = grind (arith, nat_tests) in rw ha (ap (reg rs) z)
    at n false ha true hb c hc d hd e he = rw (ha, hb) (above n ha ∙ is n 28 hb)
    at n false ha false hb true hc d hd e he = rw (ha, hb, hc) (above n ha ∙ is n 29 hc)
    at n false ha false hb false hc true hd e he = rw (ha, hb, hc, hd) (above n ha ∙ is n 30 hd)
    at n false ha false hb false hc false hd true he = rw (ha, hb, hc, hd, he) (above n ha ∙ is n 31 he)
    at n false ha false hb false hc false hd false he = rw (ha, hb, hc, hd, he) (above n ha)
