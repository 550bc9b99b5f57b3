-- Each word of JUMP leads to its next row, to the target's block, or to a park.
use Rattle.std.proofs.Common.{◌≡◌, ℕ, ◌+◌, ◌-◌, ◌*◌, Bool, true, false, not, ◌==◌, List, refl, ap, arith, nat_le, bit_and, cond}
use Rattle.std.proofs.lemmas.Bool.Decides.{nat_tests}
use Rattle.spec_base.specs.Word.{wrap}
use Rattle.spec_base.specs.declared.layout.Layout.{Layout}
use Rattle.spec_base.specs.declared.park.Park.{Park}
use Rattle.rv_decode.specs.declared.instr.Instr.{Instr}
use Rattle.rv_model.specs.Memory.{Memory}
use Rattle.rv_model.specs.Arithmetic.{minus}
use Rattle.rv_model.specs.Effect.{even}
use Rattle.code_model.specs.Places.{block_at}
use Rattle.side_model.specs.Hart.{Regs, Priv}
use Rattle.code_model.specs.Tables.{Tabs, TableOk}
use Rattle.side_model.specs.Places.{Place, InBlock, InHelper, Away, Faulting, code, HasBlock}
use Rattle.side_model.specs.Words.{Goes, exec_some}
use Rattle.side_model.specs.Rows.{Led, on, leaps, arrives, parks}
use Rattle.side_model.specs.JumpRows.{goal, may, JumpRow, j1, j2, j3, j4, j5, j6, j7, j8, j9, j10, j11, j12, j13, j14, j15, j16, lands, faults, JumpArrives, JumpFaults, JumpFits, JumpLeads}
use Rattle.side_model.proofs.Numbers.{hi_lo, TextFits, text-fits, and-even, not-whole, is-inside, is-outside, IsInText, target-inside}

-- a branch: where it is taken, and where it isn't
pub forks : {l : Layout} {program : Memory} {base : ℕ} {Row : Place → Regs → Priv → Tabs → Memory → ℕ → Type 0} {Arrives : ℕ → Regs → Tabs → Memory → Type 0} {Why : Park → Tabs → Memory → Type 0}
    {n target : ℕ} {onto : Place} {rs : Regs} {p : Priv} {t : Tabs} {m : Memory} (b : Bool)
    → (b ≡ true → Led l program base Row Arrives Why n (Goes (record { place = Away target; regs = rs; priv = p; tabs = t }) m))
    → (b ≡ false → Led l program base Row Arrives Why n (Goes (record { place = onto; regs = rs; priv = p; tabs = t }) m))
    → Led l program base Row Arrives Why n (Goes (record { place = cond b (Away target) onto; regs = rs; priv = p; tabs = t }) m)
forks true f g = f refl
forks false f g = g refl

module _ (l : Layout) (at : ℕ) (q : Regs) (base : ℕ) (words : List Instr) (program : Memory) (fits : JumpFits l at q base words) where
  abbrev leads : ℕ → Place → Regs → Priv → Tabs → Memory → Type 0
  leads n place rs p t m =
      Led l program base (λ place rs p t m k. JumpRow l at q place rs p t k) (JumpArrives l at q) (JumpFaults l at q) n
      (exec_some base (code l words place) (record { place = place; regs = rs; priv = p; tabs = t }) m)

  text : TextFits l
  text = text-fits l fits.lawful

  -- the block's address fits
  block-fits : may l at q ≡ true → wrap (16 * (goal l at q - l.text_start) + 0x4000_0000) ≡ block_at l (goal l at q)
  block-fits e = let i : IsInText l (goal l at q) = target-inside l (goal l at q) e in omega (arith, i.above, i.below, text.few)

  -- the distance from the text's start
  distance : may l at q ≡ true → minus (goal l at q) l.text_start ≡ goal l at q - l.text_start
  distance e = let i : IsInText l (goal l at q) = target-inside l (goal l at q) e in omega (arith, i.above, i.below, text.below)

  -- each word
  pub jump-words : {n : ℕ} {place : Place} {rs : Regs} {p : Priv} {t : Tabs} (m : Memory) → TableOk l t → JumpRow l at q place rs p t n → leads n place rs p t m
  jump-words m ok (j1 p) = on (j2 p) ok refl refl
  jump-words m ok (j2 p) = on (j3 p) ok refl refl
  jump-words m ok (j3 p) = rw (and-even at fits.small) (on (j4 p) ok refl refl)
  jump-words m ok (j4 p) = on (j5 p) ok refl refl
  jump-words m ok (j5 p) =
      forks (not (bit_and (goal l at q) 2 == 0))
      (λ e. leaps (InHelper Faulting 0) refl (on (faults _ (not-whole l at (turned e))) ok refl refl))
      (λ e. on (j6 p (turned_back e)) ok refl refl)
    where
      turned : {b : Bool} → not b ≡ true → b ≡ false
      turned e = grind (arith, nat_tests)

      turned_back : {b : Bool} → not b ≡ false → b ≡ true
      turned_back e = grind (arith, nat_tests)
  jump-words m ok (j6 p e) = on (j7 p e) ok refl refl
  jump-words m ok (j7 p e) = rw (hi_lo l.text_start (omega (arith, text.some, text.below))) (on (j8 p e) ok refl refl)
  jump-words m ok (j8 p e) = on (j9 p e) ok refl refl
  jump-words m ok (j9 p e) = on (j10 p e) ok refl refl
  jump-words m ok (j10 p e) = rw (hi_lo (l.text_end - l.text_start) (omega (arith, text.few))) (on (j11 p e) ok refl refl)
  jump-words m ok (j11 p e) =
      forks (nat_le (l.text_end - l.text_start) (minus (goal l at q) l.text_start))
      (λ f. leaps (InHelper Faulting 0) refl (on (faults _ (is-outside l at text fits.small f)) ok refl refl))
      (λ f. let h : may l at q ≡ true = is-inside l at text fits.small e f in rw (distance h) (on (j12 p h) ok refl refl))
  jump-words m ok (j12 p h) =
      let i : IsInText l (goal l at q) = target-inside l (goal l at q) h in
      let e : wrap ((goal l at q - l.text_start) * 16) ≡ 16 * (goal l at q - l.text_start) = omega (arith, i.below, text.below) in rw e (on (j13 p h) ok refl refl)
  jump-words m ok (j13 p h) = on (j14 p h) ok refl refl
  jump-words m ok (j14 p h) = rw (block-fits h) (on (j15 p h) ok refl refl)
  jump-words m ok (j15 p h) = on (j16 p h) ok refl refl
  jump-words m ok (j16 p h) = leaps (InBlock 0) (even-block h) (on (lands p h) ok refl refl)
    where
      even-block : may l at q ≡ true → even (wrap (block_at l (goal l at q) + 0)) ≡ base + 4 * 0
      even-block h = let i : IsInText l (goal l at q) = target-inside l (goal l at q) h in omega (arith, fits.place h, i.above, i.below, text.few)
  jump-words m ok (lands p h) = rw (fits.pad h) (arrives (goal l at q) (ap (λ b. b + 4 * 1) (fits.place h)) (block h) (record { target = refl; inside = h; registers = refl }) ok)
    where
      block : may l at q ≡ true → HasBlock l (goal l at q)
      block h = let i : IsInText l (goal l at q) = target-inside l (goal l at q) h in record { above = i.above; below = omega (arith, i.below); whole = omega (arith, i.whole, text.start) }
  jump-words m ok (faults p h) = parks (record { fault = refl; trap = h }) ok

-- so does each word of JUMP
pub jump_leads : JumpLeads
jump_leads l at q base words program fits n place rs p t m ok row = jump-words l at q base words program fits m ok row
