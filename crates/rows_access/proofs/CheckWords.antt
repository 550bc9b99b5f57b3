-- Each word of a helper that checks an address leads to its next row, to the tail, or to a park.
use Rattle.std.proofs.Common.{◌≡◌, ℕ, ◌+◌, ◌-◌, ◌*◌, ◌<◌, ◌≤◌, Bool, true, false, not, ◌==◌, List, refl, ◌∙◌, ap, sym, subst, arith, nat_lt, nat_le, le-leb, pos, negsuc, slice_get}
use Rattle.std.proofs.lemmas.Bool.Decides.{nat_tests}
use Rattle.spec_base.specs.Word.{plus_int}
use Rattle.spec_base.specs.Layout.{helpers_start, range_start, range_end}
use Rattle.spec_base.specs.declared.layout.Version.{Version}
use Rattle.spec_base.specs.declared.layout.Version.TheVariants.{One, Two}
use Rattle.spec_base.specs.declared.layout.Layout.{Layout}
use Rattle.spec_base.specs.declared.park.Park.{Park}
use Rattle.spec_base.specs.declared.park.Park.TheVariants as park
use Rattle.rv_decode.specs.declared.instr.Instr.{Instr}
use Rattle.rv_model.specs.Memory.{Memory}
use Rattle.code_model.specs.Assembly.{diff}
use Rattle.code_model.specs.Places.{STORE8, FAULT}
use Rattle.code_model.specs.Helpers.{access_helper}
use Rattle.side_model.specs.Hart.{Regs, Priv}
use Rattle.code_model.specs.Tables.{Tabs, TableOk}
use Rattle.side_model.specs.Places.{Width, W1, W2, W4, W8, width_of, Helper, Faulting, offset_of, helper_words, reaching, Place, InHelper, code}
use Rattle.side_model.specs.Words.{exec_some}
use Rattle.side_model.specs.Rows.{Led, on, leaps, parks}
use Rattle.side_model.specs.JumpRows.{high_part, with_30_31}
use Rattle.side_model.proofs.Numbers.{hi_lo, TextFits}
use Rattle.side_model.proofs.JumpWords.{forks}
use Rattle.rows_access.specs.Accesses.{may_access, saved}
use Rattle.rows_access.specs.CheckRows.{odd, CheckRow, c1, c2, c3, c4, c5, c6, c7, c8, c9, c10, c11, c12, c13, c14, c15, c16, faults}
use Rattle.rows_access.proofs.Reach.{no-whole, no-low, no-high, no-text, may-low, may-high}

-- ---- numbers

-- a jump forward
pub ahead : (from to : ℕ) → from ≤ to → to ≤ FAULT → plus_int (helpers_start + from) (diff to from) ≡ helpers_start + to + 4 * 0
ahead from to h k = ap (plus_int (helpers_start + from)) (up (le-leb from to h)) ∙ far
  where
    up : nat_le from to ≡ true → diff to from ≡ pos (to - from)
    up e = ap (λ b. elim b [ true ↦ pos (to - from) | false ↦ negsuc (from - to - 1) ]) e

    far : plus_int (helpers_start + from) (pos (to - from)) ≡ helpers_start + to + 4 * 0
    far = omega arith

-- lui makes the end of the range
range_high : (v : Version) → high_part (range_end v) ≡ range_end v
range_high One = refl
range_high Two = refl

-- the reach of an access is below the largest number that two words make
reaching-small : (l : Layout) (w : Width) → TextFits l → reaching l w < 0x7FFF_F800
reaching-small l W1 f = omega (arith, f.some, f.below)
reaching-small l W2 f = omega (arith, f.some, f.below)
reaching-small l W4 f = omega (arith, f.some, f.below)
reaching-small l W8 f = omega (arith, f.some, f.below)

pub turned : {b : Bool} → not b ≡ true → b ≡ false
turned e = grind (arith, nat_tests)

pub turned_back : {b : Bool} → not b ≡ false → b ≡ true
turned_back e = grind (arith, nat_tests)

-- a helper h has the words that check an access and go on at the tail
pub record Checks (l : Layout) (w : Width) (h tail : Helper) : Type 0 where
  pub words : helper_words l h ≡ access_helper l (width_of w) (reaching l w) (offset_of h) (offset_of tail)
  pub before : offset_of h ≤ STORE8
  pub behind : STORE8 + 60 ≤ offset_of tail
  pub near : offset_of tail ≤ FAULT

module _ (l : Layout) (w : Width) (h tail : Helper) (at back : ℕ) (q : Regs) (base : ℕ) (block : List Instr) (program : Memory) (text : TextFits l) (is : Checks l w h tail)
    (Row : Place → Regs → Priv → Tabs → Memory → ℕ → Type 0) (Arrives : ℕ → Regs → Tabs → Memory → Type 0) (Why : Park → Tabs → Memory → Type 0)
    (Known : Tabs → Memory → Type 0) (row : (place : Place) (rs : Regs) (p : Priv) (t : Tabs) (m : Memory) (n : ℕ) → CheckRow l h w at back q place rs p t n → Known t m → Row place rs p t m n)
    (rest : ℕ) (fewer : nat_lt rest 207 ≡ true)
    (goes : (u : ℕ) (p : Priv) (t : Tabs) (m : Memory) → may_access l w at ≡ true → Known t m → Row (InHelper tail 0) (with_30_31 q u at) (saved at back q p) t m rest)
    (why : (t : Tabs) (m : Memory) → may_access l w at ≡ false → Known t m → Why park.Fault t m) where
  abbrev led : ℕ → Place → Regs → Priv → Tabs → Memory → List Instr → ℕ → Type 0
  led n place rs p t m words k = Led l program base Row Arrives Why n (exec_some base (slice_get words k) (record { place = place; regs = rs; priv = p; tabs = t }) m)

  abbrev leads : ℕ → Place → Regs → Priv → Tabs → Memory → Type 0
  leads n place rs p t m = Led l program base Row Arrives Why n (exec_some base (code l block place) (record { place = place; regs = rs; priv = p; tabs = t }) m)

  -- word k of the helper
  by : (k n : ℕ) (rs : Regs) (p : Priv) (t : Tabs) (m : Memory) → led n (InHelper h k) rs p t m (access_helper l (width_of w) (reaching l w) (offset_of h) (offset_of tail)) k
      → leads n (InHelper h k) rs p t m
  by k n rs p t m d = subst (λ words. led n (InHelper h k) rs p t m words k) (sym is.words) d

  -- a branch to FAULT from word k
  to_fault : (k : ℕ) → k ≤ 60 → plus_int (helpers_start + offset_of h + k) (diff FAULT (offset_of h + k)) ≡ helpers_start + FAULT + 4 * 0
  to_fault k s = subst (λ (a : ℕ). plus_int a (diff FAULT (offset_of h + k)) ≡ helpers_start + FAULT + 4 * 0) (omega arith) (ahead (offset_of h + k) FAULT (omega (arith, is.before)) (omega arith))

  -- the jump to the tail
  to_tail : plus_int (helpers_start + offset_of h + 60) (diff (offset_of tail) (offset_of h + 60)) ≡ helpers_start + offset_of tail + 4 * 0
  to_tail = subst (λ (a : ℕ). plus_int a (diff (offset_of tail) (offset_of h + 60)) ≡ helpers_start + offset_of tail + 4 * 0) (omega arith) (ahead (offset_of h + 60) (offset_of tail) (omega (arith, is.before, is.behind)) is.near)

  -- the branch over the test of the text's end
  over : plus_int (helpers_start + offset_of h + 44) (pos 16) ≡ helpers_start + offset_of h + 60
  over = omega (arith, is.before)

  -- each word
  pub check-words : {n : ℕ} {place : Place} {rs : Regs} {p : Priv} {t : Tabs} (m : Memory) → TableOk l t → Known t m → CheckRow l h w at back q place rs p t n → leads n place rs p t m
  check-words m ok v (c1 p) = by 0 _ _ _ _ _ (on (row _ _ _ _ _ _ (c2 p) v) ok refl refl)
  check-words m ok v (c2 p) = by 1 _ _ _ _ _ (on (row _ _ _ _ _ _ (c3 p) v) ok refl refl)
  check-words m ok v (c3 p) = by 2 _ _ _ _ _ (on (row _ _ _ _ _ _ (c4 p) v) ok refl refl)
  check-words m ok v (c4 p) = by 3 _ _ _ _ _ (on (row _ _ _ _ _ _ (c5 p) v) ok refl refl)
  check-words m ok v (c5 p) =
      by 4 _ _ _ _ _
      (forks (not (odd l h w at back q == 0))
      (λ e. leaps (InHelper Faulting 0) (to_fault 16 (omega arith)) (on (row _ _ _ _ _ _ (faults _ (no-whole l text w at (turned e))) v) ok refl refl))
      (λ e. on (row _ _ _ _ _ _ (c6 p (turned_back e)) v) ok refl refl))
  check-words m ok v (c6 p a) = by 5 _ _ _ _ _ (on (row _ _ _ _ _ _ (c7 p a) v) ok refl refl)
  check-words m ok v (c7 p a) =
      by 6 _ _ _ _ _
      (forks (nat_lt at range_start)
      (λ e. leaps (InHelper Faulting 0) (to_fault 24 (omega arith)) (on (row _ _ _ _ _ _ (faults _ (no-low l text w at e)) v) ok refl refl))
      (λ e. on (row _ _ _ _ _ _ (c8 p a e) v) ok refl refl))
  check-words m ok v (c8 p a b) = by 7 _ _ _ _ _ (rw (range_high l.version) (on (row _ _ _ _ _ _ (c9 p a b) v) ok refl refl))
  check-words m ok v (c9 p a b) =
      by 8 _ _ _ _ _
      (forks (nat_le (range_end l.version) at)
      (λ e. leaps (InHelper Faulting 0) (to_fault 32 (omega arith)) (on (row _ _ _ _ _ _ (faults _ (no-high l text w at e)) v) ok refl refl))
      (λ e. on (row _ _ _ _ _ _ (c10 p (record { whole = a; above = b; below = e })) v) ok refl refl))
  check-words m ok v (c10 p f) = by 9 _ _ _ _ _ (on (row _ _ _ _ _ _ (c11 p f) v) ok refl refl)
  check-words m ok v (c11 p f) = by 10 _ _ _ _ _ (rw (hi_lo (reaching l w) (reaching-small l w text)) (on (row _ _ _ _ _ _ (c12 p f) v) ok refl refl))
  check-words m ok v (c12 p f) =
      by 11 _ _ _ _ _
      (forks (nat_lt at (reaching l w))
      (λ e. leaps (InHelper h 15) over (on (row _ _ _ _ _ _ (c16 p (may-low l text w at f.whole f.above f.below e)) v) ok refl refl))
      (λ e. on (row _ _ _ _ _ _ (c13 p f e) v) ok refl refl))
  check-words m ok v (c13 p f a) = by 12 _ _ _ _ _ (on (row _ _ _ _ _ _ (c14 p f a) v) ok refl refl)
  check-words m ok v (c14 p f a) = by 13 _ _ _ _ _ (rw (hi_lo l.text_end (omega (arith, text.below))) (on (row _ _ _ _ _ _ (c15 p f a) v) ok refl refl))
  check-words m ok v (c15 p f a) =
      by 14 _ _ _ _ _
      (forks (nat_lt at l.text_end)
      (λ e. leaps (InHelper Faulting 0) (to_fault 56 (omega arith)) (on (row _ _ _ _ _ _ (faults _ (no-text l text w at a e)) v) ok refl refl))
      (λ e. on (row _ _ _ _ _ _ (c16 p (may-high l text w at f.whole f.above f.below e)) v) ok refl refl))
  check-words m ok v (c16 p f) = by 15 _ _ _ _ _ (leaps (InHelper tail 0) to_tail (on (goes _ p _ _ f v) ok fewer refl))
  check-words m ok v (faults p f) = parks (why _ _ f v) ok
