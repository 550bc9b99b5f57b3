-- Marks and uses along the run from a restart rest on the restart, and on the numbers of filled reads so far.
use Rattle.std.proofs.Common.{◌≡◌, ℕ, zero, suc, ◌<◌, ◌≤◌, Bool, true, false, not, ◌&&◌, ◌||◌, List, [], ◌∷◌, ◌++◌, Option, Some, refl, sym, ◌∙◌, ap, ap₂, arith, ◌==◌}
use Rattle.std.specs.Option.{option_and_then}
use Rattle.std.proofs.lemmas.Bool.Decides.{nat_tests}
use Rattle.std.proofs.lemmas.List.Folds.{list_any-append}
use Rattle.spec_base.specs.Listed.{is_listed}
use Rattle.program_model.specs.PlainRun.{State, state_after, all_taken}
use Rattle.run_model.specs.Run.{World, Run}
use Rattle.run_model.specs.Restarts.{from_restart, instr_at}
use Rattle.run_model.specs.Marks.{is_use, Marks, no_marks, marks_after, marks_after_some, marks_with, some_use, before_use_with}
use Rattle.use_marks.specs.Told.{IsTold, numbers_after}

-- ---- numbers

-- a number behind others
listed_append : (numbers : List ℕ) (k n : ℕ) → is_listed (numbers ++ k ∷ []) n ≡ (is_listed numbers n || (k == n))
listed_append numbers k n = list_any-append (λ (m : ℕ). m == n) numbers (k ∷ []) ∙ last (is_listed numbers n) (k == n)
  where
    last : (b c : Bool) → (b || (c || false)) ≡ (b || c)
    last true c = refl
    last false true = refl
    last false false = refl

pub listed_other : (numbers : List ℕ) (k n : ℕ) → (k == n) ≡ false → is_listed (numbers ++ k ∷ []) n ≡ is_listed numbers n
listed_other numbers k n e = listed_append numbers k n ∙ no_more (is_listed numbers n) (k == n) e
  where
    no_more : (a b : Bool) → b ≡ false → (a || b) ≡ a
    no_more true b e = refl
    no_more false b e = e

listed_last : (numbers : List ℕ) (k : ℕ) → is_listed (numbers ++ k ∷ []) k ≡ true
listed_last numbers k = listed_append numbers k k ∙ some (is_listed numbers k) (k == k) (grind (arith, nat_tests))
  where
    some : (a b : Bool) → b ≡ true → (a || b) ≡ true
    some true b e = refl
    some false b e = e

-- the numbers up to i stay, and i + 1 is listed where it was filled
pub after_earlier : (numbers : List ℕ) (i n : ℕ) (filled : Bool) → n ≤ i → is_listed (numbers_after numbers i filled) n ≡ is_listed numbers n
after_earlier numbers i n true h = listed_other numbers (suc i) n (grind (arith, nat_tests))
after_earlier numbers i n false h = refl

pub after_here : (numbers : List ℕ) (i : ℕ) (filled : Bool) → is_listed numbers (suc i) ≡ false → is_listed (numbers_after numbers i filled) (suc i) ≡ filled
after_here numbers i true h = listed_last numbers (suc i)
after_here numbers i false h = h

pub after_later : (numbers : List ℕ) (i n : ℕ) (filled : Bool) → suc i < n → is_listed numbers n ≡ false → is_listed (numbers_after numbers i filled) n ≡ false
after_later numbers i n true more h = listed_other numbers (suc i) n (grind (arith, nat_tests)) ∙ h
after_later numbers i n false more h = h

-- ---- on what marks and uses rest

module _ (w : World) (r y : Run) (e : y.since.origin ≡ r.since.origin) (numbers others : List ℕ) where
  state_same : (i : ℕ) → from_restart w y i ≡ from_restart w r i
  state_same i = ap (λ (o : Option State). option_and_then (λ s. state_after w.image w.files all_taken s i) o) e

  pub marks_same : (i : ℕ) → ((n : ℕ) → n ≤ i → is_listed others n ≡ is_listed numbers n) → marks_with others w y i ≡ marks_with numbers w r i
  unfolding marks_with
  marks_same zero same = refl
  marks_same (suc i) same =
      ap₂ (λ (filled : Bool) (o : Option State). marks_after_some w.image filled o (marks_with others w y i)) (same (suc i) (omega arith)) (state_same i)
      ∙ ap (marks_after_some w.image (is_listed numbers (suc i)) (from_restart w r i)) (marks_same i (λ n h. same n (omega arith)))

  pub uses_same : (i : ℕ) → ((n : ℕ) → n ≤ i → is_listed others n ≡ is_listed numbers n) → before_use_with others w y i ≡ before_use_with numbers w r i
  unfolding before_use_with
  uses_same zero same = refl
  uses_same (suc i) same =
      ap₂ (λ (b c : Bool). b && not c) (uses_same i (λ n h. same n (omega arith)))
      (ap₂ (λ (o : Option State) (m : Marks). some_use w.image o m) (state_same i) (marks_same i (λ n h. same n (omega arith))))

-- ---- what is told

-- nothing is marked at the restart
pub start_told : (w : World) (r : Run) → IsTold w r 0 [] no_marks true
unfolding marks_with before_use_with
start_told w r = record { up_to = λ n h. refl; marks = refl; uses = refl }

-- an instruction more, which was filled or not
pub next_told :
    (w : World) (r : Run) (i : ℕ) (numbers : List ℕ) (m : Marks) (unused filled : Bool) (s : State) → IsTold w r i numbers m unused → from_restart w r i ≡ Some s →
    IsTold w r (suc i) (numbers_after numbers i filled) (marks_after w.image.layout filled s (instr_at w.image s) m) (unused && not (is_use w.image.layout s (instr_at w.image s) m))
unfolding marks_with before_use_with
next_told w r i numbers m unused filled s told at =
    let here = after_here numbers i filled (told.up_to (suc i) (omega arith)) in
    let next : List ℕ = numbers_after numbers i filled in
    let before : marks_with next w r i ≡ m = marks_same w r r refl numbers next i (λ n h. after_earlier numbers i n filled h) ∙ sym told.marks in
    let unused_before : before_use_with next w r i ≡ unused = uses_same w r r refl numbers next i (λ n h. after_earlier numbers i n filled h) ∙ sym told.uses in
    record {
      up_to = λ n h. after_later numbers i n filled h (told.up_to n (omega arith));
      marks = sym (ap₂ (λ (b : Bool) (o : Option State). marks_after_some w.image b o (marks_with next w r i)) here at ∙ ap (marks_after w.image.layout filled s (instr_at w.image s)) before);
      uses = sym (ap₂ (λ (b c : Bool). b && not c) unused_before (ap₂ (λ (o : Option State) (k : Marks). some_use w.image o k) at before));
    }

-- what was told of a run holds of each later one with the same restart, whatever the shadow has filled since
pub told_kept :
    (w : World) (r y : Run) (i : ℕ) (numbers : List ℕ) (m : Marks) (unused : Bool) → y.since.origin ≡ r.since.origin → IsTold w r i numbers m unused → IsTold w y i numbers m unused
told_kept w r y i numbers m unused e told = record {
  up_to = told.up_to;
  marks = told.marks ∙ sym (marks_same w r y e numbers numbers i (λ n h. refl));
  uses = told.uses ∙ sym (uses_same w r y e numbers numbers i (λ n h. refl));
}

-- the next instruction is the first use exactly where no earlier one was a use and it is one by the marks before it
pub first_use_told :
    (w : World) (r : Run) (i : ℕ) (numbers : List ℕ) (m : Marks) (unused : Bool) (s : State) → IsTold w r i numbers m unused → from_restart w r i ≡ Some s →
    (before_use_with numbers w r i && not (before_use_with numbers w r (suc i))) ≡ (unused && is_use w.image.layout s (instr_at w.image s) m)
unfolding before_use_with
first_use_told w r i numbers m unused s told at =
    ap₂ (λ (b c : Bool). b && not (b && not c)) (sym told.uses) (ap₂ (λ (o : Option State) (k : Marks). some_use w.image o k) at (sym told.marks))
    ∙ both unused (is_use w.image.layout s (instr_at w.image s) m)
  where
    both : (b c : Bool) → (b && not (b && not c)) ≡ (b && c)
    both true true = refl
    both true false = refl
    both false c = refl
