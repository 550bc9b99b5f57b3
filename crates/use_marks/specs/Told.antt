-- What passing the instructions of the run from a restart one by one tells: the marks, and the first use, by the reads that were filled when each was passed (this project's own).
use Rattle.std.specs.Prelude.{◌≡◌, ℕ, suc, ◌<◌, Bool, true, false, List, [], ◌∷◌, ◌++◌}
use Rattle.spec_base.specs.Listed.{is_listed}
use Rattle.run_model.specs.Run.{World, Run}
use Rattle.run_model.specs.Marks.{Marks, marks_with, before_use_with}

-- the numbers of filled reads after one more instruction
abbrev pub numbers_after : List ℕ → ℕ → Bool → List ℕ
numbers_after numbers i true = numbers ++ suc i ∷ []
numbers_after numbers i false = numbers

-- after i instructions these are the marks, and these reads among them were filled when they were passed; `unused` is whether none of them was a use
pub record IsTold (w : World) (r : Run) (i : ℕ) (numbers : List ℕ) (m : Marks) (unused : Bool) : Type 0 where
  pub up_to : (n : ℕ) → i < n → is_listed numbers n ≡ false
  pub marks : m ≡ marks_with numbers w r i
  pub uses : unused ≡ before_use_with numbers w r i
