-- Settled bytes: those that a store or a filled read has written since the restart; on what they, marks and unfilled bytes rest, and which changes they cover (this project's own).
use Rattle.spec_base.specs.Listed.{is_listed}
use Rattle.std.specs.Prelude.{ℕ, zero, suc, ◌≡◌, ◌≤◌, ◌<◌, ◌⊎◌, Bool, true, false, ◌&&◌, ◌||◌, List, Some, IsTrue}
use Rattle.rv_model.specs.Memory.{is_within}
use Rattle.program_model.specs.PlainRun.{State}
use Rattle.spec_base.specs.declared.note.Move.TheVariants.{O}
use Rattle.run_model.specs.Run.{World, Run, Answer}
use Rattle.run_model.specs.Moves.{Moves, step, run}
use Rattle.run_laws.specs.OwnLaws.{Accepted}
use Rattle.run_model.specs.Restarts.{Action, Loads, Stores, Reads, TakesName, Other, from_restart, action, reads, unfilled_with, before_horizon}
use Rattle.run_model.specs.Marks.{marks_with, before_use_with}

-- whether an instruction changes a byte: one that it stores, or one that it reads into
abbrev pub changes : Action → ℕ → Bool
changes (Stores a width) x = is_within a width x
changes (Reads spot a) x = is_within a spot.count x
changes (Loads a width) x = false
changes (TakesName a n) x = false
changes Other x = false

-- a store settles its bytes, and a read settles its bytes where it was filled
abbrev pub settles : Action → Bool → ℕ → Bool
settles (Stores a width) filled x = is_within a width x
settles (Reads spot a) filled x = is_within a spot.count x && filled
settles (Loads a width) filled x = false
settles (TakesName a n) filled x = false
settles Other filled x = false

-- whether one of the first i instructions of the run from the restart settled a byte, where the reads of these numbers were filled in the copies
unfoldable pub settled_with : List ℕ → World → Run → ℕ → ℕ → Bool
settled_with numbers w r zero x = false
settled_with numbers w r (suc i) x = settled_with numbers w r i x || settles (action w r (suc i)) (is_listed numbers (suc i)) x

-- ---- on what these sets rest

-- two runs that restarted from one state, with numbers of reads that are the same up to i
pub record Alike (i : ℕ) (r y : Run) (numbers others : List ℕ) : Type 0 where
  pub origin : y.since.origin ≡ r.since.origin
  pub listed : (n : ℕ) → n ≤ i → is_listed others n ≡ is_listed numbers n

-- after i instructions the marks, the unfilled and the settled bytes are the same, and so is whether one of the first i is a use, or of the first i + 1
pub record SameSets (w : World) (i : ℕ) (r y : Run) (numbers others : List ℕ) : Type 0 where
  pub marks : marks_with others w y i ≡ marks_with numbers w r i
  pub unfilled : unfilled_with others w y i ≡ unfilled_with numbers w r i
  pub settled : (x : ℕ) → settled_with others w y i x ≡ settled_with numbers w r i x
  pub before_use : before_use_with others w y i ≡ before_use_with numbers w r i
  pub before_use_next : before_use_with others w y (suc i) ≡ before_use_with numbers w r (suc i)

-- they rest on the restart and on the numbers up to i alone
abbrev pub SetsRestOnNumbers : Type 0
SetsRestOnNumbers = (w : World) (i : ℕ) (r y : Run) (numbers others : List ℕ) → Alike i r y numbers others → SameSets w i r y numbers others

-- and so does the horizon on the reads that were filled
abbrev pub HorizonRestsOnFilled : Type 0
HorizonRestsOnFilled =
    (w : World) (i : ℕ) (r y : Run) → Alike i r y r.since.filled y.since.filled →
    (before_horizon w y i ≡ before_horizon w r i) × (before_horizon w y (suc i) ≡ before_horizon w r (suc i))

-- the states of the run from the restart, what its instructions do, and its reads are the same
pub record SameFromRestart (w : World) (r y : Run) : Type 0 where
  pub state : (i : ℕ) → from_restart w y i ≡ from_restart w r i
  pub action : (i : ℕ) → action w y i ≡ action w r i
  pub reads : (i : ℕ) → reads w y i ≡ reads w r i

-- it rests on the state before the restarting read alone
abbrev pub RestartRestsOnOrigin : Type 0
RestartRestsOnOrigin = (w : World) (r y : Run) → y.since.origin ≡ r.since.origin → SameFromRestart w r y

-- ---- what the instructions change

-- an instruction leaves each byte that it doesn't change
abbrev pub OthersAreLeft : Type 0
OthersAreLeft =
    (w : World) (r : Run) (j x : ℕ) (q next : State) → from_restart w r j ≡ Some q → from_restart w r (suc j) ≡ Some next →
    changes (action w r (suc j)) x ≡ false → next.memory x ≡ q.memory x

-- a byte is marked after i instructions, or one of them settled it
abbrev pub IsCovered : List ℕ → World → Run → ℕ → ℕ → Type 0
IsCovered numbers w r i x = ((marks_with numbers w r i).bytes x ≡ true) ⊎ (settled_with numbers w r i x ≡ true)

-- so is each byte that one of them changed
abbrev pub ChangesAreCovered : Type 0
ChangesAreCovered =
    (w : World) (r : Run) (numbers : List ℕ) (i j x : ℕ) → j < i → changes (action w r (suc j)) x ≡ true → IsCovered numbers w r i x

-- an own move that makes no restart, up to which puts were whole, and by which at most i instructions are completed since the restart: it leaves each byte that isn't covered
abbrev pub OwnChangesAreCovered : Type 0
OwnChangesAreCovered =
    (w : World) → Accepted w → (ms : Moves) (answer : Answer) (numbers : List ℕ) (i : ℕ) → let r = run w ms in let next = step w r (O, answer) in
    0 < r.restarts → next.restarts ≡ r.restarts → IsTrue next.since.whole → next.since.own ≤ i → (x : ℕ) →
    (next.own.memory x ≡ r.own.memory x) ⊎ IsCovered numbers w r i x
