-- The size that an open file's descriptor has is the size of the file, in every run: so a planned read finds all its bytes (this project's own).
use Rattle.std.specs.Prelude.{ℕ, ◌≡◌, Bool, Some}
use Rattle.spec_base.specs.Files.{Name, Files}
use Rattle.spec_base.specs.declared.layout.Layout.{Layout}
use Rattle.rv_model.specs.Memory.{Memory}
use Rattle.program_model.specs.Descriptors.{Descriptors, File, slot}
use Rattle.program_model.specs.Calls.{call_plan}
use Rattle.program_model.specs.PlainRun.{State, Image, Taken, size_in, plan_of, performed, next_state, state_after}
use Rattle.run_model.specs.Run.{World, Run}
use Rattle.run_model.specs.Moves.{Moves, run}
use Rattle.run_model.specs.Restarts.{from_restart}
use Rattle.run_laws.specs.OwnLaws.{Accepted}
use Rattle.mark_laws.specs.Agreement.{assumed_answer, HasAll}

-- each descriptor of a file has that file's size
pub record TrueSizes (files : Files) (f : Descriptors) : Type 0 where
  pub at : (d : ℕ) (name : Name) (size offset : ℕ) → slot f d ≡ File name size offset → size_in files name ≡ Some size

-- ---- plans

-- with such descriptors a read that a call plans finds all its bytes, whatever the memory and the registers are
abbrev pub PlansFindAll : Type 0
PlansFindAll =
    (files : Files) (f : Descriptors) → TrueSizes files f → (data_at : ℕ → Bool) (m : Memory) (number x10 x11 x12 : ℕ) → HasAll files (call_plan data_at m f number x10 x11 x12)

-- so does the read that a state's call plans
abbrev pub StatesFindAll : Type 0
StatesFindAll = (files : Files) (l : Layout) (s : State) → TrueSizes files s.files → HasAll files (plan_of l s)

-- ---- what keeps the sizes

-- the descriptors behind a planned call, an exit's being those before it
abbrev pub CallsKeepSizes : Type 0
CallsKeepSizes =
    (files : Files) (f : Descriptors) → TrueSizes files f → (data_at : ℕ → Bool) (m : Memory) (number x10 x11 x12 : ℕ)
    → TrueSizes files (assumed_answer files f (call_plan data_at m f number x10 x11 x12)).0

-- a call that is performed, whatever its put takes
abbrev pub PerformedKeepSizes : Type 0
PerformedKeepSizes = (files : Files) (l : Layout) (taken : ℕ) (s : State) → TrueSizes files s.files → TrueSizes files (performed files taken (plan_of l s) s).files

-- an instruction that completes
abbrev pub NextKeepsSizes : Type 0
NextKeepsSizes = (p : Image) (files : Files) (t : Taken) (s next : State) → TrueSizes files s.files → next_state p files t s ≡ Some next → TrueSizes files next.files

-- any number of instructions that complete
abbrev pub StatesKeepSizes : Type 0
StatesKeepSizes =
    (p : Image) (files : Files) (t : Taken) (start s : State) (n : ℕ) → TrueSizes files start.files → state_after p files t start n ≡ Some s → TrueSizes files s.files

-- ---- runs

-- the sizes of a run's own descriptors are true, now, at its last gate, where it was last restarted, and in each state of the run from there
pub record RunHasTrueSizes (w : World) (r : Run) : Type 0 where
  pub own : TrueSizes w.files r.own.files
  pub at_gate : TrueSizes w.files r.at_gate.files
  pub origin : (q : State) → r.since.origin ≡ Some q → TrueSizes w.files q.files
  pub restarted : (i : ℕ) (q : State) → from_restart w r i ≡ Some q → TrueSizes w.files q.files

-- they are in every run of a rewritten program
abbrev pub SizesAreTrue : Type 0
SizesAreTrue = (w : World) → Accepted w → (ms : Moves) → RunHasTrueSizes w (run w ms)
