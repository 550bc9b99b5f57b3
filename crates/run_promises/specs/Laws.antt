-- The laws that carry what holds of runs to what is promised of a command (this project's own).
use Rattle.std.specs.Prelude.{◌≡◌, ℕ, Bool, true, false, List, ◌∷◌, Option, Some, None}
use Rattle.run_model.specs.Run.{World, Run, RunEnd, Exits, Traps, StoreFailed, SinkFailed}
use Rattle.run_model.specs.Moves.{Moves, run}
use Rattle.run_model.specs.Patterns.{Pattern}
use Rattle.run_laws.specs.OwnLaws.{Accepted}
use Rattle.world_io.specs.Outside.{Endless}
use Rattle.world_io.specs.Logs.{Piece, offers_of}
use Rattle.plain_runner.specs.Runs.{Outside, output_of}
use Rattle.plain_runner.specs.declared.ending.Ending.{Ending}
use Rattle.move_requests.specs.Offers.{store_calls, offers}
use Rattle.run_promises.specs.Schedules.{AreMade, MovesTo}
use Rattle.run_promises.specs.Promises.{Keeps, IsAsPlain, GetsOn, Finishes}

-- ---- at each moment

abbrev pub RunsKeep : Type 0
RunsKeep = (w : World) → Accepted w → (ms : Moves) → Keeps w ms

-- ---- puts

-- the puts that failed in a run that ended so, or goes on
abbrev pub FaultsAt : Option RunEnd → Option (List ℕ) → Option (List ℕ) → Type 0
FaultsAt (Some SinkFailed) (Some bytes) None = Unit {0}
FaultsAt (Some SinkFailed) None (Some bytes) = Unit {0}
FaultsAt (Some SinkFailed) None None = ⊥
FaultsAt (Some SinkFailed) (Some bytes) (Some others) = ⊥
FaultsAt end out err = (out ≡ None) × (err ≡ None)

-- the puts of a run took these pieces, which are what the program has put; a put that failed is the last, and ended the run
pub record HasPut (w : World) (ms : Moves) : Type 0 where
  pub outs : List Piece
  pub errs : List Piece
  pub out_fault : Option (List ℕ)
  pub err_fault : Option (List ℕ)
  pub out : offers true w ms ≡ offers_of outs out_fault
  pub err : offers false w ms ≡ offers_of errs err_fault
  pub out_is : (run w ms).own.out ≡ output_of outs
  pub err_is : (run w ms).own.err ≡ output_of errs
  pub faults : FaultsAt (run w ms).end out_fault err_fault

abbrev pub PutsAreOutputs : Type 0
PutsAreOutputs = (w : World) (pattern : Pattern) (turns : ℕ) (ms : Moves) → Accepted w → AreMade w pattern turns ms → HasPut w ms

-- ---- calls on the store

-- a call on the store that ended the run failed, and is the last
abbrev pub StoreFaultIsLast : Type 0
StoreFaultIsLast =
    (w : World) (pattern : Pattern) (turns : ℕ) (ms : Moves) → AreMade w pattern turns ms → (run w ms).end ≡ Some StoreFailed →
    (before : List Bool) × (store_calls w ms ≡ true ∷ before)

-- ---- whole runs over the outside

-- the program does as by itself
abbrev pub MovesAreAsPlain : Type 0
MovesAreAsPlain =
    (pattern : Pattern) (turns : ℕ) (ending : Ending) (w : World) (ms : Moves) (old new : Outside) → Accepted w → MovesTo pattern turns ending w ms old new →
    IsAsPlain w.image w.files ending old new

-- and gets on
abbrev pub MovesGetOn : Type 0
MovesGetOn =
    (pattern : Pattern) (turns : ℕ) (ending : Ending) (w : World) (ms : Moves) (old new : Outside) → Accepted w → MovesTo pattern turns ending w ms old new →
    GetsOn pattern turns ending

-- and comes to the program's end, where sinks take all
abbrev pub MovesFinish : Type 0
MovesFinish =
    (pattern : Pattern) (turns : ℕ) (ending : Ending) (w : World) (ms : Moves) (old new : Outside) → Accepted w → MovesTo pattern turns ending w ms old new →
    old.out.room ≡ Endless → old.err.room ≡ Endless → Finishes w.image w.files pattern turns ending
