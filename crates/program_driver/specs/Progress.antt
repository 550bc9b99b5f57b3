-- How far a runner has come with the moves of a pattern (this project's own).
use Rattle.std.specs.Prelude.{◌≡◌, ◌⊎◌, ◌<◌, ℕ, ◌-◌, Bool, false, List, ◌++◌, map, replicate, Option, Some, None}
use Rattle.spec_base.specs.Files.{Files}
use Rattle.spec_base.specs.declared.note.Move.{Move}
use Rattle.spec_base.specs.declared.note.Move.TheVariants.{O, S, T, D}
use Rattle.run_model.specs.Run.{World, Run, Usual, opened_run}
use Rattle.run_model.specs.Moves.{Moves, run, run_from}
use Rattle.run_model.specs.Patterns.{Pattern, pattern_moves}
use Rattle.run_laws.specs.OwnLaws.{Accepted}
use Rattle.world_io.specs.Outside.{SinkState, StoreState}
use Rattle.plain_runner.specs.Runs.{Outside}
use Rattle.plain_runner.specs.declared.ending.Ending.{Ending}
use Rattle.move_requests.specs.Hears.{AreHeard}
use Rattle.run_promises.specs.Schedules.{GoesOn, MovesTo}
use Rattle.runner_parts.specs.Heard.{Said, AreTrueOf}
use Rattle.runner.specs.Shows.{Shows}
use Rattle.runner.specs.Stretches.{StopsOwn, StopsShadow}
use Rattle.runner.specs.declared.runner.Runner.{Runner}
use Rattle.program_driver.specs.Lines.{ArePut}
use Rattle.program_driver.specs.Runs.{Drives}
use Rattle.program_driver.specs.declared.uses.UseTrace.{UseTrace}
use Rattle.program_driver.specs.Uses.{HasUses}
use Rattle.program_driver.specs.Traces.{TracesTo, trace_lines, over_bottomless, with_err}

-- ---- a run

-- these moves were made in a world, and the run goes on
pub record HasMade (w : World) (ms : Moves) (now : Runner) (before here : Outside) : Type 0 where
  pub made : GoesOn w (opened_run w) ms
  pub goes : (run w ms).end ≡ None
  pub shows : Shows now w (run w ms)
  pub heard : AreHeard w ms before here

-- of the moves of a pattern these are still to come, and the others were made, over any files of which what the store said is true
pub record Progress (pattern : Pattern) (turns : ℕ) (left : List Move) (old now : Runner) (before here : Outside) : Type 0 where
  pub ms : Moves
  pub schedule : map (λ m. m.0) ms ++ left ≡ pattern_moves pattern turns
  pub said : List Said
  pub told : (files : Files) → before.store.files ≡ Some files → AreTrueOf files said
  pub files : here.store.files ≡ before.store.files
  pub went : (w : World) → Accepted w → Shows old w (opened_run w) → AreTrueOf w.files said → HasMade w ms now before here

-- the run goes on so, or has come to this ending
abbrev pub ProgressTo : Pattern → ℕ → List Move → Runner → Option Ending → Runner → Outside → Outside → Type 0
ProgressTo pattern turns left old None new before after = Progress pattern turns left old new before after
ProgressTo pattern turns left old (Some ending) new before after = Drives (MovesTo pattern turns ending) old new before after

-- a move is made so many times, whatever moves were made before it and whatever come behind it
abbrev pub MakesStretch : Move → ℕ → Option Ending → Runner → Runner → Outside → Outside → Type 0
MakesStretch m count ending now new here after =
    (pattern : Pattern) (turns : ℕ) (left : List Move) (old : Runner) (before : Outside) → Progress pattern turns (replicate count m ++ left) old now before here
    → ProgressTo pattern turns left old ending new before after

-- of the moves that come next some were made, whatever moves were made before them, and nothing was asked: these are left
abbrev pub MakesFront : List Move → List Move → Runner → Runner → Outside → Type 0
MakesFront coming left now new here = (pattern : Pattern) (turns : ℕ) (old : Runner) (before : Outside) → Progress pattern turns coming old now before here → Progress pattern turns left old new before here

-- of so many equal moves that come next these many were made, and nothing was asked
abbrev pub MakesSome : Move → ℕ → ℕ → Runner → Runner → Type 0
MakesSome m most made now new = (here : Outside) (left : List Move) → MakesFront (replicate most m ++ left) (replicate (most - made) m ++ left) now new here

-- no further one of these moves is made at once: it does nothing but count, or there is no further word of its hart. A finish of a fetch never is
abbrev pub StopsAt : Move → Runner → World → Run → Type 0
StopsAt O new w r = StopsOwn new w r
StopsAt S new w r = StopsShadow w r
StopsAt T new w r = (r.stalled ≡ false) ⊎ StopsShadow w r
StopsAt D new w r = Unit {0}

-- fewer than so many equal moves were made only where no further one is made at once
abbrev pub StopsOnly : Move → ℕ → ℕ → Runner → Runner → Type 0
StopsOnly m most made now new = made < most → (w : World) (r : Run) → Accepted w → Shows now w r → StopsAt m new w (run_from w r (replicate made (m, Usual)))

-- ---- a trace

-- the same of a trace, whose lines were put, with uses or without. What is kept to tell them is kept so far
pub record TraceProgress (uses : Bool) (pattern : Pattern) (turns : ℕ) (left : List Move) (kept : UseTrace) (old now : Runner) (store : StoreState) (out : SinkState) (store_now : StoreState) (out_now : SinkState) : Type 0 where
  pub drives : Progress pattern turns left old now (over_bottomless store) (over_bottomless store_now)
  pub puts : (w : World) → Accepted w → Shows old w (opened_run w) → AreTrueOf w.files drives.said → ArePut out (trace_lines uses w drives.ms) out_now
  pub asked : kept.on ≡ uses
  pub keeps : (w : World) → Accepted w → Shows old w (opened_run w) → AreTrueOf w.files drives.said → HasUses w drives.ms kept

abbrev pub TraceProgressTo : Bool → Pattern → ℕ → List Move → Option Ending → UseTrace → Runner → Runner → StoreState → SinkState → StoreState → SinkState → Type 0
TraceProgressTo uses pattern turns left None kept old new store out store_after out_after = TraceProgress uses pattern turns left kept old new store out store_after out_after
TraceProgressTo uses pattern turns left (Some ending) kept old new store out store_after out_after =
    (err : SinkState) → Drives (TracesTo uses pattern turns ending) old new (with_err err store out) (with_err err store_after out_after)

abbrev pub TracesStretch : Move → ℕ → Option Ending → UseTrace → UseTrace → Runner → Runner → StoreState → SinkState → StoreState → SinkState → Type 0
TracesStretch m count ending kept later now new here out_here after out_after =
    (uses : Bool) (pattern : Pattern) (turns : ℕ) (left : List Move) (old : Runner) (store : StoreState) (out : SinkState)
    → TraceProgress uses pattern turns (replicate count m ++ left) kept old now store out here out_here → TraceProgressTo uses pattern turns left ending later old new store out after out_after
