-- One move of a runner, with how it ends the run if it does (this project's own).
use Rattle.std.specs.Prelude.{◌≡◌, ◌⊎◌, Bool, true, false, List, Option, Some, None}
use Rattle.spec_base.specs.Files.{Files}
use Rattle.spec_base.specs.declared.note.Move.{Move}
use Rattle.run_model.specs.Run.{World, Run, RunEnd, Exits, Traps, StoreFailed, SinkFailed, Answer}
use Rattle.run_model.specs.Moves.{Moves, step, run}
use Rattle.run_laws.specs.OwnLaws.{Accepted}
use Rattle.plain_runner.specs.Runs.{Outside}
use Rattle.plain_runner.specs.declared.ending.Ending.{Ending}
use Rattle.plain_runner.specs.declared.ending.Ending.TheVariants.{Exited, Trapped, TurnsOver, StoreFault, SinkFault, NoMemory}
use Rattle.move_requests.specs.Hears.{Hears}
use Rattle.runner_parts.specs.Heard.{Said, AreTrueOf}
use Rattle.runner_parts.specs.declared.turn.End.{End}
use Rattle.runner_parts.specs.declared.turn.End.TheVariants as end
use Rattle.runner_parts.specs.declared.turn.Turn.{Turn}
use Rattle.runner_parts.specs.declared.turn.Turn.TheVariants as turn
use Rattle.runner.specs.Shows.{Shows}
use Rattle.runner.specs.declared.runner.Runner.{Runner}

-- ---- endings

-- the ending of a run that has ended
abbrev pub ending_of : RunEnd → Ending
ending_of (Exits code) = Exited code
ending_of (Traps cause pc) = Trapped cause pc
ending_of StoreFailed = StoreFault
ending_of SinkFailed = SinkFault

-- the same by the runner's own word
abbrev pub ending_in : End → Ending
ending_in (end.Exit code) = Exited code
ending_in (end.Trap cause pc) = Trapped cause pc
ending_in end.Store = StoreFault
ending_in end.Sink = SinkFault

-- the ending that a turn makes, if it does
abbrev pub ending_after : Turn → Option Ending
ending_after turn.Went = None
ending_after turn.Idle = None
ending_after (turn.Ended end) = Some (ending_in end)
ending_after turn.StoreFault = Some StoreFault
ending_after turn.SinkFault = Some SinkFault
ending_after turn.NoMemory = Some NoMemory

-- whether there was no memory for a move
abbrev pub is_starved : Option Ending → Bool
is_starved None = false
is_starved (Some NoMemory) = true
is_starved (Some (Exited code)) = false
is_starved (Some (Trapped cause pc)) = false
is_starved (Some (TurnsOver count)) = false
is_starved (Some StoreFault) = false
is_starved (Some SinkFault) = false

-- a run goes on, or has so ended
abbrev pub HasEnding : Run → Option Ending → Type 0
HasEnding r None = r.end ≡ None
HasEnding r (Some ending) = (e : RunEnd) × (r.end ≡ Some e) × (ending ≡ ending_of e)

-- ---- one move

-- there was no memory for the move: nothing was asked, and the runner shows what it showed
pub record Starves (ending : Option Ending) (old new : Runner) (before after : Outside) : Type 0 where
  pub starved : is_starved ending ≡ true
  pub shows : (w : World) (r : Run) → Shows old w r → Shows new w r
  pub untouched : after ≡ before

-- a move of a run, answered so, leads to the run that the runner then shows, which goes on or has so ended
pub record Leads (m : Move) (x : Answer) (ending : Option Ending) (new : Runner) (w : World) (r : Run) (before after : Outside) : Type 0 where
  pub hears : Hears w r m x before after
  pub shows : Shows new w (step w r (m, x))
  pub ends : HasEnding (step w r (m, x)) ending

-- the move was made: in each run that the runner showed and that goes on, of an accepted program over any files of which what the store said is true. Those that the store tells are among them
pub record Goes (m : Move) (ending : Option Ending) (old new : Runner) (before after : Outside) : Type 0 where
  pub answer : Answer
  pub said : List Said
  pub told : (files : Files) → before.store.files ≡ Some files → AreTrueOf files said
  pub leads :
      (w : World) (ms : Moves) → Accepted w → Shows old w (run w ms) → AreTrueOf w.files said → (run w ms).end ≡ None
      → Leads m answer ending new w (run w ms) before after

-- one of these
abbrev pub Advances : Move → Option Ending → Runner → Runner → Outside → Outside → Type 0
Advances m ending old new before after = Starves ending old new before after ⊎ Goes m ending old new before after
