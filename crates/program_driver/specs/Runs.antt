-- What driving a runner does: the moves of a pattern over a store and two sinks, and the line of a report (this project's own).
use Rattle.std.specs.Prelude.{◌≡◌, ℕ, Bool, true, false, List, [], ◌∷◌, Some, Result}
use Rattle.spec_base.specs.Files.{Files}
use Rattle.trace_text.specs.Report.{report_of}
use Rattle.trace_text.specs.declared.reporting.Counts.{Counts}
use Rattle.run_model.specs.Run.{World, Run, opened_run}
use Rattle.run_model.specs.Moves.{Moves, run}
use Rattle.run_model.specs.Patterns.{Pattern}
use Rattle.run_laws.specs.OwnLaws.{Accepted}
use Rattle.world_io.specs.Outside.{SinkState}
use Rattle.plain_runner.specs.Runs.{Outside}
use Rattle.plain_runner.specs.declared.ending.Ending.{Ending}
use Rattle.plain_runner.specs.declared.ending.Ending.TheVariants.{Exited, Trapped, TurnsOver, StoreFault, SinkFault, NoMemory}
use Rattle.runner_parts.specs.Heard.{Said, AreTrueOf}
use Rattle.runner.specs.Shows.{Shows}
use Rattle.runner.specs.declared.runner.Runner.{Runner}
use Rattle.run_promises.specs.Schedules.{MovesTo}
use Rattle.program_driver.specs.Lines.{Line, LinesTo, ending_with}
use Rattle.program_driver.specs.declared.lines.LineFault.{LineFault}

-- ---- moves of a runner, whatever world it shows

-- what moves of a world come to
abbrev pub Going : Type 1
Going = World → Moves → Outside → Outside → Type 0

-- a runner that shows the run of an opened program makes moves: of an accepted program over any files of which what the store said is true. Those that the store tells are among them
pub record Drives (go : Going) (old new : Runner) (before after : Outside) : Type 0 where
  pub moves : Moves
  pub said : List Said
  pub told : (files : Files) → before.store.files ≡ Some files → AreTrueOf files said
  pub went : (w : World) → Accepted w → Shows old w (opened_run w) → AreTrueOf w.files said → go w moves before after × Shows new w (run w moves)

-- ---- the report

-- the counts of a run
abbrev pub counts_of : Run → Counts
counts_of r =
    record {
      instructions = r.own_done;
      stalls = r.stalls;
      restarts = r.restarts;
      matched = r.matched;
      hints = r.hints;
      regions = r.regions_most;
      shadow = r.since.shadow;
      state = r.shadow.state;
    }

-- whether an ending is reported where that is asked for: an exit, a trap, or the end of the turns
abbrev pub is_reported : Bool → Ending → Bool
is_reported false ending = false
is_reported true (Exited code) = true
is_reported true (Trapped cause pc) = true
is_reported true (TurnsOver count) = true
is_reported true StoreFault = false
is_reported true SinkFault = false
is_reported true NoMemory = false

-- the line of the report
abbrev pub report_lines : Bool → Run → List Line
report_lines true r = report_of (counts_of r) ∷ []
report_lines false r = []

-- the moves were made and came to some ending, and on standard error the report followed
pub record RunsTo (pattern : Pattern) (turns : ℕ) (report : Bool) (ending : Ending) (w : World) (ms : Moves) (old new : Outside) : Type 0 where
  pub reached : Ending
  pub between : SinkState
  pub answer : Result (Unit {0}) LineFault
  pub moves : MovesTo pattern turns reached w ms old (record new { err = between })
  pub reports : LinesTo (report_lines (is_reported report reached) (run w ms)) answer between new.err
  pub ends : ending ≡ ending_with reached answer
