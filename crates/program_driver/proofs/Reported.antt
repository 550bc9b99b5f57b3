-- A run with its report.
use Rattle.std.proofs.Common.{◌≡◌, ℕ, Bool, true, false, [], ◌∷◌, refl, sym, subst}
use Rattle.std.specs.Prelude.{Result, Ok}
use Rattle.trace_text.specs.Report.{report_of}
use Rattle.run_model.specs.Run.{World, Run}
use Rattle.run_model.specs.Moves.{run}
use Rattle.run_model.specs.Patterns.{Pattern}
use Rattle.world_io.specs.Outside.{SinkState}
use Rattle.plain_runner.specs.Runs.{Outside}
use Rattle.plain_runner.specs.declared.ending.Ending.{Ending}
use Rattle.runner.specs.Shows.{Shows}
use Rattle.runner.specs.declared.runner.Runner.{Runner}
use Rattle.run_promises.specs.Schedules.{MovesTo}
use Rattle.program_driver.specs.Lines.{LinesTo, ending_with}
use Rattle.program_driver.specs.Runs.{Drives, RunsTo, counts_of, is_reported, report_lines}
use Rattle.program_driver.specs.declared.lines.LineFault.{LineFault}

module _ (pattern : Pattern) (turns : ℕ) (asked : Bool) (reached : Ending) (old new : Runner) (before after : Outside) (drives : Drives (MovesTo pattern turns reached) old new before after) where
  -- there is no report
  pub silent-Drives : is_reported asked reached ≡ false → Drives (RunsTo pattern turns asked reached) old new before after
  silent-Drives silent =
      record {
        moves = drives.moves;
        said = drives.said;
        told = drives.told;
        went = λ w acc shows holds. (
            let h = drives.went w acc shows holds in (
              record {
                reached = reached;
                between = after.err;
                answer = Ok tt;
                moves = h.0;
                reports = subst (λ b. LinesTo (report_lines b (run w drives.moves)) (Ok tt) after.err after.err) (sym silent) refl;
                ends = refl;
              },
              h.1,
            ));
      }

  -- it was put, or some of it
  pub reported-Drives : (answer : Result (Unit {0}) LineFault) (err : SinkState) → is_reported asked reached ≡ true
      → ((w : World) (r : Run) → Shows new w r → LinesTo (report_of (counts_of r) ∷ []) answer after.err err)
      → Drives (RunsTo pattern turns asked (ending_with reached answer)) old new before (record after { err = err })
  reported-Drives answer err told lines =
      record {
        moves = drives.moves;
        said = drives.said;
        told = drives.told;
        went = λ w acc shows holds. (
            let h = drives.went w acc shows holds in (
              record {
                reached = reached;
                between = after.err;
                answer = answer;
                moves = h.0;
                reports = subst (λ b. LinesTo (report_lines b (run w drives.moves)) answer after.err err) (sym told) (lines w (run w drives.moves) h.1);
                ends = refl;
              },
              h.1,
            ));
      }
