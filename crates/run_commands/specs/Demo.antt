-- What the command `demo` does: it runs a program of its own and tells how that went (this project's own).
use Rattle.std.specs.Prelude.{◌≡◌, ℕ, ◌+◌, Bool, true, false, List, [], ◌∷◌, ◌++◌, length, drop, codes, decimal, Some, None, Ok}
use Rattle.spec_base.specs.Files.{Files}
use Rattle.world_io.specs.Outside.{no_files, with_file, untold_sink, Endless}
use Rattle.world_io.specs.Buffers.{told_of_buf}
use Rattle.trace_text.specs.Report.{report_of}
use Rattle.trace_text.specs.declared.reporting.Counts.{Counts}
use Rattle.sample_images.specs.Demos.{demo_image, data_bytes}
use Rattle.run_model.specs.Run.{World}
use Rattle.run_model.specs.Moves.{Moves, run}
use Rattle.plain_runner.specs.Runs.{Outside}
use Rattle.plain_runner.specs.declared.ending.Ending.{Ending}
use Rattle.plain_runner.specs.declared.ending.Ending.TheVariants as ending
use Rattle.run_promises.specs.Schedules.{MovesTo}
use Rattle.file_runs.specs.Runs.{run_world}
use Rattle.program_driver.specs.Runs.{counts_of}
use Rattle.command_words.specs.declared.request.Request.{Request}
use Rattle.command_status.specs.Common.{Untouched, PutsLine}
use Rattle.run_commands.specs.Run.{asked_file}
use Rattle.command_status.specs.declared.status.Status.{Status}
use Rattle.command_status.specs.declared.status.Status.TheVariants.{Done, SinkFault, NoMemory}

-- ---- what is run

-- the file that the program reads: 40 blocks
abbrev pub demo_files : Files
demo_files = with_file no_files (codes "data") (data_bytes 0 163_840)

-- the rewritten program over that file, under the name `demo`
abbrev pub demo_world : List ℕ → World
demo_world file = run_world file (codes "demo" ∷ []) demo_files

-- a store with that file alone, a buffer for what the program puts on standard output, and a standard error that keeps nothing
abbrev pub demo_outside : Outside
demo_outside = record {
  store = record { files = Some demo_files; numbers = None; faults = 0 };
  out = told_of_buf (record { bytes = []; left = 4096; faults = 0 });
  err = untold_sink Endless 0;
}

-- ---- its line

-- the report behind its first word, `spechint: `
abbrev pub report_words : Counts → List ℕ
report_words counts = drop 10 (report_of counts)

-- the number of counting instructions, the words of the text, the bytes of the rewritten file, the bytes that the program put on standard output, and the report
abbrev pub demo_line : ℕ → ℕ → ℕ → Counts → List ℕ
demo_line n rewritten written counts =
    codes "demo " ++ decimal n
    ++ codes " words " ++ decimal (31 + n)
    ++ codes " rewritten " ++ decimal rewritten
    ++ codes " written " ++ decimal written
    ++ codes " " ++ report_words counts

-- a run came to an end by itself, or to the end of its turns
abbrev pub has_ended : Ending → Bool
has_ended (ending.Exited code) = true
has_ended (ending.Trapped cause pc) = true
has_ended (ending.TurnsOver count) = true
has_ended ending.StoreFault = false
has_ended ending.SinkFault = false
has_ended ending.NoMemory = false

-- this is the line of the program's run: the moves of the pattern were made, as `run` makes them
pub record IsDemoLine (r : Request) (line : List ℕ) : Type 0 where
  pub file : List ℕ
  pub opens : asked_file r (demo_image r.number) ≡ Ok file
  pub reached : Ending
  pub ended : has_ended reached ≡ true
  pub moves : Moves
  pub after : Outside
  pub went : MovesTo r.options.pattern r.options.turns reached (demo_world file) moves demo_outside after
  pub put : List ℕ
  pub puts : after.out.bytes ≡ Some put
  pub told : line ≡ demo_line r.number (length file) (length put) (counts_of (run (demo_world file) moves))

-- ---- the command

-- the line was put on standard output, whole or up to a put that failed
abbrev pub Demonstrates : Request → Bool → Outside → Outside → Type 0
Demonstrates r whole old new = (line : List ℕ) × IsDemoLine r line × PutsLine line whole old new × (new.store ≡ old.store)

-- what a status says of the command `demo`
abbrev pub DemoTo : Request → Status → Outside → Outside → Type 0
DemoTo r Done old new = Demonstrates r true old new
DemoTo r SinkFault old new = Demonstrates r false old new
DemoTo r NoMemory old new = Untouched old new
DemoTo r other old new = ⊥
