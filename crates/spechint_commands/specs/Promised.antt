-- What a user of `run` and `trace` may rely on: the program does as by itself, its shadow is bounded and its hints are true, and it gets on (this project's own).
use Rattle.std.specs.Prelude.{◌≡◌, ◌⊎◌, ℕ, List, Some, Ok, Result, IfSome}
use Rattle.spec_base.specs.Files.{Files}
use Rattle.world_io.specs.Outside.{StoreState, SinkState, Endless}
use Rattle.whole_file.specs.Reading.{ReadsWhole}
use Rattle.run_model.specs.Moves.{Moves, run}
use Rattle.plain_runner.specs.Runs.{Outside}
use Rattle.plain_runner.specs.declared.ending.Ending.{Ending}
use Rattle.run_promises.specs.Schedules.{AreMade}
use Rattle.run_promises.specs.Promises.{IsAsPlain, Keeps, GetsOn, Finishes}
use Rattle.file_world.specs.Worlds.{AreFiles}
use Rattle.file_runs.specs.Runs.{run_world, plain_program}
use Rattle.runner_parts.specs.Heard.{Said, AreTrueOf}
use Rattle.program_driver.specs.Lines.{LinesTo, ending_with}
use Rattle.program_driver.specs.Runs.{report_lines, is_reported}
use Rattle.program_driver.specs.Uses.{UsesAreFirst}
use Rattle.program_driver.specs.Traces.{TellsTo, over_bottomless}
use Rattle.program_driver.specs.declared.lines.LineFault.{LineFault}
use Rattle.command_words.specs.CommandLine.{command_of}
use Rattle.command_words.specs.declared.command.Command.{Command}
use Rattle.command_words.specs.declared.command.Command.TheVariants.{Run, Trace}
use Rattle.command_words.specs.declared.request.Request.{Request}
use Rattle.command_status.specs.Common.{EndingStatus, image_name}
use Rattle.run_commands.specs.Run.{asked_file}
use Rattle.command_status.specs.Texts.{Tells}
use Rattle.command_status.specs.declared.status.Status.{Status}
use Rattle.command_status.specs.declared.status.Status.TheVariants.{Done, Exited, Trapped, TurnsOver, Usage, Absent, Refused, BadLine, TooMany, StoreFault, SinkFault, NoMemory}

-- moves of a file's world, over these files, came to an end. Standard error has what the program put, behind it the report's line where it was asked for, and then the text of the status
pub record IsKept (r : Request) (bytes file : List ℕ) (moves : Moves) (files : Files) (status : Status) (old new : Outside) : Type 0 where
  pub reached : Ending
  pub behind : SinkState
  pub answer : Result (Unit {0}) LineFault
  pub between : SinkState
  pub made : AreMade (run_world file r.arguments files) r.options.pattern r.options.turns moves
  -- the program does as by itself: what it put, in the same puts, and how it ends
  pub as_plain : IsAsPlain (plain_program r.options.layout bytes r.arguments) files reached old (record new { err = behind })
  pub reports : LinesTo (report_lines (is_reported r.options.report reached) (run (run_world file r.arguments files) moves)) answer behind between
  pub tells : Tells status (image_name r) between new.err
  pub gives : EndingStatus (ending_with reached answer) status
  -- at each moment its shadow is bounded, and its hints are the next reads
  pub keeps : Keeps (run_world file r.arguments files) moves
  -- rounds of the pattern complete instructions, and where the sinks take all they lead to the program's end
  pub gets_on : GetsOn r.options.pattern r.options.turns reached
  pub finishes : old.out.room ≡ Endless → old.err.room ≡ Endless → Finishes (plain_program r.options.layout bytes r.arguments) files r.options.pattern r.options.turns reached

-- the same of a trace, in which each put of the program is taken whole. Standard output has the lines of what the moves tell, up to one that stopped, and standard error the text of the status alone
pub record IsTraceKept (r : Request) (bytes file : List ℕ) (moves : Moves) (files : Files) (status : Status) (old new : Outside) : Type 0 where
  pub reached : Ending
  pub ending : Ending
  pub made : AreMade (run_world file r.arguments files) r.options.pattern r.options.turns moves
  pub as_plain : IsAsPlain (plain_program r.options.layout bytes r.arguments) files reached (over_bottomless old.store) (over_bottomless new.store)
  pub lines : TellsTo r.options.uses (run_world file r.arguments files) moves reached ending old.out new.out
  -- with uses a line says the first use, which is the one that the hints rest on while the program isn't past its shadow
  pub uses : UsesAreFirst (run_world file r.arguments files) moves
  pub tells : Tells status (image_name r) old.err new.err
  pub gives : EndingStatus ending status
  pub keeps : Keeps (run_world file r.arguments files) moves
  pub gets_on : GetsOn r.options.pattern r.options.turns reached
  pub finishes : Finishes (plain_program r.options.layout bytes r.arguments) files r.options.pattern r.options.turns reached

-- what is promised of a file's bytes, the file that is executed, its moves, and files
abbrev pub Promise : Type 1
Promise = List ℕ → List ℕ → Moves → Files → Type 0

-- a file was read and opened, and the promise was kept over all files of which what the store said is true. Those that it tells are among them
pub record KeepsPromise (promise : Promise) (r : Request) (old : Outside) : Type 0 where
  pub bytes : List ℕ
  pub file : List ℕ
  pub between : StoreState
  pub moves : Moves
  pub said : List Said
  pub read : ReadsWhole old.store (image_name r) (Ok bytes) between
  pub opens : asked_file r bytes ≡ Ok file
  pub told : (files : Files) → old.store.files ≡ Some files → AreTrueOf files said
  pub kept : (files : Files) → AreFiles files → AreTrueOf files said → promise bytes file moves files

-- nothing was put but the text of the status
abbrev pub PutsTextAlone : Request → Status → Outside → Outside → Type 0
PutsTextAlone r status old new = (new.out ≡ old.out) × Tells status (image_name r) old.err new.err

-- what may be relied on, by the status. A fault of the store and want of memory come where nothing ran, too
abbrev pub ImagePromises : (Status → Promise) → Request → Status → Outside → Outside → Type 0
ImagePromises promise r (Exited code) old new = KeepsPromise (promise (Exited code)) r old
ImagePromises promise r (Trapped cause pc) old new = KeepsPromise (promise (Trapped cause pc)) r old
ImagePromises promise r (TurnsOver count) old new = KeepsPromise (promise (TurnsOver count)) r old
ImagePromises promise r SinkFault old new = KeepsPromise (promise SinkFault) r old
ImagePromises promise r StoreFault old new = PutsTextAlone r StoreFault old new ⊎ KeepsPromise (promise StoreFault) r old
ImagePromises promise r NoMemory old new = PutsTextAlone r NoMemory old new ⊎ KeepsPromise (promise NoMemory) r old
ImagePromises promise r Absent old new = PutsTextAlone r Absent old new
ImagePromises promise r (Refused why) old new = PutsTextAlone r (Refused why) old new
ImagePromises promise r Done old new = ⊥
ImagePromises promise r Usage old new = ⊥
ImagePromises promise r (BadLine n) old new = ⊥
ImagePromises promise r TooMany old new = ⊥

-- by the command
abbrev pub CommandPromises : Command → Request → Status → Outside → Outside → Type 0
CommandPromises Run r status old new = ImagePromises (λ status bytes file moves files. IsKept r bytes file moves files status old new) r status old new
CommandPromises Trace r status old new = ImagePromises (λ status bytes file moves files. IsTraceKept r bytes file moves files status old new) r status old new
CommandPromises other r status old new = Unit {0}

-- where the words ask for a command
abbrev pub Promises : List (List ℕ) → Status → Outside → Outside → Type 0
Promises words status old new = IfSome (command_of words) (λ r. CommandPromises r.command r status old new)
