-- What the commands `run` and `trace` do, status by status: a file is read and opened, and the moves of a pattern are made (this project's own).
use Rattle.std.specs.Prelude.{◌≡◌, ◌⊎◌, ℕ, List, Some, None, Result, Ok, Err}
use Rattle.spec_base.specs.Files.{Files}
use Rattle.world_io.specs.Outside.{StoreState}
use Rattle.whole_file.specs.Reading.{ReadsWhole}
use Rattle.whole_file.specs.declared.reading.ReadFault.TheVariants as read
use Rattle.elf_image.specs.declared.image.Image.{Image}
use Rattle.elf_image.specs.declared.refusal.Refusal.{Refusal}
use Rattle.elf_image.specs.declared.refusal.Refusal.TheVariants.{TooLong, Already}
use Rattle.elf_image.specs.Profile.{profile}
use Rattle.elf_image.specs.Recovery.{front_damage}
use Rattle.run_model.specs.Run.{World}
use Rattle.run_model.specs.Moves.{Moves}
use Rattle.plain_runner.specs.Runs.{Outside}
use Rattle.plain_runner.specs.declared.ending.Ending.{Ending}
use Rattle.file_world.specs.Worlds.{AreFiles}
use Rattle.file_runs.specs.Runs.{run_file, run_world, IsRun}
use Rattle.runner_parts.specs.Heard.{Said, AreTrueOf}
use Rattle.runner.specs.Causes.{IsLater}
use Rattle.program_driver.specs.Causes.{HasCause}
use Rattle.program_driver.specs.Runs.{RunsTo}
use Rattle.program_driver.specs.Traces.{TracesTo}
use Rattle.command_words.specs.declared.request.Request.{Request}
use Rattle.command_status.specs.Common.{Silent, Stopped, ReadsFile, EndingStatus, image_name}
use Rattle.command_status.specs.declared.status.Status.{Status}
use Rattle.command_status.specs.declared.status.Status.TheVariants.{Done, Exited, Trapped, TurnsOver, Usage, Absent, Refused, BadLine, TooMany, StoreFault, SinkFault, NoMemory}

-- ---- opening

-- the rewritten file that a request executes for a file of these bytes, or the first reason to refuse it
abbrev pub asked_file : Request → List ℕ → Result (List ℕ) Refusal
asked_file r bytes = run_file r.options.regions r.options.layout bytes

-- the profile accepts a file, or it is a rewritten one whose record and image are undamaged: with memory the rest of it is looked at
abbrev pub MayOpen : Result Image Refusal → List ℕ → Type 0
MayOpen (Ok image) bytes = Unit {0}
MayOpen (Err Already) bytes = front_damage bytes ≡ None
MayOpen (Err why) bytes = ⊥

-- the file was read whole, and this is the first reason to refuse it
abbrev pub IsUnopened : Request → Refusal → Outside → Outside → Type 0
IsUnopened r why old new = (bytes : List ℕ) × ReadsFile r bytes old new × (asked_file r bytes ≡ Err why) × Silent old new

-- the file was read whole, and there was no memory to rewrite or to open it
abbrev pub IsOpeningStarved : Request → Outside → Outside → Type 0
IsOpeningStarved r old new = (bytes : List ℕ) × ReadsFile r bytes old new × MayOpen (profile bytes r.options.layout) bytes × Silent old new

-- ---- running

-- what moves of a world come to, by how they end
abbrev pub Going : Type 1
Going = Ending → World → Moves → Outside → Outside → Type 0

-- the file was read whole and opened, and moves of its world were made, over all files of which what the store said is true: those that it tells are among them. No count of faults fell, and a fault has its cause
pub record Ran (go : Going) (r : Request) (status : Status) (old new : Outside) : Type 0 where
  pub bytes : List ℕ
  pub file : List ℕ
  pub between : StoreState
  pub read : ReadsWhole old.store (image_name r) (Ok bytes) between
  pub opens : asked_file r bytes ≡ Ok file
  pub ending : Ending
  pub gives : EndingStatus ending status
  pub moves : Moves
  pub said : List Said
  pub told : (files : Files) → old.store.files ≡ Some files → AreTrueOf files said
  pub is_run : (files : Files) → AreFiles files → IsRun r.options.regions r.options.layout bytes file r.arguments files
  pub went :
      (files : Files) → AreFiles files → AreTrueOf files said →
      go ending (run_world file r.arguments files) moves (record old { store = between }) new
  pub later : IsLater (record old { store = between }) new
  pub cause : HasCause ending (record old { store = between }) new

-- what a status says of a command that reads a file and runs it
abbrev pub ImageTo : Going → Request → Status → Outside → Outside → Type 0
ImageTo go r (Exited code) old new = Ran go r (Exited code) old new
ImageTo go r (Trapped cause pc) old new = Ran go r (Trapped cause pc) old new
ImageTo go r (TurnsOver count) old new = Ran go r (TurnsOver count) old new
ImageTo go r SinkFault old new = Ran go r SinkFault old new
ImageTo go r Absent old new = Stopped r read.Absent old new
ImageTo go r (Refused why) old new = (Stopped r read.TooLong old new × (why ≡ TooLong)) ⊎ IsUnopened r why old new
ImageTo go r StoreFault old new = Stopped r read.Failed old new ⊎ Ran go r StoreFault old new
ImageTo go r NoMemory old new = (Stopped r read.NoMemory old new ⊎ IsOpeningStarved r old new) ⊎ Ran go r NoMemory old new
ImageTo go r Done old new = ⊥
ImageTo go r Usage old new = ⊥
ImageTo go r (BadLine n) old new = ⊥
ImageTo go r TooMany old new = ⊥

-- ---- the commands

-- the moves of the pattern, with the report
abbrev pub RunGoes : Request → Going
RunGoes r = RunsTo r.options.pattern r.options.turns r.options.report

-- the moves of the pattern, with the lines of what they tell, and of first uses where they are asked for
abbrev pub TraceGoes : Request → Going
TraceGoes r = TracesTo r.options.uses r.options.pattern r.options.turns

-- what a status says of the command `run`
abbrev pub RunTo : Request → Status → Outside → Outside → Type 0
RunTo r status old new = ImageTo (RunGoes r) r status old new

-- what a status says of the command `trace`
abbrev pub TraceTo : Request → Status → Outside → Outside → Type 0
TraceTo r status old new = ImageTo (TraceGoes r) r status old new
