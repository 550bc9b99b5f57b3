-- What the command `plain` does, status by status (this project's own).
use Rattle.std.specs.Prelude.{◌≡◌, ◌⊎◌, ℕ, List, Ok, Err}
use Rattle.world_io.specs.Outside.{StoreState}
use Rattle.whole_file.specs.Reading.{ReadsWhole}
use Rattle.whole_file.specs.declared.reading.ReadFault.TheVariants as read
use Rattle.elf_image.specs.declared.refusal.Refusal.{Refusal}
use Rattle.elf_image.specs.declared.refusal.Refusal.TheVariants.{TooLong}
use Rattle.elf_image.specs.declared.image.Image.{Image}
use Rattle.elf_image.specs.Profile.{profile}
use Rattle.rv_model.specs.Space.{Space}
use Rattle.program_model.specs.Descriptors.{Descriptors}
use Rattle.program_model.specs.PlainRun.{Image as Program}
use Rattle.hart_step.specs.Core.{Core}
use Rattle.program_loader.specs.Programs.{program_of}
use Rattle.plain_runner.specs.Runs.{Outside, RunsTo}
use Rattle.plain_runner.specs.declared.ending.Ending.{Ending}
use Rattle.command_words.specs.declared.request.Request.{Request}
use Rattle.command_status.specs.Common.{Silent, Untouched, Stopped, ReadsFile, EndingStatus, image_name}
use Rattle.command_status.specs.declared.status.Status.{Status}
use Rattle.command_status.specs.declared.status.Status.TheVariants.{Done, Exited, Trapped, TurnsOver, Usage, Absent, Refused, BadLine, TooMany, StoreFault, SinkFault, NoMemory}

-- the file was read whole, and the profile refuses it
abbrev pub IsRefused : Request → Refusal → Outside → Outside → Type 0
IsRefused r refusal old new =
    (bytes : List ℕ) × ReadsFile r bytes old new × (profile bytes r.options.layout ≡ Err refusal) × Silent old new

-- the file was read whole and is accepted, and there was no memory for its image
abbrev pub IsStarved : Request → Outside → Outside → Type 0
IsStarved r old new =
    (bytes : List ℕ) × (image : Image) × ReadsFile r bytes old new × (profile bytes r.options.layout ≡ Ok image) × Silent old new

-- a program ran, and its run ended so
pub record Runs (p : Program) (turns : ℕ) (status : Status) (old new : Outside) : Type 0 where
  pub end : Ending
  pub gives : EndingStatus end status
  pub core : Core
  pub space : Space
  pub files : Descriptors
  pub runs : RunsTo p turns old end core space files new

-- the program that a request asks for
abbrev pub asked_program : Request → List ℕ → Image → Program
asked_program r bytes image = program_of r.options.layout bytes image r.arguments

-- the program of an accepted image ran, or there was no memory to load it
abbrev pub RunsImage : Request → List ℕ → Image → Status → Outside → Outside → Type 0
RunsImage r bytes image status old new = ((status ≡ NoMemory) × Untouched old new) ⊎ Runs (asked_program r bytes image) r.options.turns status old new

-- the file was read whole, the profile accepts it, and its program ran
pub record Accepted (r : Request) (status : Status) (old new : Outside) : Type 0 where
  pub bytes : List ℕ
  pub image : Image
  pub between : StoreState
  pub read : ReadsWhole old.store (image_name r) (Ok bytes) between
  pub accepted : profile bytes r.options.layout ≡ Ok image
  pub ran : Runs (asked_program r bytes image) r.options.turns status (record old { store = between }) new

-- what a status says of the command `plain`
abbrev pub PlainTo : Request → Status → Outside → Outside → Type 0
PlainTo r (Exited code) old new = Accepted r (Exited code) old new
PlainTo r (Trapped cause pc) old new = Accepted r (Trapped cause pc) old new
PlainTo r (TurnsOver count) old new = Accepted r (TurnsOver count) old new
PlainTo r SinkFault old new = Accepted r SinkFault old new
PlainTo r Absent old new = Stopped r read.Absent old new
PlainTo r (Refused why) old new = (Stopped r read.TooLong old new × (why ≡ TooLong)) ⊎ IsRefused r why old new
PlainTo r StoreFault old new = Stopped r read.Failed old new ⊎ Accepted r StoreFault old new
PlainTo r NoMemory old new = (Stopped r read.NoMemory old new ⊎ IsStarved r old new) ⊎ Accepted r NoMemory old new
PlainTo r Done old new = ⊥
PlainTo r Usage old new = ⊥
PlainTo r (BadLine n) old new = ⊥
PlainTo r TooMany old new = ⊥
