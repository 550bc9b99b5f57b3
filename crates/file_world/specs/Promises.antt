-- What is promised of the run of a file's rewritten program: that its world is one of which the laws speak, that it does as `plain` of the file, and that its hints are true (this project's own).
use Rattle.std.specs.Prelude.{ℕ, ◌≡◌, ◌≤◌, ◌+◌, ◌*◌, List, length, All, IsTrue, Ok}
use Rattle.spec_base.specs.Files.{Files}
use Rattle.spec_base.specs.declared.layout.Version.{Version}
use Rattle.elf_image.specs.declared.image.Image.{Image}
use Rattle.elf_image.specs.declared.recovery.Recovered.{Recovered}
use Rattle.elf_image.specs.Profile.{profile}
use Rattle.elf_image.specs.Recovery.{RecoversAs}
use Rattle.rewriter.specs.Layouts.{rewritten}
use Rattle.rewritten_reader.specs.Damage.{recovered}
use Rattle.recovery_laws.specs.OnDisk.{loaded_words}
use Rattle.spec_base.specs.Layout.{shadow_start, helpers_start, helper_words, stub_start, stub_words}
use Rattle.machine_laws.specs.OneMachine.{space_of_run, SameFetches}
use Rattle.program_model.specs.PlainRun.{State, Taken, plain_state, end_of}
use Rattle.run_model.specs.Run.{World, Run}
use Rattle.run_model.specs.Moves.{Moves, run}
use Rattle.run_model.specs.Restarts.{before_horizon, reads}
use Rattle.run_laws.specs.OwnLaws.{Accepted, AllBytes, DoesAsPlain}
use Rattle.run_laws.specs.HintLaws.{IsFollowing, hinted_up_to}
use Rattle.file_world.specs.Worlds.{opened, opened_again, world_of, plain_world, AreFiles}

-- what is run: a file that the profile accepts, so many regions, arguments, and files. A command line lets only such arguments and regions through
pub record IsRunnable (bytes : List ℕ) (image : Image) (regions : ℕ) (version : Version) (arguments : List (List ℕ)) (files : Files) : Type 0 where
  pub are_bytes : AllBytes bytes
  pub accepted : profile bytes version ≡ Ok image
  pub some_regions : 1 ≤ regions
  pub few_regions : regions ≤ 65_536
  pub are_words : All AllBytes arguments
  pub are_files : AreFiles files

-- ---- accepted worlds

-- the laws of runs speak of each accepted file's world
abbrev pub FilesAreAccepted : Type 0
FilesAreAccepted =
    (bytes : List ℕ) (image : Image) (regions : ℕ) (version : Version) (arguments : List (List ℕ)) (files : Files) →
    IsRunnable bytes image regions version arguments files → Accepted (world_of bytes (opened bytes image regions version) arguments files)

-- and of the world of what a rewritten file carries
abbrev pub RecoveredAreAccepted : Type 0
RecoveredAreAccepted =
    (bytes : List ℕ) (r : Recovered) (arguments : List (List ℕ)) (files : Files) → AllBytes bytes → RecoversAs bytes (Ok r) → All AllBytes arguments → AreFiles files →
    Accepted (world_of bytes (opened_again bytes r) arguments files)

-- ---- runs

-- two worlds have the same plain run: the same states after as many instructions, and so the same calls and outputs, and the same end
pub record SamePlain (v w : World) : Type 0 where
  pub state : (t : Taken) (n : ℕ) → plain_state w.image w.files t n ≡ plain_state v.image v.files t n
  pub end : (t : Taken) (s : State) → end_of w.image w.files t s ≡ end_of v.image v.files t s

-- a run does as the plain program, and its hints before the horizon are the next reads while the own hart is behind the shadow and each put was whole
pub record KeepsPromises (plain w : World) (ms : Moves) : Type 0 where
  pub preserved : DoesAsPlain plain (run w ms)
  pub hinted :
      IsFollowing (run w ms) → IsTrue (before_horizon w (run w ms) (run w ms).since.shadow) →
      (run w ms).since.hints ≡ reads w (run w ms) (hinted_up_to w (run w ms))

-- the run of an accepted file's rewritten program does as `plain` of the file, and its hints are true
abbrev pub FilesKeepPromises : Type 0
FilesKeepPromises =
    (bytes : List ℕ) (image : Image) (regions : ℕ) (version : Version) (arguments : List (List ℕ)) (files : Files) →
    IsRunnable bytes image regions version arguments files → (ms : Moves) →
    KeepsPromises (plain_world bytes image version arguments files) (world_of bytes (opened bytes image regions version) arguments files) ms

-- ---- the rewritten file

-- the words that a file loads are the code in the memory of a run, and at each pc the run fetches in each view the instruction of the word there
pub record RunsLoadedCode (file : List ℕ) (w : World) (r : Run) : Type 0 where
  pub text : loaded_words file w.image.layout.text_start (length w.image.words) ≡ (space_of_run w r).text
  pub shadow : loaded_words file shadow_start (16 * (length w.image.words + 1)) ≡ (space_of_run w r).shadow
  pub helpers : loaded_words file helpers_start helper_words ≡ (space_of_run w r).helpers
  pub stub : loaded_words file stub_start stub_words ≡ (space_of_run w r).stub
  pub fetches : (pc : ℕ) → SameFetches w r pc

-- the world of what a rewritten file carries
abbrev pub world_again : List ℕ → Recovered → List (List ℕ) → Files → World
world_again file r arguments files = world_of file (opened_again file r) arguments files

-- the rewritten file carries a program of which the laws of runs speak, and whose plain run is that of the file that was rewritten; each run of it executes the code that the file loads, does as `plain` of the file that was rewritten, and has true hints
pub record RunsAsPlain (bytes : List ℕ) (image : Image) (regions : ℕ) (version : Version) (arguments : List (List ℕ)) (files : Files) : Type 0 where
  pub carries : Recovered
  pub recovers : recovered (rewritten bytes image regions version) ≡ Ok carries
  pub accepted : Accepted (world_again (rewritten bytes image regions version) carries arguments files)
  pub plain : SamePlain (plain_world bytes image version arguments files) (world_again (rewritten bytes image regions version) carries arguments files)
  pub code :
      (r : Run) →
      RunsLoadedCode (rewritten bytes image regions version) (world_again (rewritten bytes image regions version) carries arguments files) r
  pub promises :
      (ms : Moves) →
      KeepsPromises (plain_world bytes image version arguments files) (world_again (rewritten bytes image regions version) carries arguments files) ms

-- what `rewrite` puts runs as `plain` runs the file that it was made from
abbrev pub RewrittenRunsAsPlain : Type 0
RewrittenRunsAsPlain =
    (bytes : List ℕ) (image : Image) (regions : ℕ) (version : Version) (arguments : List (List ℕ)) (files : Files) →
    IsRunnable bytes image regions version arguments files → RunsAsPlain bytes image regions version arguments files
