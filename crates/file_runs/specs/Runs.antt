-- What running a file comes to: the rewritten file that is executed, its world, and the program by itself (this project's own).
use Rattle.std.specs.Prelude.{◌≡◌, ℕ, ◌≤◌, List, All, Option, Some, None, Result, Ok, Err}
use Rattle.spec_base.specs.Files.{Files}
use Rattle.spec_base.specs.declared.layout.Version.{Version}
use Rattle.elf_image.specs.declared.image.Image.{Image}
use Rattle.elf_image.specs.declared.refusal.Refusal.{Refusal}
use Rattle.elf_image.specs.declared.refusal.Refusal.TheVariants.{Already}
use Rattle.elf_image.specs.declared.recovery.Part.{Part}
use Rattle.elf_image.specs.Profile.{profile}
use Rattle.elf_image.specs.Recovery.{carried}
use Rattle.rewriter.specs.Layouts.{rewritten}
use Rattle.rewritten_reader.specs.Damage.{first_damage}
use Rattle.program_model.specs.PlainRun.{Image as Program}
use Rattle.program_loader.specs.Programs.{program_of}
use Rattle.run_model.specs.Run.{World}
use Rattle.run_model.specs.Moves.{Moves}
use Rattle.run_model.specs.Patterns.{Pattern}
use Rattle.run_laws.specs.OwnLaws.{Accepted, AllBytes}
use Rattle.world_io.specs.Outside.{Endless}
use Rattle.plain_runner.specs.Runs.{Outside}
use Rattle.plain_runner.specs.declared.ending.Ending.{Ending}
use Rattle.file_world.specs.Worlds.{opened_again, program_in, AreFiles}
use Rattle.file_world.specs.Promises.{world_again}
use Rattle.run_promises.specs.Schedules.{MovesTo}
use Rattle.run_promises.specs.Promises.{IsAsPlain, GetsOn, Finishes}

-- ---- the file that is executed

-- a rewritten file stays, unless it is damaged
abbrev pub unless_damaged : Option Part → List ℕ → Result (List ℕ) Refusal
unless_damaged None bytes = Ok bytes
unless_damaged (Some part) bytes = Err Already

-- an accepted file is rewritten, and a rewritten one, which the profile refuses as such, is taken as it is: regions and version are then its own
abbrev pub run_file_by : Result Image Refusal → ℕ → Version → List ℕ → Result (List ℕ) Refusal
run_file_by (Ok image) regions version bytes = Ok (rewritten bytes image regions version)
run_file_by (Err Already) regions version bytes = unless_damaged (first_damage bytes) bytes
run_file_by (Err why) regions version bytes = Err why

-- the rewritten file that is executed, or the first reason to refuse a file
abbrev pub run_file : ℕ → Version → List ℕ → Result (List ℕ) Refusal
run_file regions version bytes = run_file_by (profile bytes version) regions version bytes

-- ---- its world

-- the program that the rewritten file carries, with its arguments, and the files
abbrev pub run_world : List ℕ → List (List ℕ) → Files → World
run_world file arguments files = world_again file (carried file) arguments files

-- ---- the program by itself

-- that of an accepted file is what `plain` runs, and that of a rewritten one what it carries
abbrev pub plain_program_by : Result Image Refusal → Version → List ℕ → List (List ℕ) → Program
plain_program_by (Ok image) version bytes arguments = program_of version bytes image arguments
plain_program_by (Err why) version bytes arguments = program_in bytes (opened_again bytes (carried bytes)) arguments

-- the program of a file
abbrev pub plain_program : Version → List ℕ → List (List ℕ) → Program
plain_program version bytes arguments = plain_program_by (profile bytes version) version bytes arguments

-- ---- the laws

-- what is run: a file for which there is a file to execute, so many regions, arguments, and files. A command line lets only such arguments and regions through
pub record IsRun (regions : ℕ) (version : Version) (bytes file : List ℕ) (arguments : List (List ℕ)) (files : Files) : Type 0 where
  pub are_bytes : AllBytes bytes
  pub opens : run_file regions version bytes ≡ Ok file
  pub some_regions : 1 ≤ regions
  pub few_regions : regions ≤ 65_536
  pub are_words : All AllBytes arguments
  pub are_files : AreFiles files

-- the laws of runs speak of its world
abbrev pub RunWorldsAreAccepted : Type 0
RunWorldsAreAccepted =
    (regions : ℕ) (version : Version) (bytes file : List ℕ) (arguments : List (List ℕ)) (files : Files) →
    IsRun regions version bytes file arguments files → Accepted (run_world file arguments files)

-- moves of its world put what the program puts by itself, and its end is the one that is told
abbrev pub RunsAreAsPlain : Type 0
RunsAreAsPlain =
    (regions : ℕ) (version : Version) (bytes file : List ℕ) (arguments : List (List ℕ)) (files : Files) →
    IsRun regions version bytes file arguments files →
    (pattern : Pattern) (turns : ℕ) (ending : Ending) (ms : Moves) (old new : Outside) →
    MovesTo pattern turns ending (run_world file arguments files) ms old new → IsAsPlain (plain_program version bytes arguments) files ending old new

-- and where the sinks take all, a program that comes to an end is run to it, if the turns are enough and nothing cuts the run short
abbrev pub RunsFinish : Type 0
RunsFinish =
    (regions : ℕ) (version : Version) (bytes file : List ℕ) (arguments : List (List ℕ)) (files : Files) →
    IsRun regions version bytes file arguments files →
    (pattern : Pattern) (turns : ℕ) (ending : Ending) (ms : Moves) (old new : Outside) →
    MovesTo pattern turns ending (run_world file arguments files) ms old new → old.out.room ≡ Endless → old.err.room ≡ Endless →
    Finishes (plain_program version bytes arguments) files pattern turns ending

-- where the turns are over, so many rounds of the pattern have completed an instruction
abbrev pub RunsGetOn : Type 0
RunsGetOn =
    (regions : ℕ) (version : Version) (bytes file : List ℕ) (arguments : List (List ℕ)) (files : Files) →
    IsRun regions version bytes file arguments files →
    (pattern : Pattern) (turns : ℕ) (ending : Ending) (ms : Moves) (old new : Outside) →
    MovesTo pattern turns ending (run_world file arguments files) ms old new → GetsOn pattern turns ending
