-- The start of a rewritten program, and what opening a rewritten file comes to (this project's own).
use Rattle.std.specs.Prelude.{◌≡◌, ℕ, List, [], Some, None, Result, Ok, Err}
use Rattle.spec_base.specs.Files.{Files}
use Rattle.rv_model.specs.Space.{Space}
use Rattle.program_model.specs.Descriptors.{Descriptors}
use Rattle.run_model.specs.Run.{World, opened_run}
use Rattle.run_model.specs.Moves.{run}
use Rattle.run_laws.specs.OwnLaws.{Accepted}
use Rattle.machine_laws.specs.OneMachine.{space_of_run}
use Rattle.hart_step.specs.Core.{Core}
use Rattle.word_laws.specs.Shown.{own_core}
use Rattle.elf_image.specs.Recovery.{front_damage, carried}
use Rattle.rewritten_reader.specs.Damage.{first_damage}
use Rattle.file_world.specs.Worlds.{AreFiles}
use Rattle.file_world.specs.Promises.{world_again}
use Rattle.run_loader.specs.declared.opening.OpenFault.{OpenFault}
use Rattle.run_loader.specs.declared.opening.OpenFault.TheVariants.{Damaged, NoMemory}
use Rattle.runner.specs.Shows.{Shows}
use Rattle.runner.specs.declared.runner.Runner.{Runner}

-- ---- the start of a program

-- hart, memory and descriptors are those of a world's first state
pub record IsStart (w : World) (core : Core) (space : Space) (files : Descriptors) : Type 0 where
  pub hart : core ≡ own_core (opened_run w)
  pub space_is : space ≡ space_of_run w (opened_run w)
  pub files_are : files ≡ w.image.start.files

-- ---- a file that is opened

-- the laws of runs speak of a world, and a runner shows its run before the first move
pub record StandsAtStart (v : Runner) (w : World) : Type 0 where
  pub accepted : Accepted w
  pub shows : Shows v w (run w [])

-- what a call may answer: an undamaged file is opened as what it carries, whatever other files there are, of a damaged one the first damaged part is told, and memory may be wanting where record and image are undamaged
abbrev pub OpensAs : List ℕ → List (List ℕ) → Result Runner OpenFault → Type 0
OpensAs bytes arguments (Ok runner) =
    (first_damage bytes ≡ None) × ((files : Files) → AreFiles files → StandsAtStart runner (world_again bytes (carried bytes) arguments files))
OpensAs bytes arguments (Err (Damaged part)) = first_damage bytes ≡ Some part
OpensAs bytes arguments (Err NoMemory) = front_damage bytes ≡ None
