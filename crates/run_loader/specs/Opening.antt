-- What opening a rewritten file comes to (this project's own).
use Rattle.std.specs.Prelude.{◌≡◌, ℕ, List, Some, None, Result, Ok, Err}
use Rattle.spec_base.specs.Files.{Files}
use Rattle.spec_base.specs.declared.machine.View.TheVariants.{Program}
use Rattle.run_model.specs.Run.{World, opened_run}
use Rattle.run_laws.specs.OwnLaws.{Accepted}
use Rattle.elf_image.specs.declared.recovery.Recovered.{Recovered}
use Rattle.elf_image.specs.Recovery.{front_damage, carried}
use Rattle.hart_mem.specs.Held.{space_of}
use Rattle.hart_step.specs.Core.{core_of}
use Rattle.word_laws.specs.Shown.{ShowsOwn}
use Rattle.rewritten_reader.specs.Damage.{first_damage}
use Rattle.file_world.specs.Worlds.{AreFiles}
use Rattle.file_world.specs.Promises.{world_again}
use Rattle.run_loader.specs.declared.opening.Opened.{Opened}
use Rattle.run_loader.specs.declared.opening.OpenFault.{OpenFault}
use Rattle.run_loader.specs.declared.opening.OpenFault.TheVariants.{Damaged, NoMemory}

-- memory, own hart, descriptors and layout are those of a world's run before its first move
pub record ShowsFirst (w : World) (opened : Opened) : Type 0 where
  pub own : ShowsOwn Program w (opened_run w) (core_of opened.hart) (space_of opened.mem)
  pub files : opened.files ≡ (opened_run w).own.files
  pub layout : opened.layout ≡ w.image.layout

-- whatever other files there are, the run is that of what a rewritten file carries, with these arguments
abbrev pub OpensRecovered : List ℕ → Recovered → List (List ℕ) → Opened → Type 0
OpensRecovered bytes r arguments opened = (files : Files) → ShowsFirst (world_again bytes r arguments files) opened

-- the laws of runs speak of it, where other files are as files are
abbrev pub LawsHold : List ℕ → Recovered → List (List ℕ) → Type 0
LawsHold bytes r arguments = (files : Files) → AreFiles files → Accepted (world_again bytes r arguments files)

-- what a call may answer: an undamaged file is opened as what it carries, of a damaged one the first damaged part is told, and memory may be wanting where record and image are undamaged
abbrev pub OpensAs : List ℕ → List (List ℕ) → Result Opened OpenFault → Type 0
OpensAs bytes arguments (Ok opened) = (first_damage bytes ≡ None) × OpensRecovered bytes (carried bytes) arguments opened
OpensAs bytes arguments (Err (Damaged part)) = first_damage bytes ≡ Some part
OpensAs bytes arguments (Err NoMemory) = front_damage bytes ≡ None
