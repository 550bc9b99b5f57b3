-- What opening a file for `run` comes to (this project's own).
use Rattle.std.specs.Prelude.{◌≡◌, ℕ, List, None, Result, Ok, Err}
use Rattle.spec_base.specs.Files.{Files}
use Rattle.spec_base.specs.declared.layout.Version.{Version}
use Rattle.elf_image.specs.Profile.{profile}
use Rattle.elf_image.specs.Recovery.{front_damage}
use Rattle.elf_image.specs.declared.image.Image.{Image}
use Rattle.elf_image.specs.declared.image.ReadFault.{ReadFault}
use Rattle.elf_image.specs.declared.image.ReadFault.TheVariants as image
use Rattle.elf_image.specs.declared.refusal.Refusal.TheVariants.{Already}
use Rattle.rewriter.specs.Layouts.{rewritten}
use Rattle.rewriter.specs.Rewriting.{IsAccepted}
use Rattle.rewritten_reader.specs.Damage.{first_damage}
use Rattle.world_io.specs.Buffers.{BufSinkState}
use Rattle.file_world.specs.Worlds.{AreFiles}
use Rattle.file_runs.specs.Runs.{run_world}
use Rattle.runner_parts.specs.Counts.{no_counts}
use Rattle.runner.specs.Opens.{StandsAtStart}
use Rattle.runner.specs.declared.runner.Runner.{Runner}
use Rattle.command_words.specs.declared.request.Request.{Request}
use Rattle.run_commands.specs.Run.{asked_file, MayOpen}
use Rattle.command_status.specs.declared.status.Status.{Status}
use Rattle.command_status.specs.declared.status.Status.TheVariants.{Refused, NoMemory}

-- a buffer holds the rewritten file of an accepted file; or the first reason to refuse the file is told, or there was no memory for an accepted one
abbrev pub HoldsRewritten : List ℕ → ℕ → Version → Result BufSinkState ReadFault → Type 0
HoldsRewritten bytes regions version (Ok sink) = (image : Image) × (profile bytes version ≡ Ok image) × (sink.bytes ≡ rewritten bytes image regions version)
HoldsRewritten bytes regions version (Err (image.Refused why)) = profile bytes version ≡ Err why
HoldsRewritten bytes regions version (Err image.NoMemory) = IsAccepted bytes version

-- a runner stands before the first move of a rewritten file with these arguments, whatever other files there are
pub record StandsBefore (file : List ℕ) (arguments : List (List ℕ)) (runner : Runner) : Type 0 where
  pub stands : (files : Files) → AreFiles files → StandsAtStart runner (run_world file arguments files)
  pub counts : runner.counts ≡ no_counts
  pub goes_on : runner.end ≡ None

-- a rewritten file is opened, or it is damaged, or there was no memory where record and image are undamaged
abbrev pub OpensFile : Request → List ℕ → Result Runner Status → Type 0
OpensFile r file (Ok runner) = (first_damage file ≡ None) × StandsBefore file r.arguments runner
OpensFile r file (Err (Refused why)) = (why ≡ Already) × (first_damage file ≡ None → ⊥)
OpensFile r file (Err NoMemory) = front_damage file ≡ None
OpensFile r file (Err other) = ⊥

-- the file that a request executes is opened, or it is refused, or memory was wanting
abbrev pub OpensTo : Request → List ℕ → Result Runner Status → Type 0
OpensTo r bytes (Ok runner) = (file : List ℕ) × (asked_file r bytes ≡ Ok file) × StandsBefore file r.arguments runner
OpensTo r bytes (Err (Refused why)) = asked_file r bytes ≡ Err why
OpensTo r bytes (Err NoMemory) = MayOpen (profile bytes r.options.layout) bytes
OpensTo r bytes (Err other) = ⊥
