-- The world of a file: the program that the file is opened as, with its arguments, and the files (this project's own).
use Rattle.std.specs.Prelude.{ℕ, ◌≡◌, ◌^◌, ◌<◌, List, length, map, Some}
use Rattle.spec_base.specs.Files.{Name, Files}
use Rattle.spec_base.specs.declared.layout.Layout.{Layout}
use Rattle.spec_base.specs.declared.layout.Version.{Version}
use Rattle.elf_image.specs.declared.image.Image.{Image}
use Rattle.elf_image.specs.declared.recovery.Recovered.{Recovered}
use Rattle.elf_image.specs.Image.{text_words}
use Rattle.elf_writer.specs.ProgramCode.{ungated_word}
use Rattle.rewriter.specs.Layouts.{layout_of}
use Rattle.program_model.specs.PlainRun.{Image as Program}
use Rattle.program_model.specs.Loading.{loaded_image}
use Rattle.program_loader.specs.Programs.{executable_of, program_of}
use Rattle.run_model.specs.Run.{World}
use Rattle.run_laws.specs.OwnLaws.{AllBytes}

-- ---- what a file is opened as

-- an image whose segments stand in the file, the layout of its rewritten program, and the words of its text before it was patched
pub record Opened : Type 0 where
  pub image : Image
  pub layout : Layout
  pub words : List ℕ

-- an accepted file, whose rewritten program has so many regions
abbrev pub opened : List ℕ → Image → ℕ → Version → Opened
opened bytes image regions version = record { image = image; layout = layout_of image regions version; words = text_words bytes image }

-- a rewritten file, as what it carries: each gate of its text is the call that it stands for
abbrev pub opened_again : List ℕ → Recovered → Opened
opened_again bytes r = record { image = r.image; layout = r.layout; words = map ungated_word (text_words bytes r.image) }

-- ---- worlds

-- the program that loading makes of it, with its arguments, in its layout
abbrev pub program_in : List ℕ → Opened → List (List ℕ) → Program
program_in bytes o arguments =
    loaded_image (record (executable_of o.layout.version bytes o.image) { layout = o.layout; words = o.words }) arguments

-- that program, and the files
abbrev pub world_of : List ℕ → Opened → List (List ℕ) → Files → World
world_of bytes o arguments files = record { image = program_in bytes o arguments; files = files }

-- the program of an accepted file as it runs by itself, and the files
abbrev pub plain_world : List ℕ → Image → Version → List (List ℕ) → Files → World
plain_world bytes image version arguments files = record { image = program_of version bytes image arguments; files = files }

-- ---- files

-- each file has fewer than 2^56 bytes, and each of its numbers is a byte
abbrev pub AreFiles : Files → Type 0
AreFiles files = (name : Name) (bytes : List ℕ) → files name ≡ Some bytes → (length bytes < 2 ^ 56) × AllBytes bytes
