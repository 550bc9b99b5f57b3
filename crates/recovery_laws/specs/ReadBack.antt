-- A rewritten file is recovered as what it was made from (this project's own).
use Rattle.std.specs.Prelude.{◌≡◌, ℕ, ◌<◌, ◌≤◌, List, map, All, Ok}
use Rattle.spec_base.specs.declared.layout.Version.{Version}
use Rattle.elf_image.specs.declared.image.Image.{Image}
use Rattle.elf_image.specs.declared.recovery.Recovered.{Recovered}
use Rattle.elf_image.specs.Profile.{profile}
use Rattle.elf_image.specs.Image.{text_words}
use Rattle.elf_writer.specs.ProgramCode.{ungated_word, rewritten_again}
use Rattle.rewriter.specs.Layouts.{layout_of, rewritten}
use Rattle.rewritten_reader.specs.Damage.{recovered}
use Rattle.recovery_laws.specs.Texts.{harmless_word}
use Rattle.recovery_laws.specs.Moved.{moved_image}

-- ---- what is recovered

-- the image at its offsets in the rewritten file, regions and version
abbrev pub carried_of : Image → ℕ → Version → Recovered
carried_of image regions version = record { image = moved_image image; layout = layout_of image regions version }

-- the rewritten file is recovered undamaged, with the words of the text but 0 for words of the gates' opcode, and rewriting what it carries gives it back
pub record IsReadBack (bytes : List ℕ) (image : Image) (regions : ℕ) (version : Version) : Type 0 where
  pub carries : recovered (rewritten bytes image regions version) ≡ Ok (carried_of image regions version)
  pub words : map ungated_word (text_words (rewritten bytes image regions version) (moved_image image)) ≡ map harmless_word (text_words bytes image)
  pub again :
      rewritten_again (rewritten bytes image regions version) (moved_image image) (layout_of image regions version)
      ≡ rewritten bytes image regions version

-- so it is for each accepted file and each number of regions
abbrev pub RewrittenIsRecovered : Type 0
RewrittenIsRecovered =
    (bytes : List ℕ) (image : Image) (regions : ℕ) (version : Version) → All (λ b. b < 256) bytes → profile bytes version ≡ Ok image →
    1 ≤ regions → regions ≤ 65_536 → IsReadBack bytes image regions version
