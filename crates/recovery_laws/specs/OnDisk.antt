-- The code that the table of a rewritten file loads (this project's own).
use Rattle.std.specs.Prelude.{◌≡◌, ℕ, ◌+◌, ◌*◌, Bool, ◌&&◌, nat_le, nat_lt, List, [], find, Option, Some, None}
use Rattle.elf_image.specs.declared.segments.Segment.{Segment}
use Rattle.elf_image.specs.Segments.{entries, segments_in}
use Rattle.elf_image.specs.Image.{words_at, file_place}
use Rattle.spec_base.specs.Layout.{shadow_start, helpers_start, helper_words, stub_start, stub_words}
use Rattle.spec_base.specs.declared.layout.Layout.{Layout}
use Rattle.elf_writer.specs.FileParts.{text_count}
use Rattle.elf_writer.specs.RewrittenFile.{Code}

-- the address lies in the file part of this segment
abbrev pub holds_address : ℕ → Segment → Bool
holds_address a s = nat_le s.address a && nat_lt a (s.address + s.length)

-- n words of a segment's file part from an address on
abbrev pub words_from : Option Segment → List ℕ → ℕ → ℕ → List ℕ
words_from None file a n = []
words_from (Some s) file a n = words_at (file_place s a) n file

-- the n words that stand from an address on where the segments are loaded that the file's table names
abbrev pub loaded_words : List ℕ → ℕ → ℕ → List ℕ
loaded_words file a n = words_from (find (holds_address a) (segments_in (entries file))) file a n

-- loading a file gives this code: text, shadow text, helpers and stub, each at its place
pub record LoadsCode (file : List ℕ) (l : Layout) (code : Code) : Type 0 where
  pub text : loaded_words file l.text_start (text_count l) ≡ code.text
  pub shadow : loaded_words file shadow_start (16 * (text_count l + 1)) ≡ code.shadow
  pub helpers : loaded_words file helpers_start helper_words ≡ code.helpers
  pub stub : loaded_words file stub_start stub_words ≡ code.stub
