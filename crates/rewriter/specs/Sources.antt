-- A text from which the code of a rewritten program is made (this project's own).
use Rattle.std.specs.Prelude.{◌≡◌, ℕ, ◌+◌, ◌*◌, ◌≤◌, Bool, true, false, List, length, map, IsTrue}
use Rattle.spec_base.specs.Layout.{is_lawful}
use Rattle.elf_image.specs.Image.{opened_limit}
use Rattle.spec_base.specs.declared.layout.Layout.{Layout}
use Rattle.rv_decode.specs.Encoding.{word_of}
use Rattle.code_model.specs.Helpers.{helpers}
use Rattle.code_model.specs.Stub.{stub}
use Rattle.elf_writer.specs.FileParts.{text_count}
use Rattle.elf_writer.specs.RewrittenFile.{Code}
use Rattle.elf_writer.specs.ProgramCode.{code_of_text, ungated_word}

-- the words of the original text, and the layout of the rewritten program
pub record Source : Type 0 where
  pub layout : Layout
  pub words : List ℕ

-- the code of that text
abbrev pub code_from : Source → Code
code_from source = code_of_text source.layout source.words

-- the word of the original text, of which a file has this one: that of a rewritten file has gates for calls
abbrev pub original_word : Bool → ℕ → ℕ
original_word false word = word
original_word true word = ungated_word word

-- those of a text
abbrev pub originals : Bool → List ℕ → List ℕ
originals false words = words
originals true words = map ungated_word words

-- the text stands in a file's bytes from an offset on, and these are the words of helpers and stub
pub record IsHeld (bytes : List ℕ) (offset : ℕ) (l : Layout) (helping performing : List ℕ) : Type 0 where
  pub few_bytes : length bytes ≤ opened_limit
  pub inside : offset + 4 * text_count l ≤ length bytes
  pub lawful : IsTrue (is_lawful l)
  pub helper_words : helping ≡ map word_of (helpers l)
  pub stub_words : performing ≡ map word_of stub
