-- The rewritten file of a program, with the code that belongs to its text (this project's own).
use Rattle.std.specs.Prelude.{ℕ, ◌==◌, if◌then◌else◌, List, map}
use Rattle.std.specs.List.{flat_map}
use Rattle.spec_base.specs.declared.layout.Layout.{Layout}
use Rattle.rv_decode.specs.Instruction.{instr_of}
use Rattle.rv_decode.specs.Encoding.{word_of}
use Rattle.code_model.specs.Patch.{patched_word}
use Rattle.code_model.specs.Blocks.{blocks_from}
use Rattle.code_model.specs.Helpers as helpers
use Rattle.code_model.specs.Stub as stub
use Rattle.elf_image.specs.declared.image.Image.{Image}
use Rattle.elf_image.specs.Image.{text_words}
use Rattle.elf_writer.specs.RewrittenFile.{Code, rewritten_file}

-- the words of the blocks of a text, and of the guard block
unfoldable pub shadow_words : Layout → List ℕ → List ℕ
shadow_words l words = flat_map (map word_of) (blocks_from l l.text_start (map instr_of words))

-- the code of a text with these words
unfoldable pub code_of_text : Layout → List ℕ → Code
code_of_text l words = record {
  text = map patched_word words;
  shadow = shadow_words l words;
  helpers = map word_of (helpers.helpers l);
  stub = map word_of stub.stub;
}

-- the file with that code
abbrev pub rewritten_file_of : List ℕ → Image → Layout → List ℕ
rewritten_file_of bytes image l = rewritten_file bytes image l (code_of_text l (text_words bytes image))

-- what a word of a patched text stands for: a gate for the call that it was made from
abbrev pub ungated_word : ℕ → ℕ
ungated_word word = if word == 0x0000000B then 0x00000073 else word

-- the file of an image that a rewritten file with these bytes carries
abbrev pub rewritten_again : List ℕ → Image → Layout → List ℕ
rewritten_again bytes image l = rewritten_file bytes image l (code_of_text l (map ungated_word (text_words bytes image)))
