-- What the worked rows are about: a text alone, without files, and moves.
use Rattle.std.proofs.Common.{ℕ, ◌+◌, ◌*◌, List, [], ◌∷◌, length, map, replicate, None}
use Rattle.spec_base.specs.Files.{Files}
use Rattle.spec_base.specs.declared.layout.Version.TheVariants.{Two}
use Rattle.spec_base.specs.declared.note.Move.{Move}
use Rattle.rv_decode.specs.Encoding.{word_of}
use Rattle.rv_decode.specs.declared.instr.Instr.{Instr}
use Rattle.program_model.specs.Loading.{Executable, loaded_image, bytes_of_words}
use Rattle.run_model.specs.Run.{World, Usual}
use Rattle.run_model.specs.Moves.{Moves}

abbrev pub words_of : List Instr → List ℕ
words_of instrs = map word_of instrs

-- the instructions at 0x10078, where the entry is; the shadow may copy one region
abbrev pub executable : List Instr → Executable
executable instrs =
    record {
      layout = record { text_start = 0x10078; text_end = 0x10078 + 4 * length instrs; regions = 1; version = Two };
      words = words_of instrs;
      parts = (0x10078, bytes_of_words (words_of instrs)) ∷ [];
      entry = 0x10078;
      break_start = 0x20_1000;
    }

abbrev no_files : Files
no_files name = None

abbrev pub program : List Instr → World
program instrs = record { image = loaded_image (executable instrs) ((109 ∷ []) ∷ []); files = no_files }

-- a move, n times
abbrev pub of : Move → ℕ → Moves
of m n = replicate n (m, Usual)
