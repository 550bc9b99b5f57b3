-- Code with the words of more instructions behind it (this project's own).
use Rattle.std.specs.Prelude.{◌≡◌, ℕ, List, ◌++◌, map, take}
use Rattle.rv_decode.specs.declared.instr.Instr.{Instr}
use Rattle.rv_decode.specs.Encoding.{word_of}
use Rattle.rv_encode.specs.Code.{Code}

-- the code, and behind it the words of these instructions
abbrev pub with_code : Code → List Instr → Code
with_code code instrs = record code { words = code.words ++ map word_of instrs }

-- the code, and behind it the words of the first few of these instructions
pub record HasPart (old new : Code) (instrs : List Instr) : Type 0 where
  pub count : ℕ
  pub words : new ≡ with_code old (take count instrs)
