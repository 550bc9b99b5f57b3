-- A buffer is seen as code.
use Rattle.std.specs.Prelude.{◌<◌, length}
use Rattle.std.specs.List.{All}
use Rattle.rv_encode.specs.Code.{Code, IsJump}
use Rattle.rv_encode.specs.Resolved.{Ascend}
use Rattle.rv_encode.specs.declared.buffer.CodeBuf.TheInside.{Inside}

abbrev pub code_in : Inside → Code
code_in a = record { words = a.words.items; uses = a.uses.items; places = a.places.items }

-- each jump stands at a word of its own in the buffer, and goes to one of its labels
pub record IsCode (a : Inside) : Type 0 where
  pub jumps : All (λ u. IsJump u.instr) a.uses.items
  pub within : All (λ u. u.at < length a.words.items) a.uses.items
  pub ascend : Ascend a.uses.items
  pub labels : All (λ u. u.to < length a.places.items) a.uses.items
