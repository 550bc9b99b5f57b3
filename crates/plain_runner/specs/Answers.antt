-- What a store answered to the opens and to the reads of a program (this project's own).
use Rattle.std.specs.Prelude.{◌≡◌, ℕ, List, Option}
use Rattle.spec_base.specs.Files.{Name, Files}
use Rattle.spec_base.specs.declared.spot.ReadSpot.{ReadSpot}
use Rattle.program_model.specs.Calls.{bytes_read}
use Rattle.program_model.specs.PlainRun.{size_in}

-- the size of a file that was looked for, none where it is absent; or the bytes of a read
pub data Answer : Type 0 where
  Sized : (name : Name) (size : Option ℕ) → Answer
  Gave : (spot : ReadSpot) (bytes : List ℕ) → Answer

-- files of which the answer is true
abbrev pub Answers : Files → Answer → Type 0
Answers files (Sized name size) = size_in files name ≡ size
Answers files (Gave spot bytes) = bytes_read files spot ≡ bytes
