-- A name that was read, as the call table asks for it (this project's own).
use Rattle.std.specs.Prelude.{ℤ, Result, Ok, Err}
use Rattle.spec_base.specs.Files.{Name}
use Rattle.program_model.specs.Calls.{Named, Refused, Whole}

-- a name that was read, or the answer that refuses it
abbrev pub named : Result Name ℤ → Named
named (Ok name) = Whole name
named (Err answer) = Refused answer
