-- The data that a shadow sees in place of the program's (this project's own).
use Rattle.std.specs.Prelude.{ℕ, true, false, Option, Some, None}
use Rattle.rv_model.specs.Rights.{is_data}
use Rattle.rv_model.specs.Space.{Space}
use Rattle.code_model.specs.Regions.{shadowed}

-- the byte at an address that is data: the copy's where its region has one, else the program's
abbrev pub shadowed_byte : Space → ℕ → Option ℕ
shadowed_byte s a = elim (is_data s.layout a) [ true ↦ Some (shadowed s.shared s.program a) | false ↦ None ]
