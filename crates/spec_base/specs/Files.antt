-- Files, as programs see them (this project's own).
use Rattle.std.specs.Prelude.{ℕ, List, Option}

-- the bytes of a file's name
abbrev pub Name : Type 0
Name = List ℕ

-- the bytes of each file, by name; none where there is no such file
abbrev pub Files : Type 0
Files = Name → Option (List ℕ)
