-- An open file (this project's own).
use Rattle.std.specs.Prelude.{ℕ}
use Rattle.spec_base.specs.Files.{Name}

-- its name, its size, and where the next read begins
pub record FileState : Type 0 where
  pub name : Name
  pub size : ℕ
  pub offset : ℕ
