-- A buffer of bytes that wait to be put (this project's own).
use Rattle.std.specs.Prelude.{ℕ, List}

-- the bytes that it holds back, and how many fit
pub record BufferState : Type 0 where
  pub held : List ℕ
  pub size : ℕ
