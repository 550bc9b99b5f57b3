-- A cache that lines were fed to (this project's own).
use Rattle.std.specs.Prelude.{ℕ, Bool}
use Rattle.trace_replay.specs.Replays.{Settings, Replayed}

-- its settings, its lists and totals, how many lines it was fed, and whether there was no memory to follow one of them
pub record Fed : Type 0 where
  pub settings : Settings
  pub now : Replayed
  pub lines : ℕ
  pub failed : Bool
