-- The length of the hint log (this project's own).
use Rattle.std.specs.Prelude.{ℕ, ◌-◌}
use Rattle.rv_model.specs.Memory.{Memory}
use Rattle.code_model.specs.Log.{log_head, log_tail}

-- how many pairs wait
abbrev pub log_length : Memory → ℕ
log_length link = log_tail link - log_head link
