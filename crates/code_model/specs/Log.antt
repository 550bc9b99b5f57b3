-- The hint log and the restart box, in the link (this project's own).
use Rattle.std.specs.Prelude.{ℕ, zero, suc, ◌+◌, ◌*◌, ◌%◌, ◌≤◌}
use Rattle.spec_base.specs.Layout.{link_start}
use Rattle.rv_model.specs.Memory.{Memory, loaded}

-- ---- the log: pairs of a key and an asked count, from head to tail

-- how many pairs were taken, and how many appended
abbrev pub log_head : Memory → ℕ
log_head link = loaded link link_start 8

-- how many pairs were appended
abbrev pub log_tail : Memory → ℕ
log_tail link = loaded link (link_start + 8) 8

-- pair number i stands in one of 64 places
abbrev pub log_place : ℕ → ℕ
log_place i = link_start + 256 + 16 * (i % 64)

-- pair number i: its key and its asked count
abbrev pub logged : Memory → ℕ → ℕ × ℕ
logged link i = (loaded link (log_place i) 8, loaded link (log_place i + 8) 8)

-- it is a queue: pairs are taken only once they are appended, and at most 64 wait
pub record IsQueue (link : Memory) : Type 0 where
  pub order : log_head link ≤ log_tail link
  pub most : log_tail link ≤ log_head link + 64

-- ---- the box: the site, then the registers

-- the restart box
abbrev pub box_start : ℕ
box_start = link_start + 0x1000

-- the site of the call that restarted the shadow
abbrev pub boxed_site : Memory → ℕ
boxed_site link = loaded link box_start 8

-- register 0 of the box is 0
abbrev pub boxed : Memory → ℕ → ℕ
boxed link zero = 0
boxed link (suc n) = loaded link (box_start + 8 * suc n) 8
