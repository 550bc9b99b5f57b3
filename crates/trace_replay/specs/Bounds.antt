-- How far the totals of so many lines come, and what holds of the fields of a replay.
use Rattle.std.specs.Prelude.{◌≡◌, ℕ, ◌+◌, ◌*◌, ◌≤◌, false, length, None}
use Rattle.trace_replay.specs.Replays.{Replayed}
use Rattle.trace_replay.specs.Courses.{settings, shown}
use Rattle.trace_replay.specs.Fed.{Fed}
use Rattle.trace_replay.specs.declared.replay.Replay.TheInside.{Inside}

-- at most so many blocks were needed or hinted, and at most so many reads made
pub record IsBounded (most times : ℕ) (r : Replayed) : Type 0 where
  pub needs : r.needs ≤ most
  pub stalls : r.stalls ≤ r.needs
  pub fetches : r.fetches + length r.cache.queue ≤ most
  pub idle : r.cache.demanded ≡ None
  pub reads : r.reads ≤ times

abbrev pub fed_of : Inside → Fed
fed_of r = record { settings = settings r.course; now = shown r.course; lines = r.lines; failed = r.failed }

-- a read has at most 17 blocks, and a line at most one read
abbrev pub IsBoundedCourse : Inside → Type 0
IsBoundedCourse r = r.failed ≡ false → (1 ≤ r.course.every) × IsBounded (17 * r.lines) r.lines (shown r.course)
