-- What contracts see of a course (this project's own).
use Rattle.trace_replay.specs.Replays.{Settings, Replayed}
use Rattle.trace_replay.specs.declared.course.Course.{Course}

-- its settings
abbrev pub settings : Course → Settings
settings c = record { blocks = c.lists.blocks; depth = c.lists.depth; every = c.every }

-- its lists, clock and totals
abbrev pub shown : Course → Replayed
shown c = record {
  cache = c.lists.cache;
  clock = c.clock;
  reads = c.totals.reads;
  needs = c.totals.needs;
  stalls = c.totals.stalls;
  fetches = c.totals.fetches;
}
