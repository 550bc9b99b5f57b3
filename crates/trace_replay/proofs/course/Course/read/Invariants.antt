use Rattle.std.proofs.Common.{◌≡◌}
use Rattle.program_model.specs.Cache.{blocks_of}
use Rattle.trace_replay.specs.Replays.{all_needed}
use Rattle.trace_replay.specs.Courses.{settings, shown}
use Rattle.trace_replay.proofs.Finishing.{InRead}
use Rattle.trace_replay.proofs.course.Course.read.Given as goal

abbrev pub invariant-loop-block : goal.invariant-loop-block
invariant-loop-block l = record {
  same : settings l.self ≡ settings l.initial.self;
  so_far : InRead (settings l.initial.self) (all_needed (settings l.initial.self) (shown l.initial.self) (blocks_of l.read)) (shown l.self) l.read l.block l.block-end;
}
