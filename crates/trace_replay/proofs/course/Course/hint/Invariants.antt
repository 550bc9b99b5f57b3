use Rattle.std.proofs.Common.{◌≡◌}
use Rattle.program_model.specs.Cache.{blocks_of, all_hinted}
use Rattle.trace_replay.specs.Replays.{with_cache}
use Rattle.trace_replay.specs.Courses.{settings, shown}
use Rattle.trace_replay.proofs.Finishing.{InHint}
use Rattle.trace_replay.proofs.course.Course.hint.Given as goal

abbrev pub invariant-loop-block : goal.invariant-loop-block
invariant-loop-block l = record {
  same : settings l.self ≡ settings l.initial.self;
  others : shown l.self ≡ with_cache (shown l.initial.self) l.self.lists.cache;
  so_far : InHint l.initial.self.lists.depth (all_hinted l.initial.self.lists.depth l.initial.self.lists.cache (blocks_of l.read)) l.self.lists.cache l.read l.block l.block-end;
}
