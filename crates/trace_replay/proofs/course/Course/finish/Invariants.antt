use Rattle.std.proofs.Common.{◌≡◌, ◌-◌}
use Rattle.trace_replay.specs.Replays.{finishes}
use Rattle.trace_replay.specs.Courses.{settings, shown}
use Rattle.trace_replay.proofs.course.Course.finish.Given as goal

abbrev pub invariant-loop : goal.invariant-loop
invariant-loop l = record {
  same : settings l.self ≡ settings l.initial.self;
  rest : finishes (settings l.initial.self) (l.most - l.counter) (shown l.self) ≡ finishes (settings l.initial.self) l.most (shown l.initial.self);
}
