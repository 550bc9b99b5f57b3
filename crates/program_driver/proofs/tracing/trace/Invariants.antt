use Rattle.std.proofs.Common.{◌≤◌, ◌+◌, ◌^◌, length, ◌≡◌, None}
use Rattle.program_driver.specs.Progress.{TraceProgress}
use Rattle.world_io.specs.Outside.{SinkState}
use Rattle.runner.specs.Causes.{IsLater}
use Rattle.program_driver.specs.Traces.{with_err}
use Rattle.program_driver.proofs.tracing.trace.Given as goal

abbrev pub invariant-loop-step : goal.invariant-loop-step
invariant-loop-step g l = record {
  few : l.runner.counts.moves + length l.schedule ≤ 2 ^ 63;
  log : TraceProgress l.with_uses l.pattern l.turns l.schedule l.uses l.fn.runner l.runner (g.D.Store.state l.fn.store) (g.O.Sink.state l.fn.out) (g.D.Store.state l.store) (g.O.Sink.state l.out);
  later : (err : SinkState) → IsLater (with_err err (g.D.Store.state l.fn.store) (g.O.Sink.state l.fn.out)) (with_err err (g.D.Store.state l.store) (g.O.Sink.state l.out));
  on : l.fn.runner.end ≡ None → l.runner.end ≡ None;
}

abbrev pub decreases-loop-step : goal.decreases-loop-step
decreases-loop-step g l = length l.schedule
