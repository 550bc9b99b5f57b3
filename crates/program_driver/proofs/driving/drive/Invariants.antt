use Rattle.std.proofs.Common.{◌≤◌, ◌+◌, ◌^◌, length, ◌≡◌, None}
use Rattle.program_driver.specs.Progress.{Progress}
use Rattle.runner.specs.Causes.{IsLater}
use Rattle.program_driver.proofs.driving.drive.Given as goal

abbrev pub invariant-loop-step : goal.invariant-loop-step
invariant-loop-step g l = record {
  few : l.runner.counts.moves + length l.schedule ≤ 2 ^ 63;
  log : Progress l.pattern l.turns l.schedule l.fn.runner l.runner
      (record { store = g.D.Store.state l.fn.store; out = g.O.Sink.state l.fn.out; err = g.E.Sink.state l.fn.err })
      (record { store = g.D.Store.state l.store; out = g.O.Sink.state l.out; err = g.E.Sink.state l.err });
  later : IsLater (record { store = g.D.Store.state l.fn.store; out = g.O.Sink.state l.fn.out; err = g.E.Sink.state l.fn.err }) (record { store = g.D.Store.state l.store; out = g.O.Sink.state l.out; err = g.E.Sink.state l.err });
  on : l.fn.runner.end ≡ None → l.runner.end ≡ None;
}

abbrev pub decreases-loop-step : goal.decreases-loop-step
decreases-loop-step g l = length l.schedule
