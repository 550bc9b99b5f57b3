use Rattle.std.proofs.Common.{◌≡◌, ◌+◌, ◌-◌, ◌≤◌}
use Rattle.std.specs.Prelude.{vec_len}
use Rattle.program_model.specs.PlainRun.{Image as Program}
use Rattle.hart_mem.specs.Held.{space_of}
use Rattle.hart_step.specs.Core.{core_of}
use Rattle.plain_runner.specs.Turns.{IsStart}
use Rattle.plain_runner.proofs.RunLogs.{RunLog}
use Rattle.plain_runner.proofs.running.run.Given as goal

abbrev pub invariant-loop : goal.invariant-loop
invariant-loop g l = record {
  room : vec_len l.buffer ≡ 69632;
  few : l.left + l.counter ≤ l.turns;
  come : (p : Program) → IsStart p (core_of l.fn.hart) (space_of l.fn.mem) l.fn.files
      → RunLog p (record { store = g.S.Store.state l.fn.store; out = g.O.Sink.state l.fn.out; err = g.E.Sink.state l.fn.err }) (l.turns - l.left) (core_of l.hart) (space_of l.mem) l.files
      (record { store = g.S.Store.state l.store; out = g.O.Sink.state l.out; err = g.E.Sink.state l.err });
}
