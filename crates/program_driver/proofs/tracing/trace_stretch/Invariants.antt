use Rattle.std.proofs.Common.{ℕ, Bool, ◌+◌, ◌-◌, ◌≤◌, List, ◌++◌, ◌≡◌, None}
use Rattle.std.specs.Prelude.{replicate}
use Rattle.spec_base.specs.declared.note.Move.{Move}
use Rattle.run_model.specs.Patterns.{Pattern}
use Rattle.world_io.specs.Outside.{SinkState, StoreState}
use Rattle.runner.specs.declared.runner.Runner.{Runner}
use Rattle.program_driver.specs.Progress.{TraceProgress}
use Rattle.runner.specs.Causes.{IsLater}
use Rattle.program_driver.specs.Traces.{with_err}
use Rattle.program_driver.proofs.tracing.trace_stretch.Given as goal

abbrev pub invariant-loop-made : goal.invariant-loop-made
invariant-loop-made g l = record {
  few : l.runner.counts.moves ≤ l.fn.runner.counts.moves + l.made;
  goes : (uses : Bool) (pattern : Pattern) (turns : ℕ) (left : List Move) (start : Runner) (first : StoreState) (empty : SinkState)
      → TraceProgress uses pattern turns (replicate l.count l.step ++ left) l.fn.uses start l.fn.runner first empty (g.D.Store.state l.fn.store) (g.O.Sink.state l.fn.out)
      → TraceProgress uses pattern turns (replicate (l.count - l.made) l.step ++ left) l.uses start l.runner first empty (g.D.Store.state l.store) (g.O.Sink.state l.out);
  later : (err : SinkState) → IsLater (with_err err (g.D.Store.state l.fn.store) (g.O.Sink.state l.fn.out)) (with_err err (g.D.Store.state l.store) (g.O.Sink.state l.out));
  on : l.fn.runner.end ≡ None → l.runner.end ≡ None;
}
