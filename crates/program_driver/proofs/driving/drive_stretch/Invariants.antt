use Rattle.std.proofs.Common.{ℕ, ◌+◌, ◌-◌, ◌≤◌, List, ◌++◌, ◌≡◌, None}
use Rattle.std.specs.Prelude.{replicate}
use Rattle.spec_base.specs.declared.note.Move.{Move}
use Rattle.run_model.specs.Patterns.{Pattern}
use Rattle.plain_runner.specs.Runs.{Outside}
use Rattle.runner.specs.declared.runner.Runner.{Runner}
use Rattle.program_driver.specs.Progress.{Progress}
use Rattle.runner.specs.Causes.{IsLater}
use Rattle.program_driver.proofs.driving.drive_stretch.Given as goal

abbrev pub invariant-loop-made : goal.invariant-loop-made
invariant-loop-made g l = record {
  few : l.runner.counts.moves ≤ l.fn.runner.counts.moves + l.made;
  inside : l.made ≤ l.count;
  goes : (pattern : Pattern) (turns : ℕ) (left : List Move) (start : Runner) (before : Outside)
      → Progress pattern turns (replicate l.count l.step ++ left) start l.fn.runner before (record { store = g.D.Store.state l.fn.store; out = g.O.Sink.state l.fn.out; err = g.E.Sink.state l.fn.err })
      → Progress pattern turns (replicate (l.count - l.made) l.step ++ left) start l.runner before (record { store = g.D.Store.state l.store; out = g.O.Sink.state l.out; err = g.E.Sink.state l.err });
  later : IsLater (record { store = g.D.Store.state l.fn.store; out = g.O.Sink.state l.fn.out; err = g.E.Sink.state l.fn.err }) (record { store = g.D.Store.state l.store; out = g.O.Sink.state l.out; err = g.E.Sink.state l.err });
  on : l.fn.runner.end ≡ None → l.runner.end ≡ None;
}

abbrev pub decreases-loop-made : goal.decreases-loop-made
decreases-loop-made g l = l.count - l.made
