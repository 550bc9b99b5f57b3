use Rattle.std.proofs.Common.{◌≡◌, ◌≢◌, ◌+◌, ◌-◌, ◌≤◌, None}
use Rattle.run_model.specs.Run.{World, Run}
use Rattle.run_laws.specs.OwnLaws.{Accepted}
use Rattle.runner.specs.ShadowGoes.{AreCounted}
use Rattle.runner.specs.Shows.{Shows}
use Rattle.runner.specs.Stretches.{MakesShadowWords}
use Rattle.runner.proofs.runner.Runner.go_shadow.Given as goal

-- so many words are made
abbrev pub invariant-loop-made : goal.invariant-loop-made
invariant-loop-made l = record {
  most : l.made ≤ l.most;
  on : l.self.end ≡ None;
  end : l.self.end ≡ l.fn.self.end;
  counted : l.made ≢ 0 → AreCounted l.self;
  moves : l.self.counts.moves ≡ l.fn.self.counts.moves + l.made;
  makes : (w : World) (r : Run) → Accepted w → Shows l.fn.self w r → MakesShadowWords l.made l.self w r;
}

abbrev pub decreases-loop-made : goal.decreases-loop-made
decreases-loop-made l = l.most - l.made
