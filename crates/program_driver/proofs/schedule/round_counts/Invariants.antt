use Rattle.std.proofs.Common.{◌≡◌, ◌+◌, length}
use Rattle.run_model.specs.Patterns.{one_round}
use Rattle.program_driver.specs.Rounds.{owns}
use Rattle.program_driver.proofs.schedule.round_counts.Given as goal

abbrev pub invariant-loop-rest : goal.invariant-loop-rest
invariant-loop-rest l = record {
  moves : l.moves + length (one_round l.rest) ≡ length (one_round l.items);
  own : l.own + owns (one_round l.rest) ≡ owns (one_round l.items);
}

abbrev pub decreases-loop-rest : goal.decreases-loop-rest
decreases-loop-rest l = length l.rest
