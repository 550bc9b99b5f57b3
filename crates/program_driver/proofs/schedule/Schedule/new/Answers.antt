use Rattle.std.proofs.Common.{rules, ◌≡◌, ◌<◌, ◌^◌, length, subst}
use Rattle.run_model.specs.Patterns.{one_round}
use Rattle.program_driver.proofs.Passing.{round-short}
use Rattle.program_driver.proofs.schedule.Schedule.new.Goals as goal

pub round_counts-moves-requires : goal.round_counts-moves-requires
round_counts-moves-requires c =
    let same : c.args.pattern.now ≡ c.deref.result.now = search rules in
    subst (λ l. length (one_round l) < 2 ^ 63) same (round-short c.args.pattern.now c.requires)
