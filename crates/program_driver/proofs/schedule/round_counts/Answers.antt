use Rattle.std.proofs.Common.{◌≡◌, ◌∙◌, ◌*◌, ap, arith}
use Rattle.run_model.specs.Patterns.{one_round}
use Rattle.program_driver.specs.Rounds.{own_of}
use Rattle.program_driver.proofs.Passing.{item-length, item-own, owns-length}
use Rattle.program_driver.proofs.schedule.round_counts.Goals as goal

pub overflow_add-own : goal.overflow_add-own
overflow_add-own c =
    let own : c.own_among-own.result ≡ own_of c.first_item-step.result.0 * c.first_item-step.result.1 = c.own_among-own.ensures ∙ ap (λ n. own_of c.first_item-step.result.0 * n) c.from.ensures in
    omega (
      arith,
      c.loop-rest.invariant.own,
      own,
      owns-length (one_round c.args.items.now),
      c.requires,
      item-own c.first_item-step.result.0 c.first_item-step.result.1 c.loop-rest.rest.now c.first_item-step.result.2.now c.first_item-step.ensures,
    )

pub loop-rest-preserved : goal.loop-rest-preserved
loop-rest-preserved c =
    let own : c.own_among-own.result ≡ own_of c.first_item-step.result.0 * c.first_item-step.result.1 = c.own_among-own.ensures ∙ ap (λ n. own_of c.first_item-step.result.0 * n) c.from.ensures in
    record {
      moves = omega
          (arith, c.loop-rest.invariant.moves, c.from-moves.ensures, item-length c.first_item-step.result.0 c.first_item-step.result.1 c.loop-rest.rest.now c.first_item-step.result.2.now c.first_item-step.ensures);
      own = omega (arith, c.loop-rest.invariant.own, own, item-own c.first_item-step.result.0 c.first_item-step.result.1 c.loop-rest.rest.now c.first_item-step.result.2.now c.first_item-step.ensures);
    }
