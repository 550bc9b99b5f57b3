use Rattle.std.proofs.Common.{◌∙◌, sym, arith}
use Rattle.program_driver.proofs.Passing.{part-whole, part-cut, items-HasMoves}
use Rattle.program_driver.proofs.schedule.Schedule.next_part.Goals as goal

pub returns-then-self-count-clause-moves : goal.returns-then-self-count-clause-moves
returns-then-self-count-clause-moves c =
    sym c.self.view_is
    ∙ part-cut c.self.inside.pattern.now c.self.inside.first c.self.inside.rest.now c.next_moves-step.result.2.now c.next_moves-step.result.0 c.next_moves-step.result.1 c.self.inside.turns c.next_moves-step.ensures
    (items-HasMoves c.self.inside.pattern.now c.self.inside.first c.self.inside.rest.now c.next_moves-step.result.2.now c.next_moves-step.result.0 c.next_moves-step.result.1 c.next_moves-step.ensures c.self.invariant.pattern_moves c.self.invariant.item_moves).0 (omega (arith, c.if-self-count.true, c.taken-count.ensures.few))

pub invariant_of-self-2 : goal.invariant_of-self-2
invariant_of-self-2 c = record {
  some = c.self.invariant.some;
  pattern_moves = c.self.invariant.pattern_moves;
  item_moves = (items-HasMoves c.self.inside.pattern.now c.self.inside.first c.self.inside.rest.now c.next_moves-step.result.2.now c.next_moves-step.result.0 c.next_moves-step.result.1 c.next_moves-step.ensures c.self.invariant.pattern_moves c.self.invariant.item_moves).1;
  moves_are = c.self.invariant.moves_are;
  own_are = c.self.invariant.own_are;
}

pub returns-clause-moves : goal.returns-clause-moves
returns-clause-moves c =
    sym c.self.view_is
    ∙ part-whole c.self.inside.pattern.now c.self.inside.first c.self.inside.rest.now c.next_moves-step.result.2.now c.next_moves-step.result.0 c.next_moves-step.result.1 c.taken-count.result c.self.inside.turns c.next_moves-step.ensures
    (items-HasMoves c.self.inside.pattern.now c.self.inside.first c.self.inside.rest.now c.next_moves-step.result.2.now c.next_moves-step.result.0 c.next_moves-step.result.1 c.next_moves-step.ensures c.self.invariant.pattern_moves c.self.invariant.item_moves).0 c.taken-count.ensures.few c.taken-count.ensures.others (omega (arith, c.if-self-count.false))

pub returns-clause-some : goal.returns-clause-some
returns-clause-some c most =
    c.taken-count.ensures.some most (items-HasMoves c.self.inside.pattern.now c.self.inside.first c.self.inside.rest.now c.next_moves-step.result.2.now c.next_moves-step.result.0 c.next_moves-step.result.1 c.next_moves-step.ensures c.self.invariant.pattern_moves c.self.invariant.item_moves).0
