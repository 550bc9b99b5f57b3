use Rattle.std.proofs.Common.{rules, arith, ◌/◌}
use Rattle.std.proofs.Math.Nat.{div-mul-le_self}
use Rattle.program_driver.proofs.Passing.{own-left, round-some, few-own}
use Rattle.program_driver.proofs.schedule.Schedule.own_left.Goals as goal

pub nonzero_div-result : goal.nonzero_div-result
nonzero_div-result c = omega (arith, c.self.invariant.moves_are, round-some c.self.inside.pattern.now c.self.invariant.some c.self.invariant.pattern_moves)

pub overflow_mul-result : goal.overflow_mul-result
overflow_mul-result c =
    omega
    (arith, few-own c.self.inside.pattern.now c.self.inside.rest.now c.self.inside.moves c.self.inside.own (c.self.inside.turns / c.self.inside.moves) c.self.invariant, div-mul-le_self c.self.inside.turns c.self.inside.moves, c.self.ranges)

pub returns : goal.returns
returns c =
    own-left c.self.inside.pattern.now c.self.inside.first c.self.inside.rest.now c.self.inside.turns c.self.inside.moves c.self.inside.own c.args.self.now c.self.invariant c.self.view_is c.if-self-ne0.false (search rules)
