use Rattle.std.proofs.Common.{rules}
use Rattle.program_driver.proofs.Passing.{begun-Passes}
use Rattle.program_driver.proofs.schedule.Schedule.pass_rounds.Goals as goal

pub returns-clause-passes : goal.returns-clause-passes
returns-clause-passes c =
    begun-Passes c.self.inside.pattern.now c.self.inside.first c.self.inside.rest.now c.self.inside.turns c.self.inside.moves c.self.inside.own c.args.self.now c.self.invariant c.self.view_is c.if-self-ne0.false (search rules) c.min-rounds.result (search rules)
