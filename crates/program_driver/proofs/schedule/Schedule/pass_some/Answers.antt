use Rattle.std.proofs.Common.{◌≡◌, ◌+◌, ◌*◌, arith, subst}
use Rattle.program_driver.specs.Rounds.{own_of, Passes}
use Rattle.program_driver.proofs.Passing.{more-Passes, part-Passes}
use Rattle.program_driver.proofs.schedule.Schedule.pass_some.Goals as goal

pub returns-in-Some-clause-passes : goal.returns-in-Some-clause-passes
returns-in-Some-clause-passes c =
    let e : c.pass_rounds-passed.result + own_of c.in-Some.step * c.in-Some.count ≡ c.own_among.result = omega (arith, c.if-passed-ne0.false, c.own_among.ensures) in
    subst (λ n. Passes n c.args.self.now c.next_part.new.self) e
    (more-Passes c.pass_rounds-passed.result (own_of c.in-Some.step * c.in-Some.count) c.args.self.now c.pass_rounds-passed.new.self c.next_part.new.self c.pass_rounds-passed.ensures.passes
    (part-Passes c.in-Some.step c.in-Some.count c.pass_rounds-passed.new.self c.next_part.new.self c.in-Some.ensures.moves))
