use Rattle.std.proofs.Common.{sym, ◌≡◌, ◌∙◌, Some, None}
use Rattle.runner.proofs.MovesMade.{made-silent}
use Rattle.runner.proofs.Causes.{same-later, fault-cause}
use Rattle.runner.proofs.runner.Runner.go.Goals as goal

pub returns-in-Some-clause-makes : goal.returns-in-Some-clause-makes
returns-in-Some-clause-makes g c made = made-silent c.args.step c.in-Some.end _ _ _ c.in-Some.is c.fall_silent.ensures.shows

pub returns-in-Some-clause-later : goal.returns-in-Some-clause-later
returns-in-Some-clause-later g c = same-later _

pub returns-in-Some-clause-end : goal.returns-in-Some-clause-end
returns-in-Some-clause-end g c = c.fall_silent.ensures.end ∙ c.in-Some.is

pub returns-in-Some-clause-ended : goal.returns-in-Some-clause-ended
returns-in-Some-clause-ended g c on = absurd (let none : None ≡ Some c.in-Some.end = sym on ∙ c.in-Some.is in cc)

pub returns-in-None-clause-later : goal.returns-in-None-clause-later
returns-in-None-clause-later g c = c.go_on.ensures.caused.later

pub returns-in-None-clause-cause : goal.returns-in-None-clause-cause
returns-in-None-clause-cause g c = fault-cause c.go_on.result c.go_on.new.self.end _ _ c.go_on.ensures.end c.go_on.ensures.caused

pub returns-in-None-clause-ended : goal.returns-in-None-clause-ended
returns-in-None-clause-ended g c on = c.go_on.ensures.caused.cause
