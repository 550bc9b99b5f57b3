use Rattle.std.proofs.Common.{◌∙◌, ◌++◌, length, ap, sym}
use Rattle.std.specs.Prelude.{replicate}
use Rattle.spec_base.specs.declared.note.Move.TheVariants.{O}
use Rattle.run_model.specs.Patterns.{one_round}
use Rattle.program_driver.proofs.Passing.{turns-are, round-some}
use Rattle.program_driver.proofs.schedule.Schedule.count.Goals as goal

pub returns : goal.returns
returns c =
    sym
    (ap length (sym c.self.view_is)
    ∙ turns-are (one_round c.self.inside.pattern.now) (replicate c.self.inside.first O ++ one_round c.self.inside.rest.now) c.self.inside.turns (round-some c.self.inside.pattern.now c.self.invariant.some c.self.invariant.pattern_moves))
