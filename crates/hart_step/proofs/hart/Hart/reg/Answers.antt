use Rattle.hart_step.specs.Core.{core_of}
use Rattle.hart_step.proofs.Registers.{reg_of}
use Rattle.hart_step.proofs.hart.Hart.reg.Goals as goal

pub returns : goal.returns
unfolding core_of
returns c = rw (← c.self.view_is, ← c.number.ensures.number) (reg_of c.self.inside.registers c.number.result c.self.invariant)
