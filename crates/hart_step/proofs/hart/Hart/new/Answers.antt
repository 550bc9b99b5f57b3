use Rattle.std.proofs.Common.{refl}
use Rattle.hart_step.specs.Core.{core_of}
use Rattle.hart_step.proofs.Registers.{registers_zero}
use Rattle.hart_step.proofs.hart.Hart.new.Goals as goal

pub returns : goal.returns
unfolding core_of
returns c = rw (registers_zero 32) refl
