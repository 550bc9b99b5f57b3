use Rattle.std.proofs.Common.{◌≡◌, arith, refl}
use Rattle.rv_model.specs.Registers.{with_reg}
use Rattle.hart_step.specs.Core.{core_of, registers_of}
use Rattle.hart_step.proofs.Registers.{registers_reset}
use Rattle.hart_step.proofs.hart.Hart.set_reg.Goals as goal

pub returns : goal.returns
unfolding core_of
returns c =
    let n = c.number.result in
    let e : registers_of _ ≡ with_reg (registers_of c.self.inside.registers) n c.args.value =
    registers_reset c.self.inside.registers n c.args.value c.self.invariant (omega arith) in
    rw (← c.self.view_is, ← c.number.ensures.number, e) refl
