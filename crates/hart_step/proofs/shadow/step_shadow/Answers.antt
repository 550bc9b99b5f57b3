use Rattle.std.proofs.Common.{subst, sym}
use Rattle.spec_base.specs.declared.machine.View.TheVariants.{Shadow}
use Rattle.rv_model.specs.Effect.{Effect}
use Rattle.hart_mem.specs.Held.{space_of}
use Rattle.hart_mem.specs.Operation.{instr_of_operation}
use Rattle.hart_step.specs.Core.{core_of}
use Rattle.hart_step.specs.Flows.{core_at}
use Rattle.hart_step.specs.Strides.{Comes}
use Rattle.hart_step.proofs.Executions.{here-is}
use Rattle.hart_step.proofs.Strides.{none-comes}
use Rattle.hart_step.proofs.shadow.step_shadow.Goals as goal

pub returns-in-Some-clause-comes : goal.returns-in-Some-clause-comes
returns-in-Some-clause-comes c =
    let at = core_at (core_of c.args.hart.now) c.args.pc in
    let s = space_of c.args.mem.now in
    subst (λ (e : Effect). Comes c.execute_shadow.result c.args.mem.now e at s (core_of c.execute_shadow.new.hart) (space_of c.execute_shadow.new.mem))
    (here-is at s Shadow (sym c.requires) (instr_of_operation c.in-Some.operation) c.in-Some.ensures) c.execute_shadow.ensures.comes

pub returns-in-None-clause-comes : goal.returns-in-None-clause-comes
returns-in-None-clause-comes c =
    none-comes (core_at (core_of c.args.hart.now) c.args.pc) (space_of c.args.mem.now) c.args.mem.now (core_of c.set_pc.new.self) c.requires c.in-None.ensures c.set_pc.ensures
