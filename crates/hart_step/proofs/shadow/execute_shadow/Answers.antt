use Rattle.std.proofs.Common.{sym, subst}
use Rattle.hart_mem.specs.Held.{space_of}
use Rattle.hart_mem.specs.Operation.{instr_of_operation}
use Rattle.hart_step.specs.Core.{core_of}
use Rattle.hart_step.specs.Step.{effect_of}
use Rattle.hart_step.specs.Flows.{core_at}
use Rattle.hart_step.specs.Strides.{Comes}
use Rattle.hart_step.specs.declared.shadow.Stride.{Stride}
use Rattle.hart_step.proofs.Strides.{comes, same-view}
use Rattle.hart_step.proofs.shadow.execute_shadow.Goals as goal

pub returns-clause-comes : goal.returns-clause-comes
returns-clause-comes c =
    let at = core_at (core_of c.args.hart.now) c.args.pc in
    let s = space_of c.args.mem.now in
    let next = core_of c.execute.new.hart in
    let there = space_of c.execute.new.mem in
    subst (λ (x : Stride). Comes x c.args.mem.now (effect_of at s (instr_of_operation c.args.operation)) at s next there) (sym c.stride_of.ensures)
    (comes c.args.mem.now at s (instr_of_operation c.args.operation) c.requires next there c.execute.result c.is_store-stores.result c.is_store-stores.ensures c.execute.ensures.told c.execute.ensures.outcome)

pub returns-clause-view : goal.returns-clause-view
returns-clause-view c =
    same-view c.args.mem.now (core_at (core_of c.args.hart.now) c.args.pc) (space_of c.args.mem.now) (instr_of_operation c.args.operation) c.requires (core_of c.execute.new.hart) (space_of c.execute.new.mem)
    c.execute.result c.execute.ensures.outcome
