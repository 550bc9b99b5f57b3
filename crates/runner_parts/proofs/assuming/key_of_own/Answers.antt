use Rattle.std.proofs.Common.{ap, ◌∙◌}
use Rattle.program_model.specs.Calls.{CallPlan, call_plan, key_of}
use Rattle.rv_model.specs.Registers.{Registers, reg}
use Rattle.program_model.specs.Descriptors.{Descriptors}
use Rattle.hart_mem.specs.Held.{space_of, data_byte}
use Rattle.hart_step.specs.Core.{core_of}
use Rattle.rv_model.specs.Data.{data_in, memory_in}
use Rattle.runner_parts.proofs.Plans.{plan-in_own}
use Rattle.runner_parts.proofs.assuming.key_of_own.Goals as goal

pub returns : goal.returns
returns c =
    let f : Descriptors = c.args.files.now in
    let rs : Registers = (core_of c.args.hart.now).registers in
    c.key.ensures
    ∙ ap (λ (p : CallPlan). key_of p)
    ((λ i. call_plan (data_in (data_byte (space_of c.args.mem.now))) (memory_in (data_byte (space_of c.args.mem.now))) f (c.argument-4.ensures i) (c.argument.ensures i) (c.argument-2.ensures i) (c.argument-3.ensures i))
    ∙ plan-in_own (space_of c.args.mem.now) f (reg rs 17) (reg rs 10) (reg rs 11) (reg rs 12))
