use Rattle.std.proofs.Common.{ℕ, Bool, sym, ap, subst, ◌∙◌}
use Rattle.program_model.specs.Calls.{call_plan}
use Rattle.rv_model.specs.Registers.{Registers, reg}
use Rattle.program_model.specs.Descriptors.{Descriptors}
use Rattle.hart_mem.specs.Held.{space_of, data_byte}
use Rattle.hart_step.specs.Core.{core_of}
use Rattle.rv_model.specs.Data.{data_in, memory_in}
use Rattle.file_calls.specs.Plans.{plan_shown, made, IsOnData}
use Rattle.runner_parts.proofs.Plans.{data-in_own, plan-in_own}
use Rattle.runner_parts.proofs.assuming.plan_of_own.Goals as goal

pub returns-clause-plan : goal.returns-clause-plan
returns-clause-plan c =
    let f : Descriptors = c.args.files.now in
    let rs : Registers = (core_of c.args.hart.now).registers in
    ap (λ (n : ℕ). plan_shown n (made c.args.files.now c.planned.result)) (sym c.argument.ensures) ∙ c.planned.ensures.plan
    ∙ (λ i. call_plan (data_in (data_byte (space_of c.args.mem.now))) (memory_in (data_byte (space_of c.args.mem.now))) f (c.argument-4.ensures i) (c.argument.ensures i) (c.argument-2.ensures i) (c.argument-3.ensures i))
    ∙ plan-in_own (space_of c.args.mem.now) f (reg rs 17) (reg rs 10) (reg rs 11) (reg rs 12)

pub returns-clause-data : goal.returns-clause-data
returns-clause-data c =
    subst (λ (t : ℕ → Bool). IsOnData t (made c.args.files.now c.planned.result)) (data-in_own (space_of c.args.mem.now)) c.planned.ensures.data
