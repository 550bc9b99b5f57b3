use Rattle.std.proofs.Common.{◌≡◌, ap, sym, subst, ◌∙◌}
use Rattle.rv_model.specs.Effect.{Effect}
use Rattle.hart_mem.specs.Held.{space_of, lacks_frame}
use Rattle.hart_mem.specs.Operation.{instr_of_operation}
use Rattle.hart_step.specs.Core.{core_of}
use Rattle.hart_step.specs.Step.{Outcome, stepped, effect_of}
use Rattle.hart_step.specs.Flows.{core_at, flow_outcome}
use Rattle.hart_step.specs.declared.flow.Flow.{Flow}
use Rattle.hart_step.proofs.Executions.{here-is}
use Rattle.hart_step.proofs.Starved.{starved, never_starved}
use Rattle.hart_step.proofs.stepping.step_at.Goals as goal

pub returns-in-Some-clause-starved : goal.returns-in-Some-clause-starved
returns-in-Some-clause-starved g c e =
    let h = core_at (core_of c.args.hart.now) c.args.pc in
    let s = space_of c.args.mem.now in
    let told = ap (λ (f : Flow). (flow_outcome f (core_of c.execute.new.hart) (space_of c.execute.new.mem)).event) e in
    starved h s (core_of c.args.hart.now).view c.args.mem.now (effect_of h s (instr_of_operation c.in-Some.operation)) (sym told ∙ ap (λ (o : Outcome). o.event) c.execute.ensures.outcome)

pub returns-in-Some-clause-never : goal.returns-in-Some-clause-never
returns-in-Some-clause-never g c none e =
    let h = core_at (core_of c.args.hart.now) c.args.pc in
    let s = space_of c.args.mem.now in
    let told = ap (λ (f : Flow). (flow_outcome f (core_of c.execute.new.hart) (space_of c.execute.new.mem)).event) e in
    never_starved h s (core_of c.args.hart.now).view c.args.mem.now (effect_of h s (instr_of_operation c.in-Some.operation)) none (sym told ∙ ap (λ (o : Outcome). o.event) c.execute.ensures.outcome)

pub returns-in-Some-clause-outcome : goal.returns-in-Some-clause-outcome
returns-in-Some-clause-outcome g c =
    let h = core_at (core_of c.args.hart.now) c.args.pc in
    let s = space_of c.args.mem.now in
    subst (λ (e : Effect). flow_outcome c.execute.result (core_of c.execute.new.hart) (space_of c.execute.new.mem) ≡ stepped (lacks_frame (core_of c.args.hart.now).view c.args.mem.now) e h s)
    (here-is h s c.args.view c.requires (instr_of_operation c.in-Some.operation) c.in-Some.ensures) c.execute.ensures.outcome

pub returns-in-Some-clause-told : goal.returns-in-Some-clause-told
returns-in-Some-clause-told g c = c.execute.ensures.told

pub returns-in-Some-clause-memory : goal.returns-in-Some-clause-memory
returns-in-Some-clause-memory g c = c.execute.ensures.memory

pub returns-in-Some-clause-uses : goal.returns-in-Some-clause-uses
returns-in-Some-clause-uses g c = c.execute.ensures.uses

pub returns-in-Some-clause-kept : goal.returns-in-Some-clause-kept
returns-in-Some-clause-kept g c = c.execute.ensures.kept
