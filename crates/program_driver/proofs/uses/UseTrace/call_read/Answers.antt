use Rattle.std.proofs.Common.{◌∙◌, Bool, ap, sym, suc}
use Rattle.spec_base.specs.Listed.{is_listed}
use Rattle.rv_model.specs.Registers.{reg}
use Rattle.hart_step.specs.Core.{core_of}
use Rattle.hart_mem.specs.Held.{space_of}
use Rattle.program_driver.proofs.CallReads.{plan_mark, call-mark, own-plan, planned-none, planned-read}
use Rattle.program_driver.proofs.uses.UseTrace.call_read.Goals as goal

pub returns-in_default : goal.returns-in_default
returns-in_default c w r shows keeps =
    let f : Bool = is_listed r.since.filled (suc r.since.own) in
    planned-none f (reg (core_of c.own.result.now).registers 10) c.own_files.result.now c.plan_of_own-plan.result c.in_default.not-Read
    ∙ ap (plan_mark f) (c.plan_of_own-plan.ensures.plan ∙ own-plan w r (space_of c.mem.result.now) c.own_files.result.now (core_of c.own.result.now) (c.mem.ensures w r shows) (c.own_files.ensures w r shows) (c.own.ensures w r shows))
    ∙ sym (call-mark f w.image.layout r.own)

pub returns-then-contains : goal.returns-then-contains
returns-then-contains c w r shows keeps =
    let f : Bool = is_listed r.since.filled (suc r.since.own) in
    let number = c.own_since.ensures w r shows in
    planned-read f _ (reg (core_of c.own.result.now).registers 10) c.own_files.result.now c.plan_of_own-plan.result c.in-Read.spot c.in-Read.address c.in-Read.is
    (sym c.if-contains.true ∙ c.contains.ensures ∙ keeps c.own_since.result ∙ ap (λ n. is_listed r.since.filled (suc n)) number)
    ∙ ap (plan_mark f) (c.plan_of_own-plan.ensures.plan ∙ own-plan w r (space_of c.mem.result.now) c.own_files.result.now (core_of c.own.result.now) (c.mem.ensures w r shows) (c.own_files.ensures w r shows) (c.own.ensures w r shows))
    ∙ sym (call-mark f w.image.layout r.own)

pub returns-else-contains : goal.returns-else-contains
returns-else-contains c w r shows keeps =
    let f : Bool = is_listed r.since.filled (suc r.since.own) in
    let number = c.own_since.ensures w r shows in
    planned-read f _ (reg (core_of c.own.result.now).registers 10) c.own_files.result.now c.plan_of_own-plan.result c.in-Read.spot c.in-Read.address c.in-Read.is
    (sym c.if-contains.false ∙ c.contains.ensures ∙ keeps c.own_since.result ∙ ap (λ n. is_listed r.since.filled (suc n)) number)
    ∙ ap (plan_mark f) (c.plan_of_own-plan.ensures.plan ∙ own-plan w r (space_of c.mem.result.now) c.own_files.result.now (core_of c.own.result.now) (c.mem.ensures w r shows) (c.own_files.ensures w r shows) (c.own.ensures w r shows))
    ∙ sym (call-mark f w.image.layout r.own)
