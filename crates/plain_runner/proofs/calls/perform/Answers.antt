use Rattle.std.proofs.Common.{◌≡◌, IsTrue, length, take, ap, sym, ◌∙◌, subst, arith}
use Rattle.std.proofs.lemmas.List.{length-take-le}
use Rattle.spec_base.specs.Word.{word_of_int}
use Rattle.rv_model.specs.Memory.{all_from, bytes_at}
use Rattle.rv_model.specs.Registers.{reg}
use Rattle.hart_mem.specs.Held.{space_of, data_byte}
use Rattle.hart_step.specs.Core.{core_of}
use Rattle.rv_model.specs.Data.{data_in, memory_in}
use Rattle.file_calls.specs.Plans.{plan_shown, changed, made, PlanBounds, IsOnData}
use Rattle.file_calls.specs.declared.plan.PlannedCall.{PlannedCall}
use Rattle.plain_runner.specs.Runs.{Outside}
use Rattle.plain_runner.specs.Turns.{GoesOn}
use Rattle.plain_runner.specs.Outcomes.{OfferComesTo, answered_core}
use Rattle.plain_runner.proofs.CallLemmas.{planned, set-GoesOn, exit-Stops, open-TurnsTo, read-TurnsTo, offer-TurnsTo}
use Rattle.plain_runner.proofs.calls.perform.Goals as goal

pub offer-requires-clause-data : goal.offer-requires-clause-data
offer-requires-clause-data g c =
    let on = subst (λ pl. IsOnData (data_in (data_byte (space_of c.args.mem.now))) (made c.args.files.now pl)) c.in-Write.is c.plan-plan.ensures.data in
    let bounds = subst (λ pl. PlanBounds c.args.files.now (reg (core_of c.args.hart.now).registers 10) (made c.args.files.now pl)) c.in-Write.is c.plan-plan.ensures.bounds in
    let count : length (take c.in-Write.count c.args.buffer.now) ≡ c.in-Write.count = length-take-le c.in-Write.count c.args.buffer.now (omega (arith, bounds.1, c.requires.room)) in
    subst (λ n. IsTrue (all_from (data_in (data_byte (space_of c.args.mem.now))) c.in-Write.address n)) (sym count) on

pub returns-in-Set : goal.returns-in-Set
returns-in-Set g c p s shows at =
    let plan = planned p s (core_of c.args.hart.now) c.args.mem.now c.args.files.now shows (plan_shown (reg (core_of c.args.hart.now).registers 10) (made c.args.files.now c.plan-plan.result)) c.plan-plan.ensures.plan
    ∙ ap (λ (pl : PlannedCall). plan_shown (reg (core_of c.args.hart.now).registers 10) (made c.args.files.now pl)) c.in-Set.is in
    let o : Outside = record { store = g.S.Store.state c.args.store.now; out = g.O.Sink.state c.args.out.now; err = g.E.Sink.state c.args.err.now } in
    subst (λ k. GoesOn p s o k (space_of c.args.mem.now) c.settle.new.files o) (sym c.settle.ensures.hart)
    (subst (λ d. GoesOn p s o (answered_core (core_of c.args.hart.now) (word_of_int c.in-Set.value)) (space_of c.args.mem.now) d o) (sym c.settle.ensures.files)
    (set-GoesOn p s (core_of c.args.hart.now) c.args.mem.now c.args.files.now shows at (changed c.args.files.now c.in-Set.change) c.in-Set.value o plan))

pub returns-in-Open : goal.returns-in-Open
returns-in-Open g c p s shows at =
    let plan = planned p s (core_of c.args.hart.now) c.args.mem.now c.args.files.now shows (plan_shown (reg (core_of c.args.hart.now).registers 10) (made c.args.files.now c.plan-plan.result)) c.plan-plan.ensures.plan
    ∙ ap (λ (pl : PlannedCall). plan_shown (reg (core_of c.args.hart.now).registers 10) (made c.args.files.now pl)) c.in-Open.is in
    let o : Outside = record { store = g.S.Store.state c.args.store.now; out = g.O.Sink.state c.args.out.now; err = g.E.Sink.state c.args.err.now } in
    open-TurnsTo p s (core_of c.args.hart.now) c.args.mem.now c.args.files.now shows at c.in-Open.name o (g.S.Store.state c.open.new.store) (core_of c.open.new.hart) c.open.new.files c.open.result plan c.open.ensures

pub returns-in-Read : goal.returns-in-Read
returns-in-Read g c p s shows at =
    let plan = planned p s (core_of c.args.hart.now) c.args.mem.now c.args.files.now shows (plan_shown (reg (core_of c.args.hart.now).registers 10) (made c.args.files.now c.plan-plan.result)) c.plan-plan.ensures.plan
    ∙ ap (λ (pl : PlannedCall). plan_shown (reg (core_of c.args.hart.now).registers 10) (made c.args.files.now pl)) c.in-Read.is in
    let bounds = subst (λ pl. PlanBounds c.args.files.now (reg (core_of c.args.hart.now).registers 10) (made c.args.files.now pl)) c.in-Read.is c.plan-plan.ensures.bounds in
    let o : Outside = record { store = g.S.Store.state c.args.store.now; out = g.O.Sink.state c.args.out.now; err = g.E.Sink.state c.args.err.now } in
    read-TurnsTo p s (core_of c.args.hart.now) c.args.mem.now c.args.files.now shows at (reg (core_of c.args.hart.now).registers 10) c.in-Read.address c.in-Read.spot o
    (g.S.Store.state c.read.new.store) (core_of c.read.new.hart) (space_of c.read.new.mem) c.read.new.files c.read.result plan bounds.count c.read.ensures

pub returns-in-Write : goal.returns-in-Write
returns-in-Write g c p s shows at =
    let plan = planned p s (core_of c.args.hart.now) c.args.mem.now c.args.files.now shows (plan_shown (reg (core_of c.args.hart.now).registers 10) (made c.args.files.now c.plan-plan.result)) c.plan-plan.ensures.plan
    ∙ ap (λ (pl : PlannedCall). plan_shown (reg (core_of c.args.hart.now).registers 10) (made c.args.files.now pl)) c.in-Write.is in
    let bounds = subst (λ pl. PlanBounds c.args.files.now (reg (core_of c.args.hart.now).registers 10) (made c.args.files.now pl)) c.in-Write.is c.plan-plan.ensures.bounds in
    let o : Outside = record { store = g.S.Store.state c.args.store.now; out = g.O.Sink.state c.args.out.now; err = g.E.Sink.state c.args.err.now } in
    let count : length (take c.in-Write.count c.args.buffer.now) ≡ c.in-Write.count = length-take-le c.in-Write.count c.args.buffer.now (omega (arith, bounds.1, c.requires.room)) in
    let came = subst (λ n. OfferComesTo c.in-Write.to_out (bytes_at (memory_in (data_byte (space_of c.args.mem.now))) c.in-Write.address n) o.out o.err (core_of c.args.hart.now) c.offer.result (core_of c.offer.new.hart) (g.O.Sink.state c.offer.new.out) (g.E.Sink.state c.offer.new.err)) count c.offer.ensures in
    offer-TurnsTo p s (core_of c.args.hart.now) c.args.mem.now c.args.files.now shows at c.in-Write.to_out c.in-Write.address c.in-Write.count o
    (g.O.Sink.state c.offer.new.out) (g.E.Sink.state c.offer.new.err) (core_of c.offer.new.hart) c.offer.result plan bounds.1 came

pub returns-in-Exit : goal.returns-in-Exit
returns-in-Exit g c p s shows at =
    let plan = planned p s (core_of c.args.hart.now) c.args.mem.now c.args.files.now shows (plan_shown (reg (core_of c.args.hart.now).registers 10) (made c.args.files.now c.plan-plan.result)) c.plan-plan.ensures.plan
    ∙ ap (λ (pl : PlannedCall). plan_shown (reg (core_of c.args.hart.now).registers 10) (made c.args.files.now pl)) c.in-Exit.is in
    let o : Outside = record { store = g.S.Store.state c.args.store.now; out = g.O.Sink.state c.args.out.now; err = g.E.Sink.state c.args.err.now } in
    exit-Stops p s (core_of c.args.hart.now) c.args.mem.now c.args.files.now shows at c.in-Exit.code o plan
