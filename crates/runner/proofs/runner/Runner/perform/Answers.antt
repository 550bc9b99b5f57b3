use Rattle.std.proofs.Common.{◌≡◌, ℕ, Bool, IsTrue, [], length, refl, sym, ap, subst, ◌∙◌}
use Rattle.rv_model.specs.Memory.{all_from, bytes_at}
use Rattle.rv_model.specs.Registers.{reg}
use Rattle.rv_model.specs.Rights.{is_data}
use Rattle.rv_model.specs.Space.{Space}
use Rattle.rv_model.proofs.DataLemmas.{bytes_at-length}
use Rattle.program_model.specs.Calls.{CallPlan, Set, Look, Read, Write, Exit}
use Rattle.program_model.specs.Descriptors.{Descriptors}
use Rattle.run_model.specs.Run.{Answer, Usual}
use Rattle.run_model.specs.OwnMoves.{own_call_step}
use Rattle.hart_mem.specs.Held.{space_of}
use Rattle.hart_mem.proofs.DataBytes.{data-is}
use Rattle.hart_step.specs.Core.{Core, core_of}
use Rattle.world_io.specs.Looks.{look_failed}
use Rattle.plain_runner.specs.Runs.{Outside}
use Rattle.move_requests.specs.Asked.{performing_asks}
use Rattle.file_calls.specs.declared.plan.PlannedCall.{PlannedCall}
use Rattle.file_calls.specs.Plans.{plan_shown, made, changed, IsOnData}
use Rattle.runner_parts.specs.Answers.{failed_if}
use Rattle.runner_parts.specs.Heard.{said_by_look}
use Rattle.runner_parts.specs.OwnCalls.{put_answer, TakesSome}
use Rattle.runner_parts.specs.Requests.{IsAnswered}
use Rattle.runner.proofs.Outside.{hears-nothing, hears-look, hears-put, said-nothing}
use Rattle.runner.proofs.Moved.{shows-as}
use Rattle.runner.proofs.Causes.{still-caused, exit-caused}
use Rattle.runner.proofs.runner.Runner.perform.Goals as goal

pub returns-in-Set-clause-performs : goal.returns-in-Set-clause-performs
returns-in-Set-clause-performs g c =
    let d : ℕ = reg (core_of c.args.self.now.own).registers 10 in
    let f : Descriptors = c.args.self.now.own_files in
    let o : Outside = record { store = g.D.Store.state c.args.store.now; out = g.O.Sink.state c.args.out.now; err = g.E.Sink.state c.args.err.now } in
    let planned : plan_shown d (made f c.args.plan.now) ≡ Set (changed f c.in-Set.change) c.in-Set.value = ap (λ (p : PlannedCall). plan_shown d (made f p)) c.in-Set.is in
    record {
      answer = Usual;
      said = [];
      told = λ files e. said-nothing files;
      files = refl;
      hears = λ w r h. subst (λ (p : CallPlan). IsAnswered (performing_asks r.own.memory p) Usual o o) (sym planned) (hears-nothing o);
      shows = λ w r h at all said.
          let now : plan_shown d (made f c.args.plan.now) ≡ Set (changed r.own.files c.in-Set.change) c.in-Set.value =
          planned ∙ ap (λ (f : Descriptors). Set (changed f c.in-Set.change) c.in-Set.value) h.own.files_are in
          shows-as _ w _ (own_call_step w Usual r (Set (changed r.own.files c.in-Set.change) c.in-Set.value)) (ap (λ (p : CallPlan). own_call_step w Usual r p) now) (c.own_set.ensures.shows w r Usual h);
    }

pub returns-in-Open-clause-performs : goal.returns-in-Open-clause-performs
returns-in-Open-clause-performs g c =
    let d : ℕ = reg (core_of c.args.self.now.own).registers 10 in
    let f : Descriptors = c.args.self.now.own_files in
    let o : Outside = record { store = g.D.Store.state c.args.store.now; out = g.O.Sink.state c.args.out.now; err = g.E.Sink.state c.args.err.now } in
    let n : Outside = record { store = g.D.Store.state c.own_look.new.store; out = g.O.Sink.state c.args.out.now; err = g.E.Sink.state c.args.err.now } in
    let x : Answer = failed_if (look_failed c.own_look.result) in
    let planned : plan_shown d (made f c.args.plan.now) ≡ Look c.in-Open.name = ap (λ (p : PlannedCall). plan_shown d (made f p)) c.in-Open.is in
    record {
      answer = x;
      said = said_by_look c.in-Open.name c.own_look.result;
      told = c.own_look.ensures.told;
      files = c.own_look.ensures.log.keeps.files;
      hears = λ w r h.
          subst (λ (p : CallPlan). IsAnswered (performing_asks r.own.memory p) x o n) (sym planned) (hears-look c.in-Open.name c.own_look.result o n c.own_look.ensures.log refl refl);
      shows = λ w r h at all said.
          shows-as _ w _ (own_call_step w x r (Look c.in-Open.name)) (ap (λ (p : CallPlan). own_call_step w x r p) planned) (c.own_look.ensures.shows w r h said);
    }

pub returns-in-Read-clause-performs : goal.returns-in-Read-clause-performs
returns-in-Read-clause-performs g c =
    let d : ℕ = reg (core_of c.args.self.now.own).registers 10 in
    let f : Descriptors = c.args.self.now.own_files in
    let o : Outside = record { store = g.D.Store.state c.args.store.now; out = g.O.Sink.state c.args.out.now; err = g.E.Sink.state c.args.err.now } in
    let planned : plan_shown d (made f c.args.plan.now) ≡ Read d c.in-Read.spot c.in-Read.address = ap (λ (p : PlannedCall). plan_shown d (made f p)) c.in-Read.is in
    record {
      answer = Usual;
      said = [];
      told = λ files e. said-nothing files;
      files = refl;
      hears = λ w r h. subst (λ (p : CallPlan). IsAnswered (performing_asks r.own.memory p) Usual o o) (sym planned) (hears-nothing o);
      shows = λ w r h at all said.
          let b : ℕ = reg r.own.registers 10 in
          let now : plan_shown d (made f c.args.plan.now) ≡ Read b c.in-Read.spot c.in-Read.address =
          planned ∙ ap (λ (k : Core). Read (reg k.registers 10) c.in-Read.spot c.in-Read.address) h.own.hart in
          shows-as _ w _ (own_call_step w Usual r (Read b c.in-Read.spot c.in-Read.address)) (ap (λ (p : CallPlan). own_call_step w Usual r p) now)
          (c.own_read.ensures.shows w r Usual h (record { in_stub = at.in_stub; at_call = at.at_call; planned = at.planned ∙ now; goes = at.goes }) (all b c.in-Read.spot c.in-Read.address now));
    }

pub returns-in-Write-clause-performs : goal.returns-in-Write-clause-performs
returns-in-Write-clause-performs g c =
    let d : ℕ = reg (core_of c.args.self.now.own).registers 10 in
    let f : Descriptors = c.args.self.now.own_files in
    let to : Bool = c.in-Write.to_out in
    let a : ℕ = c.in-Write.address in
    let count : ℕ = c.in-Write.count in
    let o : Outside = record { store = g.D.Store.state c.args.store.now; out = g.O.Sink.state c.args.out.now; err = g.E.Sink.state c.args.err.now } in
    let n : Outside = record { store = g.D.Store.state c.args.store.now; out = g.O.Sink.state c.own_write.new.out; err = g.E.Sink.state c.own_write.new.err } in
    let x : Answer = put_answer c.own_write.result in
    let planned : plan_shown d (made f c.args.plan.now) ≡ Write to a count = ap (λ (p : PlannedCall). plan_shown d (made f p)) c.in-Write.is in
    record {
      answer = x;
      said = [];
      told = λ files e. said-nothing files;
      files = refl;
      hears = λ w r h.
          let some : TakesSome (length (bytes_at r.own.memory a count)) c.own_write.result =
          subst (λ (k : ℕ). TakesSome k c.own_write.result) (sym (bytes_at-length r.own.memory a count)) c.own_write.ensures.taken in
          subst (λ (p : CallPlan). IsAnswered (performing_asks r.own.memory p) x o n) (sym planned)
          (hears-put to (bytes_at r.own.memory a count) c.own_write.result o n refl some (c.own_write.ensures.offers w r h));
      shows = λ w r h at all said.
          shows-as _ w _ (own_call_step w x r (Write to a count)) (ap (λ (p : CallPlan). own_call_step w x r p) planned)
          (c.own_write.ensures.shows w r h (record { in_stub = at.in_stub; at_call = at.at_call; planned = at.planned ∙ planned; goes = at.goes }));
    }

pub returns-in-Exit-clause-performs : goal.returns-in-Exit-clause-performs
returns-in-Exit-clause-performs g c =
    let d : ℕ = reg (core_of c.args.self.now.own).registers 10 in
    let f : Descriptors = c.args.self.now.own_files in
    let o : Outside = record { store = g.D.Store.state c.args.store.now; out = g.O.Sink.state c.args.out.now; err = g.E.Sink.state c.args.err.now } in
    let planned : plan_shown d (made f c.args.plan.now) ≡ Exit c.in-Exit.code = ap (λ (p : PlannedCall). plan_shown d (made f p)) c.in-Exit.is in
    record {
      answer = Usual;
      said = [];
      told = λ files e. said-nothing files;
      files = refl;
      hears = λ w r h. subst (λ (p : CallPlan). IsAnswered (performing_asks r.own.memory p) Usual o o) (sym planned) (hears-nothing o);
      shows = λ w r h at all said.
          shows-as _ w _ (own_call_step w Usual r (Exit c.in-Exit.code)) (ap (λ (p : CallPlan). own_call_step w Usual r p) planned) (c.own_exit.ensures.shows w r Usual h);
    }

pub own_write-requires-clause-data : goal.own_write-requires-clause-data
own_write-requires-clause-data g c =
    let sp : Space = space_of c.args.self.now.mem in
    let a : ℕ = c.in-Write.address in
    let n : ℕ = c.in-Write.count in
    let on : IsTrue (all_from (is_data sp.layout) a n) = subst (λ (p : PlannedCall). IsOnData (is_data sp.layout) (made c.args.self.now.own_files p)) c.in-Write.is c.requires.data in
    subst (λ (t : ℕ → Bool). IsTrue (all_from t a n)) (sym (data-is sp)) on

pub returns-in-Set-clause-caused : goal.returns-in-Set-clause-caused
returns-in-Set-clause-caused g c = still-caused _ _ (c.own_set.ensures.end ∙ c.requires.on)

pub returns-in-Open-clause-caused : goal.returns-in-Open-clause-caused
returns-in-Open-clause-caused g c = c.own_look.ensures.caused (g.O.Sink.state c.args.out.now) (g.E.Sink.state c.args.err.now)

pub returns-in-Read-clause-caused : goal.returns-in-Read-clause-caused
returns-in-Read-clause-caused g c = still-caused _ _ (c.own_read.ensures.end ∙ c.requires.on)

pub returns-in-Write-clause-caused : goal.returns-in-Write-clause-caused
returns-in-Write-clause-caused g c = c.own_write.ensures.caused (g.D.Store.state c.args.store.now)

pub returns-in-Exit-clause-caused : goal.returns-in-Exit-clause-caused
returns-in-Exit-clause-caused g c = exit-caused _ c.in-Exit.code _ c.own_exit.ensures.end
