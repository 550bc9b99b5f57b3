use Rattle.std.proofs.Common.{◌≡◌, false, ◌&&◌, [], refl, sym, ap, subst, ◌∙◌, arith}
use Rattle.spec_base.specs.Layout.{stub_start}
use Rattle.spec_base.specs.declared.machine.View.{View}
use Rattle.spec_base.specs.declared.machine.View.TheVariants.{Stub}
use Rattle.rv_decode.specs.declared.instr.Instr.TheVariants.{Hcall}
use Rattle.rv_model.specs.Effect.{fetched}
use Rattle.rv_model.specs.Space.{Space}
use Rattle.program_model.specs.Calls.{CallPlan, key_of}
use Rattle.program_model.specs.PlainRun.{plan_of}
use Rattle.code_model.specs.Stub.{stub}
use Rattle.run_model.specs.Run.{World, Run, Usual}
use Rattle.run_model.specs.OwnMoves.{own_in, own_wrote, own_call_step}
use Rattle.run_laws.specs.OwnLaws.{Accepted}
use Rattle.machine_laws.specs.OneMachine.{space_of_run}
use Rattle.mark_laws.specs.Agreement.{HasAll}
use Rattle.mark_laws.proofs.Sizes.{states_find_all}
use Rattle.hart_mem.specs.Held.{Held, space_of, spare_of}
use Rattle.hart_step.specs.Core.{Core, core_of}
use Rattle.hart_step.specs.declared.event.Event.TheVariants as event
use Rattle.word_laws.specs.Shown.{own_core, with_own, is_performed}
use Rattle.word_laws.specs.OwnWords.{shadow_stopped, restarted_from, trapped, StubGoes, MeetsGate}
use Rattle.plain_runner.specs.Runs.{Outside}
use Rattle.move_requests.specs.Asked.{is_stub, performing_asks}
use Rattle.runner_parts.specs.Parts.{IsAtRest, own_side}
use Rattle.runner_parts.specs.Plans.{plan_in_data}
use Rattle.runner_parts.specs.Requests.{IsAnswered}
use Rattle.runner.specs.Shows.{Shows}
use Rattle.runner.specs.declared.runner.Runner.{Runner}
use Rattle.runner.proofs.Moved.{shows-as, view-is}
use Rattle.runner.proofs.Outside.{hears-if, hears-on, said-nothing}
use Rattle.runner.proofs.Words.{stub-goes, stub-rests, own-after, cache-after, rests-after, hart-stays, space-stays, meets-call, no_other_in_stub, and-false}
use Rattle.runner.proofs.Causes.{still-caused, trap-caused}
use Rattle.runner.proofs.runner.Runner.stub_word.Goals as goal

pub returns-in-Done-clause-makes : goal.returns-in-Done-clause-makes
unfolding space_of_run
returns-in-Done-clause-makes g c =
    let v : Runner = c.args.self.now in
    let new : Core = core_of c.step.new.hart in
    let t : Space = space_of c.step.new.mem in
    let o : Outside = record { store = g.D.Store.state c.args.store.now; out = g.O.Sink.state c.args.out.now; err = g.E.Sink.state c.args.err.now } in
    record {
      answer = Usual;
      said = [];
      told = λ files e. said-nothing files;
      files = refl;
      hears = λ w r a h.
          let goes : StubGoes event.Done w r new t = stub-goes v w r a h c.requires.stub event.Done new t c.in-Done.ensures.outcome in
          hears-if (is_stub r.view && is_performed (fetched stub stub_start r.own.pc)) (performing_asks r.own.memory (plan_of w.image.layout r.own)) o
          (and-false (is_stub r.view) (is_performed (fetched stub stub_start r.own.pc)) goes.calls);
      shows = λ w r a h sizes said.
          let view : r.view ≡ Stub = view-is (core_of v.own) r Stub h.own.hart c.requires.stub in
          let goes : StubGoes event.Done w r new t = stub-goes v w r a h c.requires.stub event.Done new t c.in-Done.ensures.outcome in
          let rest : IsAtRest (own_side r) r.cache = stub-rests v w r a h goes.calls in
          shows-as _ w _ (with_own r new t) (ap (λ (k : View). own_in k w Usual r) view ∙ goes.leads Usual) (record {
            space = goes.space;
            own = own-after v w r new t h goes.side;
            shadow = h.shadow;
            sizes = h.sizes;
            cache = cache-after v w r new t h rest;
            counts = h.counts;
            ahead = h.ahead;
            whole = h.whole;
            end = h.end;
            notes = h.notes;
            text = h.text;
          });
    }

pub returns-in-Leave-clause-makes : goal.returns-in-Leave-clause-makes
unfolding space_of_run
returns-in-Leave-clause-makes g c =
    let v : Runner = c.args.self.now in
    let new : Core = core_of c.step.new.hart in
    let t : Space = space_of c.step.new.mem in
    let o : Outside = record { store = g.D.Store.state c.args.store.now; out = g.O.Sink.state c.args.out.now; err = g.E.Sink.state c.args.err.now } in
    record {
      answer = Usual;
      said = [];
      told = λ files e. said-nothing files;
      files = refl;
      hears = λ w r a h.
          let goes : StubGoes event.Leave w r new t = stub-goes v w r a h c.requires.stub event.Leave new t c.in-Leave.ensures.outcome in
          hears-if (is_stub r.view && is_performed (fetched stub stub_start r.own.pc)) (performing_asks r.own.memory (plan_of w.image.layout r.own)) o
          (and-false (is_stub r.view) (is_performed (fetched stub stub_start r.own.pc)) goes.calls);
      shows = λ w r a h sizes said.
          let view : r.view ≡ Stub = view-is (core_of v.own) r Stub h.own.hart c.requires.stub in
          let goes : StubGoes event.Leave w r new t = stub-goes v w r a h c.requires.stub event.Leave new t c.in-Leave.ensures.outcome in
          let rest : IsAtRest (own_side r) r.cache = stub-rests v w r a h goes.calls in
          shows-as _ w _ (with_own r new t) (ap (λ (k : View). own_in k w Usual r) view ∙ goes.leads Usual) (record {
            space = goes.space;
            own = own-after v w r new t h goes.side;
            shadow = h.shadow;
            sizes = h.sizes;
            cache = cache-after v w r new t h rest;
            counts = h.counts;
            ahead = h.ahead;
            whole = h.whole;
            end = h.end;
            notes = h.notes;
            text = h.text;
          });
    }

pub returns-in-Key-clause-makes : goal.returns-in-Key-clause-makes
unfolding space_of_run
returns-in-Key-clause-makes g c =
    let v : Runner = c.args.self.now in
    let new : Core = core_of c.step.new.hart in
    let t : Space = space_of c.step.new.mem in
    let o : Outside = record { store = g.D.Store.state c.args.store.now; out = g.O.Sink.state c.args.out.now; err = g.E.Sink.state c.args.err.now } in
    record {
      answer = Usual;
      said = [];
      told = λ files e. said-nothing files;
      files = refl;
      hears = λ w r a h.
          let goes : StubGoes (event.Key c.in-Key.rd) w r new t = stub-goes v w r a h c.requires.stub (event.Key c.in-Key.rd) new t c.in-Key.ensures.outcome in
          hears-if (is_stub r.view && is_performed (fetched stub stub_start r.own.pc)) (performing_asks r.own.memory (plan_of w.image.layout r.own)) o
          (and-false (is_stub r.view) (is_performed (fetched stub stub_start r.own.pc)) goes.calls);
      shows = λ w r a h sizes said.
          let view : r.view ≡ Stub = view-is (core_of v.own) r Stub h.own.hart c.requires.stub in
          let goes : StubGoes (event.Key c.in-Key.rd) w r new t = stub-goes v w r a h c.requires.stub (event.Key c.in-Key.rd) new t c.in-Key.ensures.outcome in
          let rest : IsAtRest (own_side r) r.cache = stub-rests v w r a h goes.calls in
          let meets = goes.leads in
          let rd = c.in-Key.rd in
          let next : Run = with_own r new t in
          shows-as c.own_key.new.self w _ (own_wrote next rd (key_of (plan_of w.image.layout next.own)))
          (ap (λ (k : View). own_in k w Usual r) view ∙ meets.moves Usual ∙ ap (λ (k : Run). own_wrote k rd (key_of (plan_of w.image.layout k.own))) (sym meets.same))
          (c.own_key.ensures.shows w next (record {
            space = goes.space;
            own = own-after v w r new t h goes.side;
            shadow = h.shadow;
            sizes = h.sizes;
            cache = cache-after v w r new t h rest;
            counts = h.counts;
            ahead = h.ahead;
            whole = h.whole;
            end = h.end;
            notes = h.notes;
            text = h.text;
          }) (rests-after r new t rest));
    }

pub returns-in-Stop-clause-makes : goal.returns-in-Stop-clause-makes
unfolding space_of_run
returns-in-Stop-clause-makes g c =
    let v : Runner = c.args.self.now in
    let new : Core = core_of c.step.new.hart in
    let t : Space = space_of c.step.new.mem in
    let o : Outside = record { store = g.D.Store.state c.args.store.now; out = g.O.Sink.state c.args.out.now; err = g.E.Sink.state c.args.err.now } in
    record {
      answer = Usual;
      said = [];
      told = λ files e. said-nothing files;
      files = refl;
      hears = λ w r a h.
          let goes : StubGoes event.Stop w r new t = stub-goes v w r a h c.requires.stub event.Stop new t c.in-Stop.ensures.outcome in
          hears-if (is_stub r.view && is_performed (fetched stub stub_start r.own.pc)) (performing_asks r.own.memory (plan_of w.image.layout r.own)) o
          (and-false (is_stub r.view) (is_performed (fetched stub stub_start r.own.pc)) goes.calls);
      shows = λ w r a h sizes said.
          let view : r.view ≡ Stub = view-is (core_of v.own) r Stub h.own.hart c.requires.stub in
          let goes : StubGoes event.Stop w r new t = stub-goes v w r a h c.requires.stub event.Stop new t c.in-Stop.ensures.outcome in
          let rest : IsAtRest (own_side r) r.cache = stub-rests v w r a h goes.calls in
          shows-as _ w _ (shadow_stopped (with_own r new t)) (ap (λ (k : View). own_in k w Usual r) view ∙ goes.leads Usual) (record {
            space = goes.space;
            own = own-after v w r new t h goes.side;
            shadow = record { view = h.shadow.view; registers = h.shadow.registers; pc = h.shadow.pc; files_are = h.shadow.files_are; state_is = refl };
            sizes = h.sizes;
            cache = cache-after v w r new t h rest;
            counts = h.counts;
            ahead = h.ahead;
            whole = h.whole;
            end = h.end;
            notes = h.notes;
            text = h.text;
          });
    }

pub returns-in-Restart-clause-makes : goal.returns-in-Restart-clause-makes
unfolding space_of_run
returns-in-Restart-clause-makes g c =
    let v : Runner = c.args.self.now in
    let new : Core = core_of c.step.new.hart in
    let t : Space = space_of c.step.new.mem in
    let o : Outside = record { store = g.D.Store.state c.args.store.now; out = g.O.Sink.state c.args.out.now; err = g.E.Sink.state c.args.err.now } in
    record {
      answer = Usual;
      said = [];
      told = λ files e. said-nothing files;
      files = refl;
      hears = λ w r a h.
          let goes : StubGoes event.Restart w r new t = stub-goes v w r a h c.requires.stub event.Restart new t c.in-Restart.ensures.outcome in
          hears-if (is_stub r.view && is_performed (fetched stub stub_start r.own.pc)) (performing_asks r.own.memory (plan_of w.image.layout r.own)) o
          (and-false (is_stub r.view) (is_performed (fetched stub stub_start r.own.pc)) goes.calls);
      shows = λ w r a h sizes said.
          let view : r.view ≡ Stub = view-is (core_of v.own) r Stub h.own.hart c.requires.stub in
          let goes : StubGoes event.Restart w r new t = stub-goes v w r a h c.requires.stub event.Restart new t c.in-Restart.ensures.outcome in
          let rest : IsAtRest (own_side r) r.cache = stub-rests v w r a h goes.calls in
          let next : Run = with_own r new t in
          shows-as c.restart.new.self w _ (restarted_from w next) (ap (λ (k : View). own_in k w Usual r) view ∙ goes.leads Usual)
          (c.restart.ensures.shows w next (record {
            space = goes.space;
            own = own-after v w r new t h goes.side;
            shadow = h.shadow;
            sizes = h.sizes;
            cache = cache-after v w r new t h rest;
            counts = h.counts;
            ahead = h.ahead;
            whole = h.whole;
            end = h.end;
            notes = h.notes;
            text = h.text;
          }) (rests-after r new t rest) sizes);
    }

pub returns-in-Trap-clause-makes : goal.returns-in-Trap-clause-makes
unfolding space_of_run
returns-in-Trap-clause-makes g c =
    let v : Runner = c.args.self.now in
    let new : Core = core_of c.step.new.hart in
    let t : Space = space_of c.step.new.mem in
    let o : Outside = record { store = g.D.Store.state c.args.store.now; out = g.O.Sink.state c.args.out.now; err = g.E.Sink.state c.args.err.now } in
    record {
      answer = Usual;
      said = [];
      told = λ files e. said-nothing files;
      files = refl;
      hears = λ w r a h.
          let goes : StubGoes (event.Trap c.in-Trap.cause) w r new t = stub-goes v w r a h c.requires.stub (event.Trap c.in-Trap.cause) new t c.in-Trap.ensures.outcome in
          hears-if (is_stub r.view && is_performed (fetched stub stub_start r.own.pc)) (performing_asks r.own.memory (plan_of w.image.layout r.own)) o
          (and-false (is_stub r.view) (is_performed (fetched stub stub_start r.own.pc)) goes.calls);
      shows = λ w r a h sizes said.
          let view : r.view ≡ Stub = view-is (core_of v.own) r Stub h.own.hart c.requires.stub in
          let goes : StubGoes (event.Trap c.in-Trap.cause) w r new t = stub-goes v w r a h c.requires.stub (event.Trap c.in-Trap.cause) new t c.in-Trap.ensures.outcome in
          let rest : IsAtRest (own_side r) r.cache = stub-rests v w r a h goes.calls in
          let next : Run = with_own r new t in
          shows-as c.trap.new.self w _ (trapped next c.in-Trap.cause new.pc) (ap (λ (k : View). own_in k w Usual r) view ∙ goes.leads Usual)
          (c.trap.ensures.shows w next (record {
            space = goes.space;
            own = own-after v w r new t h goes.side;
            shadow = h.shadow;
            sizes = h.sizes;
            cache = cache-after v w r new t h rest;
            counts = h.counts;
            ahead = h.ahead;
            whole = h.whole;
            end = h.end;
            notes = h.notes;
            text = h.text;
          }));
    }

pub returns-in-Call-clause-makes : goal.returns-in-Call-clause-makes
unfolding space_of_run
returns-in-Call-clause-makes g c =
    let v : Runner = c.args.self.now in
    let new : Core = core_of c.step.new.hart in
    let t : Space = space_of c.step.new.mem in
    let o : Outside = record { store = g.D.Store.state c.args.store.now; out = g.O.Sink.state c.args.out.now; err = g.E.Sink.state c.args.err.now } in
    let n : Outside = record { store = g.D.Store.state c.own_call.new.store; out = g.O.Sink.state c.own_call.new.out; err = g.E.Sink.state c.own_call.new.err } in
    let p = c.own_call.ensures.performs in
    record {
      answer = p.answer;
      said = p.said;
      told = p.told;
      files = p.files;
      hears = λ w r a h.
          let view : r.view ≡ Stub = view-is (core_of v.own) r Stub h.own.hart c.requires.stub in
          let goes : StubGoes (event.Call c.in-Call.field-0) w r new t = stub-goes v w r a h c.requires.stub (event.Call c.in-Call.field-0) new t c.in-Call.ensures.outcome in
          let meets : MeetsGate (Hcall false) w r new t = meets-call w r new t c.in-Call.field-0 goes.leads in
          let hart : new ≡ own_core r = hart-stays w r new t meets.same in
          let space : t ≡ space_of_run w r = space-stays w r new t meets.same goes.space in
          let plan : plan_in_data t v.own_files new.registers ≡ plan_of w.image.layout r.own = (λ i. plan_in_data (space i) (h.own.files_are i) (hart i).registers) in
          hears-on (is_stub r.view && is_performed (fetched stub stub_start r.own.pc)) (performing_asks r.own.memory (plan_of w.image.layout r.own)) p.answer o n
          (λ i. is_stub (view i) && is_performed (meets.word i)) (subst (λ (k : CallPlan). IsAnswered (performing_asks r.own.memory k) p.answer o n) plan (p.hears w r (record {
            space = space;
            own = record { hart = hart; side = h.own.side; files_are = h.own.files_are; asked_is = h.own.asked_is; stalled_is = h.own.stalled_is; gathered_is = h.own.gathered_is };
            shadow = h.shadow;
            sizes = h.sizes;
            cache = h.cache;
            counts = h.counts;
            ahead = h.ahead;
            whole = h.whole;
            end = h.end;
            notes = h.notes;
            text = h.text;
          })));
      shows = λ w r a h sizes said.
          let view : r.view ≡ Stub = view-is (core_of v.own) r Stub h.own.hart c.requires.stub in
          let goes : StubGoes (event.Call c.in-Call.field-0) w r new t = stub-goes v w r a h c.requires.stub (event.Call c.in-Call.field-0) new t c.in-Call.ensures.outcome in
          let meets : MeetsGate (Hcall false) w r new t = meets-call w r new t c.in-Call.field-0 goes.leads in
          let hart : new ≡ own_core r = hart-stays w r new t meets.same in
          let space : t ≡ space_of_run w r = space-stays w r new t meets.same goes.space in
          let plan : plan_in_data t v.own_files new.registers ≡ plan_of w.image.layout r.own = (λ i. plan_in_data (space i) (h.own.files_are i) (hart i).registers) in
          let all : HasAll w.files (plan_of w.image.layout r.own) = states_find_all w.files w.image.layout r.own sizes in
          shows-as c.own_call.new.self w _ (own_call_step w p.answer r (plan_of w.image.layout r.own)) (ap (λ (k : View). own_in k w p.answer r) view ∙ meets.moves p.answer)
          (subst (λ (k : CallPlan). Shows c.own_call.new.self w (own_call_step w p.answer r k)) plan
          (p.shows w r (record {
            space = space;
            own = record { hart = hart; side = h.own.side; files_are = h.own.files_are; asked_is = h.own.asked_is; stalled_is = h.own.stalled_is; gathered_is = h.own.gathered_is };
            shadow = h.shadow;
            sizes = h.sizes;
            cache = h.cache;
            counts = h.counts;
            ahead = h.ahead;
            whole = h.whole;
            end = h.end;
            notes = h.notes;
            text = h.text;
          }) (record { in_stub = view; at_call = meets.word; planned = sym plan; goes = sym h.own.stalled_is ∙ c.requires.goes }) (subst (λ (k : CallPlan). HasAll w.files k) (sym plan) all) said));
    }

pub own_call-requires-clause-spare : goal.own_call-requires-clause-spare
own_call-requires-clause-spare g c =
    let same : c.step.new.mem ≡ c.args.self.now.mem = c.in-Call.ensures.memory (λ e. cc) in
    omega (arith, ap (λ (m : Held). spare_of m) same, c.requires.spare)

pub returns-in_default-clause-makes : goal.returns-in_default-clause-makes
returns-in_default-clause-makes g c =
    let v : Runner = c.args.self.now in
    let new : Core = core_of c.step.new.hart in
    let t : Space = space_of c.step.new.mem in
    let none : (w : World) (r : Run) → Accepted w → Shows v w r → ⊥ = λ w r a h.
    no_other_in_stub w r new t c.step.result c.in_default.not-Done c.in_default.not-Leave c.in_default.not-Key c.in_default.not-Stop c.in_default.not-Restart c.in_default.not-Trap c.in_default.not-Call
    (stub-goes v w r a h c.requires.stub c.step.result new t c.step.ensures.outcome).leads in
    record {
      answer = Usual;
      said = [];
      told = λ files e. said-nothing files;
      files = refl;
      hears = λ w r a h. absurd (none w r a h);
      shows = λ w r a h sizes said. absurd (none w r a h);
    }

pub returns-in-Done-clause-caused : goal.returns-in-Done-clause-caused
returns-in-Done-clause-caused g c = still-caused _ _ c.requires.on

pub returns-in-Leave-clause-caused : goal.returns-in-Leave-clause-caused
returns-in-Leave-clause-caused g c = still-caused _ _ c.requires.on

pub returns-in-Key-clause-caused : goal.returns-in-Key-clause-caused
returns-in-Key-clause-caused g c = still-caused _ _ (c.own_key.ensures.end ∙ c.requires.on)

pub returns-in-Stop-clause-caused : goal.returns-in-Stop-clause-caused
returns-in-Stop-clause-caused g c = still-caused _ _ c.requires.on

pub returns-in-Restart-clause-caused : goal.returns-in-Restart-clause-caused
returns-in-Restart-clause-caused g c = still-caused _ _ (c.restart.ensures.end ∙ c.requires.on)

pub returns-in-Trap-clause-caused : goal.returns-in-Trap-clause-caused
returns-in-Trap-clause-caused g c = trap-caused _ c.in-Trap.cause _ _ c.trap.ensures.end

pub returns-in-Call-clause-caused : goal.returns-in-Call-clause-caused
returns-in-Call-clause-caused g c = c.own_call.ensures.caused

pub returns-in_default-clause-caused : goal.returns-in_default-clause-caused
returns-in_default-clause-caused g c = still-caused _ _ c.requires.on

pub trap-requires : goal.trap-requires
trap-requires g c = record { goes = c.requires.on }

pub own_call-requires-clause-begun : goal.own_call-requires-clause-begun
own_call-requires-clause-begun g c = c.requires.begun

pub own_call-requires-clause-quiet : goal.own_call-requires-clause-quiet
own_call-requires-clause-quiet g c = c.requires.quiet

pub own_call-requires-clause-on : goal.own_call-requires-clause-on
own_call-requires-clause-on g c = c.requires.on

pub own_call-requires-clause-goes : goal.own_call-requires-clause-goes
own_call-requires-clause-goes g c = c.requires.goes

pub returns-in-Done-clause-moves : goal.returns-in-Done-clause-moves
returns-in-Done-clause-moves g c = refl

pub returns-in-Leave-clause-moves : goal.returns-in-Leave-clause-moves
returns-in-Leave-clause-moves g c = refl

pub returns-in-Key-clause-moves : goal.returns-in-Key-clause-moves
returns-in-Key-clause-moves g c = c.own_key.ensures.moves

pub returns-in-Stop-clause-moves : goal.returns-in-Stop-clause-moves
returns-in-Stop-clause-moves g c = refl

pub returns-in-Restart-clause-moves : goal.returns-in-Restart-clause-moves
returns-in-Restart-clause-moves g c = c.restart.ensures.moves

pub returns-in-Trap-clause-moves : goal.returns-in-Trap-clause-moves
returns-in-Trap-clause-moves g c = c.trap.ensures.moves

pub returns-in-Call-clause-moves : goal.returns-in-Call-clause-moves
returns-in-Call-clause-moves g c = c.own_call.ensures.moves

pub returns-in_default-clause-moves : goal.returns-in_default-clause-moves
returns-in_default-clause-moves g c = refl
