use Rattle.std.proofs.Common.{◌≡◌, ◌&&◌, IsTrue, [], refl, sym, ap, subst, ◌∙◌}
use Rattle.spec_base.specs.Layout.{stub_start}
use Rattle.spec_base.specs.declared.machine.View.{View}
use Rattle.spec_base.specs.declared.machine.View.TheVariants.{Program}
use Rattle.rv_model.specs.Effect.{fetched}
use Rattle.program_model.specs.PlainRun.{plan_of}
use Rattle.code_model.specs.Stub.{stub}
use Rattle.run_model.specs.Run.{World, Run, Usual}
use Rattle.run_model.specs.OwnMoves.{own_in}
use Rattle.hart_step.specs.Core.{Core, core_of}
use Rattle.word_laws.specs.Shown.{is_own_view, is_performed}
use Rattle.plain_runner.specs.Runs.{Outside}
use Rattle.move_requests.specs.Asked.{is_stub, performing_asks}
use Rattle.runner.specs.Shows.{Shows}
use Rattle.runner.specs.declared.runner.Runner.{Runner}
use Rattle.runner.proofs.Moved.{shows-as, view-is}
use Rattle.runner.proofs.Outside.{hears-if, said-nothing}
use Rattle.runner.proofs.Words.{no-view}
use Rattle.runner.proofs.Causes.{still-caused}
use Rattle.runner.proofs.runner.Runner.own_word.Goals as goal

pub returns-in-Program-clause-makes : goal.returns-in-Program-clause-makes
returns-in-Program-clause-makes g c =
    let v : Runner = c.args.self.now in
    let o : Outside = record { store = g.D.Store.state c.args.store.now; out = g.O.Sink.state c.args.out.now; err = g.E.Sink.state c.args.err.now } in
    record {
      answer = Usual;
      said = [];
      told = λ files e. said-nothing files;
      files = refl;
      hears = λ w r a h.
          let view : r.view ≡ Program = view-is (core_of v.own) r Program h.own.hart (sym c.in-Program.ensures) in
          hears-if (is_stub r.view && is_performed (fetched stub stub_start r.own.pc)) (performing_asks r.own.memory (plan_of w.image.layout r.own)) o
          (λ i. is_stub (view i) && is_performed (fetched stub stub_start r.own.pc));
      shows = λ w r a h sizes said.
          let view : r.view ≡ Program = view-is (core_of v.own) r Program h.own.hart (sym c.in-Program.ensures) in
          shows-as c.program_word.new.self w _ (own_in Program w Usual r) (ap (λ (k : View). own_in k w Usual r) view) (c.program_word.ensures.shows w r Usual a h);
    }

pub returns-in_default-clause-makes : goal.returns-in_default-clause-makes
returns-in_default-clause-makes g c =
    let v : Runner = c.args.self.now in
    let none : (w : World) (r : Run) → Shows v w r → ⊥ = λ w r h.
    no-view c.view.result (subst (λ (k : View). IsTrue (is_own_view k)) (sym (c.view.ensures ∙ ap (λ (k : Core). k.view) h.own.hart)) h.own.side) c.in_default.not-Stub c.in_default.not-Program in
    record {
      answer = Usual;
      said = [];
      told = λ files e. said-nothing files;
      files = refl;
      hears = λ w r a h. absurd (none w r h);
      shows = λ w r a h sizes said. absurd (none w r h);
    }

pub returns-in-Program-clause-caused : goal.returns-in-Program-clause-caused
returns-in-Program-clause-caused g c = c.program_word.ensures.caused _

pub returns-in_default-clause-caused : goal.returns-in_default-clause-caused
returns-in_default-clause-caused g c = still-caused _ _ c.requires.on
