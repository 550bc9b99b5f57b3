use Rattle.std.proofs.Common.{◌≡◌, sym, subst, ◌∙◌}
use Rattle.rv_model.specs.Registers.{reg}
use Rattle.program_model.specs.Calls.{CallPlan}
use Rattle.run_model.specs.OwnMoves.{own_call_step}
use Rattle.machine_laws.specs.OneMachine.{space_of_run}
use Rattle.mark_laws.specs.Agreement.{HasAll}
use Rattle.hart_mem.specs.Held.{space_of}
use Rattle.hart_step.specs.Core.{core_of}
use Rattle.plain_runner.specs.Runs.{Outside}
use Rattle.move_requests.specs.Asked.{performing_asks}
use Rattle.file_calls.specs.Plans.{plan_shown, made}
use Rattle.runner_parts.specs.Plans.{plan_in_data}
use Rattle.runner_parts.specs.Requests.{IsAnswered}
use Rattle.runner.specs.Shows.{Shows}
use Rattle.runner.proofs.runner.Runner.own_call.Goals as goal

pub returns-clause-performs : goal.returns-clause-performs
unfolding space_of_run
returns-clause-performs g c =
    let o : Outside = record { store = g.D.Store.state c.args.store.now; out = g.O.Sink.state c.args.out.now; err = g.E.Sink.state c.args.err.now } in
    let n : Outside = record { store = g.D.Store.state c.perform.new.store; out = g.O.Sink.state c.perform.new.out; err = g.E.Sink.state c.perform.new.err } in
    let p = c.perform.ensures.performs in
    let plan : plan_shown (reg (core_of c.args.self.now.own).registers 10) (made c.args.self.now.own_files c.plan_of_own-plan.result)
    ≡ plan_in_data (space_of c.args.self.now.mem) c.args.self.now.own_files (core_of c.args.self.now.own).registers = c.plan_of_own-plan.ensures.plan in
    record {
      answer = p.answer;
      said = p.said;
      told = p.told;
      files = p.files;
      hears = λ w r h.
          subst (λ (k : CallPlan). IsAnswered (performing_asks r.own.memory k) p.answer o n) plan
          (p.hears w r (record { space = h.space; own = h.own; shadow = h.shadow; sizes = h.sizes; cache = h.cache; counts = h.counts; ahead = h.ahead; whole = h.whole; end = h.end; notes = h.notes; text = h.text }));
      shows = λ w r h at all said.
          subst (λ (k : CallPlan). Shows c.perform.new.self w (own_call_step w p.answer r k)) plan
          (p.shows w r (record { space = h.space; own = h.own; shadow = h.shadow; sizes = h.sizes; cache = h.cache; counts = h.counts; ahead = h.ahead; whole = h.whole; end = h.end; notes = h.notes; text = h.text })
          (record { in_stub = at.in_stub; at_call = at.at_call; planned = at.planned ∙ sym plan; goes = at.goes }) (subst (λ (k : CallPlan). HasAll w.files k) (sym plan) all) said);
    }
