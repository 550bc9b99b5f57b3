use Rattle.std.proofs.Common.{◌≡◌, refl, sym, ap, subst, ◌∙◌}
use Rattle.program_model.specs.Descriptors.{Descriptors}
use Rattle.program_model.specs.Calls.{CallPlan}
use Rattle.program_model.specs.PlainRun.{plan_of}
use Rattle.run_model.specs.OwnMoves.{restart_notes}
use Rattle.rv_model.specs.Registers.{reg}
use Rattle.machine_laws.specs.OneMachine.{space_of_run}
use Rattle.hart_step.specs.Core.{Core, core_of}
use Rattle.mark_laws.specs.Sizes.{TrueSizes}
use Rattle.file_calls.specs.Plans.{plan_shown, made}
use Rattle.word_laws.specs.OwnWords.{restarted_from}
use Rattle.runner_parts.specs.Counts.{one_restart}
use Rattle.runner_parts.specs.Parts.{own_side}
use Rattle.runner_parts.specs.Plans.{plan_in_data}
use Rattle.runner.proofs.Moved.{cache-at_rest}
use Rattle.runner.proofs.runner.Runner.restart.Goals as goal

pub returns-clause-shows : goal.returns-clause-shows
unfolding space_of_run
returns-clause-shows c w r h rest sizes =
    let plan : plan_shown (reg (core_of c.args.self.now.own).registers 10) (made c.args.self.now.own_files c.plan_of_own-plan.result) ≡ plan_of w.image.layout r.own =
    c.plan_of_own-plan.ensures.plan ∙ (λ i. plan_in_data (h.space i) (h.own.files_are i) (h.own.hart i).registers) in
    record {
      space = h.space;
      own = record { hart = h.own.hart; side = h.own.side; files_are = h.own.files_are; asked_is = refl; stalled_is = h.own.stalled_is; gathered_is = h.own.gathered_is };
      shadow = record {
        view = ap (λ (d : Core). d.view) c.set_pc.ensures ∙ h.shadow.view;
        registers = ap (λ (d : Core). d.registers) c.set_pc.ensures ∙ h.shadow.registers;
        pc = ap (λ (d : Core). d.pc) c.set_pc.ensures;
        files_are = h.own.files_are;
        state_is = refl;
      };
      sizes = subst (λ (f : Descriptors). TrueSizes w.files f) (sym h.own.files_are) sizes;
      cache = cache-at_rest w (own_side r) (own_side (restarted_from w r)) r.cache c.args.self.now.cache c.args.self.now.staging.items h.cache rest refl refl;
      counts = c.restart.ensures ∙ ap one_restart h.counts;
      ahead = refl;
      whole = refl;
      end = h.end;
      notes = c.tell_restart.ensures (reg (core_of c.args.self.now.own).registers 10) c.args.self.now.own_files ∙ ap (λ (p : CallPlan). restart_notes p) plan;
      text = h.text;
    }
