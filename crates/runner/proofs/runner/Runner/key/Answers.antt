use Rattle.std.proofs.Common.{ap, ◌∙◌}
use Rattle.rv_model.specs.Registers.{with_reg}
use Rattle.rv_model.specs.Effect.{after}
use Rattle.program_model.specs.Calls.{key_of}
use Rattle.machine_laws.specs.OneMachine.{space_of_run}
use Rattle.hart_step.specs.Core.{Core, core_of}
use Rattle.runner_parts.specs.Plans.{plan_in_copies}
use Rattle.runner.proofs.runner.Runner.key.Goals as goal

pub returns-clause-shows : goal.returns-clause-shows
unfolding space_of_run
returns-clause-shows c w r h =
    let old : Core = core_of c.args.self.now.shadow in
    record {
      space = h.space;
      own = h.own;
      shadow =
          record {
            view = ap (λ (d : Core). d.view) c.answer.ensures ∙ h.shadow.view;
            registers =
                ap (λ (d : Core). d.registers) c.answer.ensures
                ∙ (λ i. with_reg (h.shadow.registers i) c.args.rd
                ((c.key_of_shadow-key.ensures ∙ (λ j. key_of (plan_in_copies (h.space j) (h.shadow.files_are j) (h.shadow.registers j)))) i));
            pc = ap (λ (d : Core). d.pc) c.answer.ensures ∙ ap after h.shadow.pc;
            files_are = h.shadow.files_are;
            state_is = h.shadow.state_is;
          };
      sizes = h.sizes;
      cache = h.cache;
      counts = h.counts;
      ahead = h.ahead;
      whole = h.whole;
      end = h.end;
      notes = h.notes;
      text = h.text;
    }
