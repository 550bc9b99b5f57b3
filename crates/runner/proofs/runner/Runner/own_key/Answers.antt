use Rattle.std.proofs.Common.{◌≡◌, refl, ◌∙◌}
use Rattle.rv_model.specs.Registers.{with_reg}
use Rattle.rv_model.specs.Effect.{after}
use Rattle.program_model.specs.Calls.{key_of}
use Rattle.program_model.specs.PlainRun.{plan_of}
use Rattle.run_model.specs.Run.{Run}
use Rattle.run_model.specs.OwnMoves.{own_wrote}
use Rattle.machine_laws.specs.OneMachine.{space_of_run}
use Rattle.runner_parts.specs.Parts.{own_side}
use Rattle.runner_parts.specs.Plans.{plan_in_data}
use Rattle.runner.proofs.Moved.{cache-at_rest}
use Rattle.runner.proofs.runner.Runner.own_key.Goals as goal

pub returns-clause-shows : goal.returns-clause-shows
unfolding space_of_run
returns-clause-shows c w r h rest =
    let key : c.key_of_own-key.result ≡ key_of (plan_of w.image.layout r.own) =
    c.key_of_own-key.ensures ∙ (λ i. key_of (plan_in_data (h.space i) (h.own.files_are i) (h.own.hart i).registers)) in
    let next : Run = own_wrote r c.args.rd (key_of (plan_of w.image.layout r.own)) in
    record {
      space = h.space;
      own = record {
        hart = c.answer.ensures ∙ (λ i. record (h.own.hart i) { registers = with_reg (h.own.hart i).registers c.args.rd (key i); pc = after (h.own.hart i).pc });
        side = h.own.side;
        files_are = h.own.files_are;
        asked_is = h.own.asked_is;
        stalled_is = h.own.stalled_is;
        gathered_is = h.own.gathered_is;
      };
      shadow = h.shadow;
      sizes = h.sizes;
      cache = cache-at_rest w (own_side r) (own_side next) r.cache c.args.self.now.cache c.args.self.now.staging.items h.cache rest refl refl;
      counts = h.counts;
      ahead = h.ahead;
      whole = h.whole;
      end = h.end;
      notes = h.notes;
      text = h.text;
    }
