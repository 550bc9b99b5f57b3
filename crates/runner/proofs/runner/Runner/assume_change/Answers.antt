use Rattle.std.proofs.Common.{sym, subst}
use Rattle.spec_base.specs.Word.{word_of_int}
use Rattle.rv_model.specs.Registers.{with_reg}
use Rattle.rv_model.specs.Effect.{after}
use Rattle.program_model.specs.Descriptors.{Descriptors}
use Rattle.machine_laws.specs.OneMachine.{space_of_run}
use Rattle.mark_laws.specs.Sizes.{TrueSizes}
use Rattle.hart_step.specs.Core.{core_of}
use Rattle.file_calls.specs.Plans.{changed}
use Rattle.runner_parts.specs.Parts.{ShowsHart}
use Rattle.runner_parts.proofs.Harts.{answered}
use Rattle.runner.proofs.runner.Runner.assume_change.Goals as goal

pub returns-clause-shows : goal.returns-clause-shows
unfolding space_of_run
returns-clause-shows c w r h k =
    let g : Descriptors = changed c.args.self.now.shadow_files c.args.change.now in
    record {
      space = h.space;
      own = h.own;
      shadow =
          subst
          (λ (f : Descriptors). ShowsHart (record r.shadow { files = g; registers = with_reg r.shadow.registers 10 (word_of_int c.args.value.now); pc = after r.shadow.pc }) (core_of c.answer.new.self) f c.args.self.now.state)
          (sym c.make.ensures)
          (answered r.shadow (core_of c.args.self.now.shadow) (core_of c.answer.new.self) c.args.self.now.shadow_files g c.args.self.now.state c.from_low_bits.result c.word_of.result (word_of_int c.args.value.now) h.shadow
          c.answer.ensures c.from_low_bits.ensures c.word_of.ensures);
      sizes = subst (λ (f : Descriptors). TrueSizes w.files f) (sym c.make.ensures) k;
      cache = h.cache;
      counts = h.counts;
      ahead = h.ahead;
      whole = h.whole;
      end = h.end;
      notes = h.notes;
      text = h.text;
    }
