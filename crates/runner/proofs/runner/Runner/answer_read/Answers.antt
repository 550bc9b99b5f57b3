use Rattle.std.proofs.Common.{◌≡◌, ◌≤◌, ℕ, pos, None, inl, refl, sym, ap, subst, ◌∙◌}
use Rattle.spec_base.specs.Word.{word_of_int}
use Rattle.rv_model.specs.Registers.{reg, with_reg}
use Rattle.rv_model.specs.Effect.{after}
use Rattle.program_model.specs.Cache.{Cache}
use Rattle.program_model.specs.Calls.{after_read}
use Rattle.program_model.specs.Descriptors.{slot}
use Rattle.program_model.specs.PlainRun.{answered}
use Rattle.run_model.specs.Run.{Run}
use Rattle.machine_laws.specs.OneMachine.{space_of_run}
use Rattle.hart_step.specs.Core.{Core}
use Rattle.file_calls.specs.Plans.{left}
use Rattle.runner.proofs.runner.Runner.answer_read.Goals as goal

pub read_on-requires : goal.read_on-requires
read_on-requires c = subst (λ (d : ℕ). c.args.spot.now.count ≤ left (slot c.args.self.now.own_files d)) (sym c.argument-descriptor.ensures) c.requires.bounds.left

pub returns-clause-shows : goal.returns-clause-shows
unfolding space_of_run
returns-clause-shows c w r h =
    let count : ℕ = c.args.spot.now.count in
    let descriptor : c.argument-descriptor.result ≡ reg r.own.registers 10 = c.argument-descriptor.ensures ∙ ap (λ (k : Core). reg k.registers 10) h.own.hart in
    let next : Run = record r { gathered = 0; own = answered (record r.own { files = after_read r.own.files (reg r.own.registers 10) count }) (pos count) } in
    let none : r.cache.demanded ≡ None = sym (ap (λ (k : Cache). k.demanded) h.cache.lists_are) ∙ c.args.self.now.idle c.requires.goes in
    c.complete.ensures.shows w next (record {
      space = h.space;
      own = record {
        hart = c.answer_with.ensures ∙ (λ i. record (h.own.hart i) { registers = with_reg (h.own.hart i).registers 10 (word_of_int (pos count)); pc = after (h.own.hart i).pc });
        side = h.own.side;
        files_are = c.read_on.ensures ∙ (λ i. after_read (h.own.files_are i) (descriptor i) count);
        asked_is = h.own.asked_is;
        stalled_is = h.own.stalled_is;
        gathered_is = refl;
      };
      shadow = h.shadow;
      sizes = h.sizes;
      cache = record {
        lists_are = h.cache.lists_are;
        most = h.cache.most;
        depth = h.cache.depth;
        contents = h.cache.contents;
        gathers = inl (record { none = refl; goes = sym h.own.stalled_is ∙ c.requires.goes; undemanded = none });
      };
      counts = h.counts;
      ahead = h.ahead;
      whole = h.whole;
      end = h.end;
      notes = h.notes;
      text = h.text;
    })
