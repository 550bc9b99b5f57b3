use Rattle.std.proofs.Common.{◌≡◌, None, inl, refl, sym, ap, ◌∙◌}
use Rattle.spec_base.specs.Word.{word_of_int}
use Rattle.rv_model.specs.Registers.{with_reg}
use Rattle.rv_model.specs.Effect.{after}
use Rattle.program_model.specs.Cache.{Cache}
use Rattle.program_model.specs.Descriptors.{Descriptors}
use Rattle.program_model.specs.PlainRun.{answered}
use Rattle.run_model.specs.Run.{Run}
use Rattle.machine_laws.specs.OneMachine.{space_of_run}
use Rattle.file_calls.specs.Plans.{changed}
use Rattle.runner.proofs.runner.Runner.answer_own.Goals as goal

pub returns-clause-shows : goal.returns-clause-shows
unfolding space_of_run
returns-clause-shows c w r h =
    let next : Run = record r { gathered = 0; own = answered (record r.own { files = changed r.own.files c.args.change.now }) c.args.value.now } in
    let none : r.cache.demanded ≡ None = sym (ap (λ (k : Cache). k.demanded) h.cache.lists_are) ∙ c.args.self.now.idle c.requires.goes in
    c.complete.ensures.shows w next (record {
      space = h.space;
      own = record {
        hart = c.answer.ensures ∙ (λ i. record (h.own.hart i) { registers = with_reg (h.own.hart i).registers 10 (word_of_int c.args.value.now); pc = after (h.own.hart i).pc });
        side = h.own.side;
        files_are = c.make.ensures ∙ ap (λ (f : Descriptors). changed f c.args.change.now) h.own.files_are;
        asked_is = h.own.asked_is;
        stalled_is = h.own.stalled_is;
        gathered_is = refl;
      };
      shadow = h.shadow;
      sizes = h.sizes;
      cache = record {
        lists_are = h.cache.lists_are;
        most = h.cache.most;
        depth = h.cache.depth;
        contents = h.cache.contents;
        gathers = inl (record { none = refl; goes = sym h.own.stalled_is ∙ c.requires.goes; undemanded = none });
      };
      counts = h.counts;
      ahead = h.ahead;
      whole = h.whole;
      end = h.end;
      notes = h.notes;
      text = h.text;
    })
