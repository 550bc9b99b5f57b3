use Rattle.std.proofs.Common.{◌≡◌, Some, None, inl, refl, sym, ap, ◌∙◌}
use Rattle.program_model.specs.Cache.{Cache}
use Rattle.run_model.specs.Run.{Run}
use Rattle.run_model.specs.OwnMoves.{done_one}
use Rattle.machine_laws.specs.OneMachine.{space_of_run}
use Rattle.runner.proofs.runner.Runner.own_exit.Goals as goal

pub returns-clause-shows : goal.returns-clause-shows
unfolding space_of_run
returns-clause-shows c w r x h =
    let next : Run = record r { gathered = 0; own = record r.own { exited = Some c.args.code } } in
    let none : r.cache.demanded ≡ None = sym (ap (λ (k : Cache). k.demanded) h.cache.lists_are) ∙ c.args.self.now.idle c.requires.goes in
    c.stop.ensures.shows w (done_one next next.own) (c.complete.ensures.shows w next (record {
      space = h.space;
      own = record { hart = h.own.hart; side = h.own.side; files_are = h.own.files_are; asked_is = h.own.asked_is; stalled_is = h.own.stalled_is; gathered_is = refl };
      shadow = h.shadow;
      sizes = h.sizes;
      cache = record {
        lists_are = h.cache.lists_are;
        most = h.cache.most;
        depth = h.cache.depth;
        contents = h.cache.contents;
        gathers = inl (record { none = refl; goes = sym h.own.stalled_is ∙ c.requires.goes; undemanded = none });
      };
      counts = h.counts;
      ahead = h.ahead;
      whole = h.whole;
      end = h.end;
      notes = h.notes;
      text = h.text;
    }))
