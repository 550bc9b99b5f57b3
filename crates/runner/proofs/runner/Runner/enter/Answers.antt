use Rattle.std.proofs.Common.{false, refl}
use Rattle.run_model.specs.Moves.{begun}
use Rattle.machine_laws.specs.OneMachine.{space_of_run}
use Rattle.runner_parts.specs.Parts.{own_side}
use Rattle.runner.specs.Shows.{Shows}
use Rattle.runner.proofs.Moved.{cache-at_rest}
use Rattle.runner.proofs.runner.Runner.enter.Goals as goal

pub returns-clause-shows : goal.returns-clause-shows
unfolding space_of_run
returns-clause-shows c w r gate h rest =
    let old : Shows c.begin.new.self w (begun r) = c.begin.ensures.shows w r h in
    record {
      space = old.space;
      own = record { hart = old.own.hart; side = old.own.side; files_are = old.own.files_are; asked_is = refl; stalled_is = old.own.stalled_is; gathered_is = old.own.gathered_is };
      shadow = old.shadow;
      sizes = old.sizes;
      cache = cache-at_rest w (own_side (begun r)) (own_side (record (begun r) { at_gate = gate; asked = false })) r.cache c.begin.new.self.cache c.begin.new.self.staging.items old.cache
          (record { none = rest.none; goes = rest.goes; undemanded = rest.undemanded }) refl refl;
      counts = old.counts;
      ahead = old.ahead;
      whole = old.whole;
      end = old.end;
      notes = old.notes;
      text = old.text;
    }
