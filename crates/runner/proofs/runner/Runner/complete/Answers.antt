use Rattle.std.proofs.Common.{◌&&◌, ap, ◌∙◌}
use Rattle.run_model.specs.OwnMoves.{stays_behind}
use Rattle.machine_laws.specs.OneMachine.{space_of_run}
use Rattle.runner_parts.specs.Counts.{Counted, one_done}
use Rattle.runner.proofs.runner.Runner.complete.Goals as goal

pub returns-clause-shows : goal.returns-clause-shows
unfolding space_of_run
returns-clause-shows c w r h =
    let counts = c.complete.ensures ∙ ap one_done h.counts in
    record {
      space = h.space;
      own = record { hart = h.own.hart; side = h.own.side; files_are = h.own.files_are; asked_is = h.own.asked_is; stalled_is = h.own.stalled_is; gathered_is = h.own.gathered_is };
      shadow = h.shadow;
      sizes = h.sizes;
      cache = h.cache;
      counts = counts;
      ahead = c.both-self.ensures ∙ (λ i. h.ahead i && (c.stays_behind.ensures ∙ ap (λ (k : Counted). stays_behind k.restarts k.own_since k.shadow_since) counts) i);
      whole = h.whole;
      end = h.end;
      notes = h.notes;
      text = h.text;
    }
