use Rattle.std.proofs.Common.{Option, sym, ap, ◌∙◌}
use Rattle.spec_base.specs.declared.spot.BlockSpot.{BlockSpot}
use Rattle.run_model.specs.OwnMoves.{stall_notes}
use Rattle.machine_laws.specs.OneMachine.{space_of_run}
use Rattle.runner_parts.specs.Counts.{one_stall}
use Rattle.runner.proofs.runner.Runner.stall.Goals as goal

pub returns-clause-shows : goal.returns-clause-shows
unfolding space_of_run
returns-clause-shows c w r h demanded =
    record {
      space = h.space;
      own = h.own;
      shadow = h.shadow;
      sizes = h.sizes;
      cache = h.cache;
      counts = c.stall.ensures ∙ ap one_stall h.counts;
      ahead = h.ahead;
      whole = h.whole;
      end = h.end;
      notes = c.set.ensures ∙ sym (ap (λ (o : Option BlockSpot). stall_notes o) demanded);
      text = h.text;
    }
