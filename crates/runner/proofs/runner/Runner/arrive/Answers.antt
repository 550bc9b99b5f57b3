use Rattle.std.proofs.Common.{sym, ap, ◌∙◌}
use Rattle.machine_laws.specs.OneMachine.{space_of_run}
use Rattle.runner_parts.specs.Counts.{one_arrival}
use Rattle.runner.proofs.Arrivals.{stays, has_arrived, arrival-test}
use Rattle.runner.proofs.runner.Runner.arrive.Goals as goal

pub returns-then-arrives-clause-shows : goal.returns-then-arrives-clause-shows
unfolding space_of_run
returns-then-arrives-clause-shows c w r h =
    has_arrived _ w r (arrival-test c.args.self.now w r h ∙ sym c.arrives.ensures ∙ c.if-arrives.true)
    (record {
      space = h.space;
      own = h.own;
      shadow = h.shadow;
      sizes = h.sizes;
      cache = h.cache;
      counts = c.arrive.ensures ∙ ap one_arrival h.counts;
      ahead = h.ahead;
      whole = h.whole;
      end = h.end;
      notes = h.notes;
      text = h.text;
    })

pub returns-else-arrives-clause-shows : goal.returns-else-arrives-clause-shows
returns-else-arrives-clause-shows c w r h =
    stays _ w r (arrival-test c.args.self.now w r h ∙ sym c.arrives.ensures ∙ c.if-arrives.false)
    (record { space = h.space; own = h.own; shadow = h.shadow; sizes = h.sizes; cache = h.cache; counts = h.counts; ahead = h.ahead; whole = h.whole; end = h.end; notes = h.notes; text = h.text })
