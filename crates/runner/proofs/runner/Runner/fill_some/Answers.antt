use Rattle.std.proofs.Common.{◌≡◌, ◌-◌, Bool, sym, subst, ◌∙◌}
use Rattle.rv_model.specs.Space.{Space}
use Rattle.code_model.specs.Tables.{AreConsistent}
use Rattle.program_model.specs.Calls.{bytes_read}
use Rattle.machine_laws.specs.OneMachine.{space_of_run}
use Rattle.hart_mem.specs.Held.{space_of}
use Rattle.cache_queue.specs.State.{lists}
use Rattle.runner_parts.specs.Fillings.{can_fill, filled_if, fill_notes}
use Rattle.runner.proofs.Filled.{filled_run, fill-is, filled-space}
use Rattle.runner.proofs.Moved.{shows-as}
use Rattle.runner.proofs.runner.Runner.fill_some.Goals as goal

pub returns-clause-shows : goal.returns-clause-shows
unfolding space_of_run
returns-clause-shows c w r h long ok =
    let spot = c.args.spot.now in
    let s : Space = space_of c.args.self.now.mem in
    let here : AreConsistent s.layout s.shared = subst (λ (t : Space). AreConsistent t.layout t.shared) (sym h.space) ok in
    let b : Bool = can_fill r.cache (space_of_run w r) spot c.args.address (spot.count - 1) in
    let same : can_fill (lists c.args.self.now.cache) s spot c.args.address (spot.count - 1) ≡ b = (λ i. can_fill (h.cache.lists_are i) (h.space i) spot c.args.address (spot.count - 1)) in
    shows-as _ w _ (filled_run b w spot c.args.address r) (fill-is w spot c.args.address r c.requires.some)
    (record {
      space = c.fill_held.ensures.filled w.files h.cache.contents long here ∙ (λ i. filled_if (same i) (h.space i) c.args.address (bytes_read w.files spot)) ∙ filled-space b w spot c.args.address r;
      own = h.own;
      shadow = h.shadow;
      sizes = h.sizes;
      cache = h.cache;
      counts = h.counts;
      ahead = h.ahead;
      whole = h.whole;
      end = h.end;
      notes = c.fill_held.ensures.tells ∙ (λ i. fill_notes (same i) spot (h.notes i));
      text = h.text;
    })
