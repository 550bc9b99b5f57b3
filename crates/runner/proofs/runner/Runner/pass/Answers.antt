use Rattle.std.proofs.Common.{◌≡◌, ◌≢◌, ℕ, zero, suc, ◌+◌, refl, ap, ◌∙◌}
use Rattle.run_model.specs.Run.{Run}
use Rattle.run_model.specs.Moves.{silent}
use Rattle.machine_laws.specs.OneMachine.{space_of_run}
use Rattle.runner_parts.specs.Counts.{more_moves}
use Rattle.runner_parts.specs.Idle.{idle_for}
use Rattle.runner.specs.Shows.{Shows}
use Rattle.runner.proofs.Moved.{shows-as}
use Rattle.runner.proofs.runner.Runner.pass.Goals as goal

some : (n : ℕ) (r : Run) → n ≢ 0 → idle_for n r ≡ record (silent r) { moves = r.moves + n }
some zero r h = absurd (h refl)
some (suc n) r h = refl

pub returns-then-moves-ne0-clause-shows : goal.returns-then-moves-ne0-clause-shows
unfolding space_of_run
returns-then-moves-ne0-clause-shows c w r old =
    let h : Shows c.fall_silent.new.self w (silent r) = c.fall_silent.ensures.shows w r old in
    shows-as _ w _ (record (silent r) { moves = r.moves + c.args.moves }) (some c.args.moves r c.if-moves-ne0.true) (record {
      space = h.space;
      own = h.own;
      shadow = h.shadow;
      sizes = h.sizes;
      cache = h.cache;
      counts = c.pass.ensures ∙ ap (more_moves c.args.moves) h.counts;
      ahead = h.ahead;
      whole = h.whole;
      end = h.end;
      notes = h.notes;
      text = h.text;
    })
