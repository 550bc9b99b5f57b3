use Rattle.std.proofs.Common.{◌≡◌, ◌≢◌, ℕ, zero, suc, ◌+◌, ◌&&◌, refl, ap, ◌∙◌}
use Rattle.run_model.specs.Run.{Run}
use Rattle.run_model.specs.Moves.{silent}
use Rattle.run_model.specs.OwnMoves.{stays_behind}
use Rattle.machine_laws.specs.OneMachine.{space_of_run}
use Rattle.runner_parts.specs.Counts.{Counted, many_done}
use Rattle.runner.specs.Shows.{Shows}
use Rattle.runner.specs.Stretches.{words_done}
use Rattle.runner.proofs.Moved.{shows-as}
use Rattle.runner.proofs.runner.Runner.complete_words.Goals as goal

-- the run behind some words
abbrev counted : ℕ → Run → Run
counted n r =
    record (silent r) {
      own_done = r.own_done + n;
      since = record r.since { own = r.since.own + n; ahead = r.since.ahead && stays_behind r.restarts (r.since.own + n) r.since.shadow };
      moves = r.moves + n;
    }

some : (n : ℕ) (r : Run) → n ≢ 0 → words_done n r ≡ counted n r
some zero r h = absurd (h refl)
some (suc n) r h = refl

pub returns-then-words-ne0-clause-shows : goal.returns-then-words-ne0-clause-shows
unfolding space_of_run
returns-then-words-ne0-clause-shows c w r h =
    let old : Shows c.fall_silent.new.self w (silent r) = c.fall_silent.ensures.shows w r h in
    let counts = c.complete_many.ensures ∙ ap (many_done c.args.words) old.counts in
    shows-as _ w _ (counted c.args.words r) (some c.args.words r c.if-words-ne0.true) (record {
      space = old.space;
      own = old.own;
      shadow = old.shadow;
      sizes = old.sizes;
      cache = old.cache;
      counts = counts;
      ahead = c.both-self.ensures ∙ (λ i. old.ahead i && (c.stays_behind.ensures ∙ ap (λ (k : Counted). stays_behind k.restarts k.own_since k.shadow_since) counts) i);
      whole = old.whole;
      end = old.end;
      notes = old.notes;
      text = old.text;
    })
