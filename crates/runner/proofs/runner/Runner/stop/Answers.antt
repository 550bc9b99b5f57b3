use Rattle.std.proofs.Common.{◌≡◌, Some, ◌∷◌, [], ◌∙◌, refl, sym, ap}
use Rattle.run_model.specs.OwnMoves.{ended}
use Rattle.runner.proofs.Moved.{gathers-ended, still-none}
use Rattle.machine_laws.specs.OneMachine.{space_of_run}
use Rattle.runner_parts.specs.Parts.{end_of_run, run_end}
use Rattle.runner_parts.specs.declared.turn.End.{End}
use Rattle.runner_parts.specs.declared.turn.End.TheVariants as ending
use Rattle.runner.proofs.runner.Runner.stop.Goals as goal

same-end : (e : End) → end_of_run (run_end e) ≡ e
same-end (ending.Exit code) = refl
same-end (ending.Trap cause pc) = refl
same-end ending.Store = refl
same-end ending.Sink = refl

pub returns-clause-shows : goal.returns-clause-shows
unfolding space_of_run
returns-clause-shows c w r h =
    record {
      space = h.space;
      own = record { hart = h.own.hart; side = h.own.side; files_are = h.own.files_are; asked_is = h.own.asked_is; stalled_is = h.own.stalled_is; gathered_is = h.own.gathered_is };
      shadow = h.shadow;
      sizes = h.sizes;
      cache = record {
        lists_are = h.cache.lists_are;
        most = h.cache.most;
        depth = h.cache.depth;
        contents = h.cache.contents;
        gathers = gathers-ended w r (ended r (run_end c.args.end) (c.args.note ∷ [])) r.cache c.args.self.now.staging.items (still-none r.end (sym h.end ∙ c.requires.goes)) refl h.cache.gathers;
      };
      counts = h.counts;
      ahead = h.ahead;
      whole = h.whole;
      end = ap Some (sym (same-end c.args.end));
      notes = c.set.ensures;
      text = h.text;
    }
