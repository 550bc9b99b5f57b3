-- One move of a runner, by its turn.
use Rattle.std.proofs.Common.{◌≡◌, ◌≢◌, inl, inr, Bool, true, false, Option, Some, None, refl, ap, sym, ◌∙◌, subst}
use Rattle.std.specs.Option.{option_map}
use Rattle.spec_base.specs.declared.note.Move.{Move}
use Rattle.run_model.specs.Run.{World, Run, RunEnd, Exits, Traps, StoreFailed, SinkFailed, Answer}
use Rattle.run_model.specs.Moves.{step, is_idle, run}
use Rattle.plain_runner.specs.Runs.{Outside}
use Rattle.runner_parts.specs.Parts.{end_of_run}
use Rattle.runner_parts.specs.Turns.{turn_of, turn_if, turn_after, turn_unless}
use Rattle.runner_parts.proofs.Idle.{step-idle}
use Rattle.runner_parts.specs.declared.turn.Turn.{Turn}
use Rattle.runner_parts.specs.declared.turn.Turn.TheVariants as turns
use Rattle.runner.specs.Goes.{MakesMove, WantsPages}
use Rattle.runner.specs.Shows.{Shows}
use Rattle.runner.specs.declared.runner.Runner.{Runner}
use Rattle.program_driver.specs.Advances.{Advances, HasEnding, ending_after}

-- ---- how a turn says that the run has ended

-- the run after a move that isn't idle
after-HasEnding : (next : Run) (e : Option RunEnd) → next.end ≡ e → HasEnding next (ending_after (turn_after (option_map end_of_run e)))
after-HasEnding next None is = is
after-HasEnding next (Some (Exits code)) is = (Exits code, is, refl)
after-HasEnding next (Some (Traps cause pc)) is = (Traps cause pc, is, refl)
after-HasEnding next (Some StoreFailed) is = (StoreFailed, is, refl)
after-HasEnding next (Some SinkFailed) is = (SinkFailed, is, refl)

-- and after one that may be idle
by-idle : (idle : Bool) (next : Run) → (idle ≡ true → next.end ≡ None) → HasEnding next (ending_after (turn_if idle (turn_after (option_map end_of_run next.end))))
by-idle true next rests = rests refl
by-idle false next rests = after-HasEnding next next.end refl

turn-HasEnding : (w : World) (r : Run) (m : Move) (x : Answer) → r.end ≡ None → HasEnding (step w r (m, x)) (ending_after (turn_of r m (step w r (m, x))))
turn-HasEnding w r m x going =
    let next : Run = step w r (m, x) in
    let rests : is_idle m r ≡ true → next.end ≡ None = λ idle. (ap (λ q. q.end) (step-idle w r (m, x) going idle) ∙ going) in
    subst (λ e. HasEnding next (ending_after (turn_unless e (turn_if (is_idle m r) (turn_after (option_map end_of_run next.end)))))) (sym going) (by-idle (is_idle m r) next rests)

-- ---- a move

-- it was made
goes-Advances : (old between : Runner) (m : Move) (turn : Turn) (new : Runner) (before after : Outside) → ((w : World) (r : Run) → Shows old w r → Shows between w r)
    → MakesMove m turn between new before after → Advances m (ending_after turn) old new before after
goes-Advances old between m turn new before after shows made =
    inr (record {
      answer = made.answer;
      said = made.said;
      told = made.told;
      leads = λ w ms acc was holds going. (
          let on = made.leads w ms acc (shows w (run w ms) was) holds in
          record {
            hears = on.hears;
            shows = on.shows;
            ends = subst (λ t. HasEnding (step w (run w ms) (m, made.answer)) (ending_after t)) (sym on.turn) (turn-HasEnding w (run w ms) m made.answer going);
          });
    })

-- by its turn
pub turn-Advances : (old between : Runner) (m : Move) (turn : Turn) (new : Runner) (before after : Outside) → ((w : World) (r : Run) → Shows old w r → Shows between w r)
    → (turn ≡ turns.NoMemory → WantsPages m between new before after) → (turn ≢ turns.NoMemory → MakesMove m turn between new before after)
    → Advances m (ending_after turn) old new before after
turn-Advances old between m turns.NoMemory new before after shows wants made =
    let want = wants refl in
    inl (record { starved = refl; shows = λ w r was. subst (λ v. Shows v w r) (sym want.same) (shows w r was); untouched = want.outside })
turn-Advances old between m turns.Went new before after shows wants made = goes-Advances old between m turns.Went new before after shows (made (λ e. cc))
turn-Advances old between m turns.Idle new before after shows wants made = goes-Advances old between m turns.Idle new before after shows (made (λ e. cc))
turn-Advances old between m (turns.Ended end) new before after shows wants made = goes-Advances old between m (turns.Ended end) new before after shows (made (λ e. cc))
turn-Advances old between m turns.StoreFault new before after shows wants made = goes-Advances old between m turns.StoreFault new before after shows (made (λ e. cc))
turn-Advances old between m turns.SinkFault new before after shows wants made = goes-Advances old between m turns.SinkFault new before after shows (made (λ e. cc))
