-- A move, put together from what it does and from the laws of runs.
use Rattle.std.proofs.Common.{◌≡◌, ◌≢◌, ◌≤◌, ◌⊎◌, inl, inr, Bool, true, false, [], ◌∷◌, ◌++◌, Option, Some, None, refl, sym, ap, subst, ◌∙◌}
use Rattle.std.specs.Option.{option_map}
use Rattle.spec_base.specs.declared.note.Move.{Move}
use Rattle.spec_base.specs.declared.note.Move.TheVariants.{O}
use Rattle.code_model.specs.Regions.{slots_in_use}
use Rattle.run_model.specs.Run.{World, Run, RunEnd, Answer, Usual}
use Rattle.run_model.specs.Moves.{Moves, step, step_unless, run, is_idle, silent}
use Rattle.run_laws.specs.OwnLaws.{Accepted}
use Rattle.own_laws.proofs.InvisibleShadow.{shadow_is_invisible}
use Rattle.shadow_laws.proofs.ShadowRuns.{regions_bounded, tables_consistent}
use Rattle.mark_laws.proofs.Sizes.{sizes_are_true}
use Rattle.world_io.specs.Outside.{StoreState, SinkState}
use Rattle.plain_runner.specs.Runs.{Outside}
use Rattle.move_requests.specs.Asked.{Asked, Nothing, asks, asks_unless}
use Rattle.move_requests.specs.Hears.{Hears}
use Rattle.move_requests.proofs.Snoc.{moves_add_up}
use Rattle.runner_parts.specs.Parts.{end_of_run}
use Rattle.runner_parts.specs.Requests.{IsAnswered}
use Rattle.runner_parts.specs.Turns.{turn_of, turn_if, turn_after, turn_unless}
use Rattle.runner_parts.specs.declared.turn.End.{End}
use Rattle.runner_parts.specs.declared.turn.Turn.{Turn}
use Rattle.runner_parts.specs.declared.turn.Turn.TheVariants.{Went, Idle, Ended, StoreFault, SinkFault, NoMemory}
use Rattle.runner_parts.specs.declared.turn.End.TheVariants as ending
use Rattle.runner.specs.OwnGoes.{MakesOwnMove}
use Rattle.runner.specs.Goes.{MakesMove}
use Rattle.runner.specs.ShadowGoes.{MakesStep, beside}
use Rattle.runner.specs.Shows.{Shows}
use Rattle.runner.specs.declared.runner.Runner.{Runner}
use Rattle.runner.proofs.Hearing.{nothing-told, store-silent}
use Rattle.runner.proofs.Moved.{shows-as, still-none}

-- what was asked is what the move asks
hears-of : (w : World) (r : Run) (m : Move) (x : Answer) (old new : Outside) → IsAnswered (asks w r m) x old new → Hears w r m x old new
hears-of w r m x old new h = record { may = h.may; store = h.store; out = h.out; err = h.err }

-- ---- the laws, at the next run

module _ (w : World) (a : Accepted w) (ms : Moves) (m : Move) (x : Answer) where
  pub at-most : slots_in_use (step w (run w ms) (m, x)).shared ≤ w.image.layout.regions
  at-most = subst (λ (q : Run). slots_in_use q.shared ≤ w.image.layout.regions) (moves_add_up w ms (m, x)).next (regions_bounded w a (ms ++ (m, x) ∷ []))

-- ---- the turn

module _ (u : Runner) (w : World) (r : Run) (m : Move) (x : Answer) (goes : r.end ≡ None) (h : Shows u w (step w r (m, x))) where
  pub turn-is : (t : Turn) (idle : Bool) → t ≡ turn_if idle (turn_after u.end) → idle ≡ is_idle m r → t ≡ turn_of r m (step w r (m, x))
  turn-is t idle told same =
      told ∙ (λ i. turn_if (same i) (turn_after (h.end i))) ∙ sym (ap (λ (o : Option RunEnd). turn_unless o (turn_if (is_idle m r) (turn_after (option_map end_of_run (step w r (m, x)).end)))) goes)

-- ---- a move that asks nothing of the sinks

pub made-of :
    (m : Move) (t : Turn) (v u : Runner) (old new : StoreState) (out err : SinkState) (idle : Bool) → v.end ≡ None → t ≡ turn_if idle (turn_after u.end)
    → ((w : World) (r : Run) → Shows v w r → idle ≡ is_idle m r) → MakesStep m v u old new → MakesMove m t v u (beside old out err) (beside new out err)
made-of m t v u old new out err idle on told same makes =
    record {
      answer = makes.answer;
      said = makes.said;
      told = makes.told;
      leads = λ w ms a h said.
          let r : Run = run w ms in
          let goes : r.end ≡ None = still-none r.end (sym h.end ∙ on) in
          let shows : Shows u w (step w r (m, makes.answer)) = makes.shows w r a h (tables_consistent w a ms) said in
          record {
            hears = hears-of w r m makes.answer (beside old out err) (beside new out err) (makes.hears w r a h out err);
            shows = shows;
            turn = turn-is u w r m makes.answer goes shows t idle told (same w r h);
            bounded = at-most w a ms m makes.answer;
            unseen = λ shadow. (shadow_is_invisible w r m makes.answer shadow).leaves;
          };
    }

-- of an equal move
pub made-as : (m n : Move) (t : Turn) (v u : Runner) (old new : Outside) → m ≡ n → MakesMove n t v u old new → MakesMove m t v u old new
made-as m n t v u old new e h = subst (λ (m : Move). MakesMove m t v u old new) (sym e) h

-- ---- a move of the own hart

pub made-own : (t : Turn) (v u : Runner) (old new : Outside) → v.end ≡ None → t ≡ turn_if v.stalled (turn_after u.end) → MakesOwnMove v u old new → MakesMove O t v u old new
made-own t v u old new on told makes =
    record {
      answer = makes.answer;
      said = makes.said;
      told = makes.told;
      leads = λ w ms a h said.
          let r : Run = run w ms in
          let goes : r.end ≡ None = still-none r.end (sym h.end ∙ on) in
          let shows : Shows u w (step w r (O, makes.answer)) = makes.shows w r a h (sizes_are_true w a ms).own said in
          record {
            hears = makes.hears w r a h;
            shows = shows;
            turn = turn-is u w r O makes.answer goes shows t v.stalled told h.own.stalled_is;
            bounded = at-most w a ms O makes.answer;
            unseen = λ shadow. (shadow_is_invisible w r O makes.answer shadow).leaves;
          };
    }

-- pages were wanted, or not
pub starved-or : (t : Turn) → (t ≡ NoMemory) ⊎ (t ≢ NoMemory)
starved-or NoMemory = inl refl
starved-or Went = inr (λ e. cc)
starved-or Idle = inr (λ e. cc)
starved-or (Ended end) = inr (λ e. cc)
starved-or StoreFault = inr (λ e. cc)
starved-or SinkFault = inr (λ e. cc)

-- only a move of the own hart wants pages
pub never-starved : (b : Bool) (e : Option End) → turn_if b (turn_after e) ≡ NoMemory → ⊥
never-starved true e q = cc
never-starved false None q = cc
never-starved false (Some (ending.Exit code)) q = cc
never-starved false (Some (ending.Trap cause pc)) q = cc
never-starved false (Some ending.Store) q = cc
never-starved false (Some ending.Sink) q = cc

-- ---- a run that has ended

ended-by : (o : Option RunEnd) (e : End) → Some e ≡ option_map end_of_run o → (x : RunEnd) × (o ≡ Some x) × (end_of_run x ≡ e)
ended-by None e q = absurd cc
ended-by (Some x) e q = (x, refl, (let f : Some e ≡ Some (end_of_run x) = q in cc))

pub made-silent :
    (m : Move) (e : End) (v u : Runner) (o : Outside) → v.end ≡ Some e → ((w : World) (r : Run) → Shows v w r → Shows u w (silent r)) → MakesMove m (Ended e) v u o o
made-silent m e v u o over silent-shows =
    record {
      answer = Usual;
      said = [];
      told = nothing-told o.store.files;
      leads = λ w ms a h said.
          let r : Run = run w ms in
          let by = ended-by r.end e (sym over ∙ h.end) in
          let next : step w r (m, Usual) ≡ silent r = ap (λ (q : Option RunEnd). step_unless q w r (m, Usual)) by.1 in
          let nothing : asks w r m ≡ Nothing = ap (λ (q : Option RunEnd). asks_unless q w r m) by.1 in
          record {
            hears = hears-of w r m Usual o o (subst (λ (q : Asked). IsAnswered q Usual o o) (sym nothing) (store-silent o.store o.out o.err));
            shows = shows-as u w (step w r (m, Usual)) (silent r) next (silent-shows w r h);
            turn = sym (ap (λ (q : Option RunEnd). turn_unless q (turn_if (is_idle m r) (turn_after (option_map end_of_run (step w r (m, Usual)).end)))) by.1 ∙ ap (λ (q : End). Ended q) by.2);
            bounded = at-most w a ms m Usual;
            unseen = λ shadow. (shadow_is_invisible w r m Usual shadow).leaves;
          };
    }
