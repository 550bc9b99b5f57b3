-- In every run the shadow follows the run from its restart until the first use: the laws of hints.
use Rattle.std.proofs.Common.{◌≡◌, ℕ, suc, ◌<◌, ◌⊎◌, inl, inr, Bool, true, false, [], ◌∷◌, ◌++◌, Option, Some, None, refl, ◌∙◌, ap, sym, subst, arith, ◌≤◌}
use Rattle.std.specs.Prelude.{◌≢◌, IsTrue}
use Rattle.spec_base.specs.declared.layout.Layout.{Layout}
use Rattle.spec_base.specs.declared.note.Move.{Move}
use Rattle.spec_base.specs.declared.note.Move.TheVariants.{O, S, T, D}
use Rattle.spec_base.specs.declared.note.ShadowState.{ShadowState}
use Rattle.spec_base.specs.declared.note.ShadowState.TheVariants.{Never, Running, Stopped, Parked}
use Rattle.program_model.specs.PlainRun.{State}
use Rattle.run_model.specs.Run.{World, Run, RunEnd, Answer, opened_run}
use Rattle.run_model.specs.ShadowMoves.{is_arrival, shadow_step}
use Rattle.run_model.specs.Moves.{Moves, begun, silent, step, step_unless, run, run_from, shadow_while}
use Rattle.run_model.specs.Restarts.{from_restart}
use Rattle.run_model.specs.Marks.{before_use}
use Rattle.run_laws.specs.OwnLaws.{Accepted}
use Rattle.run_laws.specs.HintLaws.{HintsAreReads, ShadowFollows, HintsUntilUse}
use Rattle.own_laws.proofs.MoveLists.{run_from-snoc}
use Rattle.shadow_laws.proofs.ShadowNumbers.{Sized, stock_of, run-sized}
use Rattle.shadow_laws.proofs.ShadowRuns.{resting-stays}
use Rattle.shadow_laws.proofs.Sound.{never_running, stopped_running, parked_running}
use Rattle.mark_laws.specs.Sizes.{TrueSizes}
use Rattle.mark_laws.proofs.Horizons.{use_is_after_horizon}
use Rattle.mark_laws.proofs.Numbers.{before_use_with-down}
use Rattle.mark_laws.proofs.Sizes.{sizes_are_true}
use Rattle.hint_laws.proofs.FilledNumbers.{fills-use}
use Rattle.hint_laws.proofs.WordFacts.{WordLeaves, word-leaves, word-fills, filled_behind}
use Rattle.hint_laws.proofs.OwnMoves.{IsFollowed, own-followed, fetch-followed, counted-followed}
use Rattle.hint_laws.proofs.EachWord.{word-followed}
use Rattle.hint_laws.proofs.Promises.{before-horizon, follows, follows_until_use}

module _ (w : World) (a : Accepted w) where
  abbrev l : Layout
  l = w.image.layout

  -- ---- a word of the shadow

  module _ (x : Answer) (r : Run) (z : Sized (stock_of r)) (sizes : (q : State) → from_restart w r r.since.shadow ≡ Some q → TrueSizes w.files q.files) (k : IsFollowed w r) where
    abbrev next : Run
    next = shadow_step w x r

    -- a word counts one arrival at most
    counts : WordLeaves w r next → (next.since.shadow ≡ r.since.shadow) ⊎ (next.since.shadow ≡ suc r.since.shadow)
    counts f = by_state next.shadow.state refl
      where
        by_place : next.shadow.state ≡ Running → (b : Bool) → is_arrival l next.shadow.pc ≡ b → (next.since.shadow ≡ r.since.shadow) ⊎ (next.since.shadow ≡ suc r.since.shadow)
        by_place e true g = inr (omega (arith, f.arrives e g))
        by_place e false g = inl (f.between e g)

        by_state : (s : ShadowState) → next.shadow.state ≡ s → (next.since.shadow ≡ r.since.shadow) ⊎ (next.since.shadow ≡ suc r.since.shadow)
        by_state Running e = by_place e (is_arrival l next.shadow.pc) refl
        by_state Never e = inl (f.halts (λ g. never_running (sym e ∙ g)))
        by_state Stopped e = inl (f.halts (λ g. stopped_running (sym e ∙ g)))
        by_state (Parked cause) e = inl (f.halts (λ g. parked_running (sym e ∙ g)))

    -- where no use has come by then, none had come before
    unused-before : r.shadow.state ≡ Running → WordLeaves w r next → IsTrue (before_use w next next.since.shadow) → IsTrue (before_use w r r.since.shadow)
    unused-before running f unused = by_count (counts f)
      where
        fills : (b : Bool) × (next.since.filled ≡ filled_behind b r)
        fills = word-fills w x r running

        same : (i : ℕ) → i ≤ suc r.since.shadow → next.since.shadow ≡ i → IsTrue (before_use w r i)
        same i few e = sym (fills-use w fills.0 r next i few f.origin fills.1) ∙ (ap (before_use w next) (sym e) ∙ unused)

        by_count : (next.since.shadow ≡ r.since.shadow) ⊎ (next.since.shadow ≡ suc r.since.shadow) → IsTrue (before_use w r r.since.shadow)
        by_count (inl e) = same r.since.shadow (omega arith) e
        by_count (inr e) = before_use_with-down w r r.since.filled r.since.shadow (same (suc r.since.shadow) (omega arith) e)

    -- where the shadow runs
    running-followed : r.shadow.state ≡ Running → IsFollowed w next
    running-followed e is unused =
        let f : WordLeaves w r next = word-leaves w x r e in
        word-followed w a x r z sizes
        (k (record { restarted = subst (λ (n : ℕ). 0 < n) f.restarts is.restarted; ahead = subst IsTrue f.ahead is.ahead; whole = subst IsTrue f.whole is.whole }) (unused-before e f unused)) unused

    -- whether it runs or not
    shadow-followed : IsFollowed w next
    shadow-followed = by_state r.shadow.state refl
      where
        resting : (s : ShadowState) → r.shadow.state ≡ s → s ≢ Running → IsFollowed w next
        resting s e n = subst (IsFollowed w) (sym (resting-stays w a x r r.shadow.state refl (λ g. n (sym e ∙ g)))) k

        by_state : (s : ShadowState) → r.shadow.state ≡ s → IsFollowed w next
        by_state Running e = running-followed e
        by_state Never e = resting Never e (λ g. never_running g)
        by_state Stopped e = resting Stopped e (λ g. stopped_running g)
        by_state (Parked cause) e = resting (Parked cause) e (λ g. parked_running g)

  -- only while the own hart waits
  while-followed : (b : Bool) (x : Answer) (r : Run) → Sized (stock_of r) → ((q : State) → from_restart w r r.since.shadow ≡ Some q → TrueSizes w.files q.files) → IsFollowed w r → IsFollowed w (shadow_while b w x r)
  while-followed true x r z sizes k = shadow-followed x r z sizes k
  while-followed false x r z sizes k = k

  -- ---- each move

  -- each keeps the shadow following
  move-followed : (before : Moves) (m : Move × Answer) → IsFollowed w (run w before) → IsFollowed w (step w (run w before) m)
  move-followed before m k = by_move m.0 refl
    where
      r : Run
      r = run w before

      x : Answer
      x = m.1

      begun-followed : IsFollowed w (begun r)
      begun-followed = counted-followed w r (begun r) refl refl k

      sizes : (q : State) → from_restart w (begun r) (begun r).since.shadow ≡ Some q → TrueSizes w.files q.files
      sizes q e = (sizes_are_true w a before).restarted r.since.shadow q e

      by_end : (e : Option RunEnd) → (n : Move) → (n ≡ S) ⊎ (n ≡ T) → IsFollowed w (step_unless e w r (n, x))
      by_end (Some e) n is = counted-followed w r (silent r) refl refl k
      by_end None S is = shadow-followed x (begun r) (run-sized w a before) sizes begun-followed
      by_end None T is = while-followed r.stalled x (begun r) (run-sized w a before) sizes begun-followed
      by_end None O is = absurd (no is)
        where
          no : (O ≡ S) ⊎ (O ≡ T) → ⊥
          no (inl e) = cc
          no (inr e) = cc
      by_end None D is = absurd (no is)
        where
          no : (D ≡ S) ⊎ (D ≡ T) → ⊥
          no (inl e) = cc
          no (inr e) = cc

      by_move : (n : Move) → m.0 ≡ n → IsFollowed w (step w r (n, x))
      by_move O e = own-followed w a before x k
      by_move D e = fetch-followed w r x k
      by_move S e = by_end r.end S (inl refl)
      by_move T e = by_end r.end T (inr refl)

  -- ---- each run

  -- so do moves in a row
  moves-followed : (ms before : Moves) (r : Run) → run w before ≡ r → IsFollowed w r → IsFollowed w (run_from w r ms)
  unfolding run_from
  moves-followed [] before r e k = k
  moves-followed (m ∷ ms) before r e k =
      let one : run w (before ++ m ∷ []) ≡ step w r m = run_from-snoc w (opened_run w) before m ∙ ap (λ (r : Run). step w r m) e in
      moves-followed ms (before ++ m ∷ []) (step w r m) one (subst (λ (r : Run). IsFollowed w (step w r m)) e (move-followed before m (subst (IsFollowed w) (sym e) k)))

  -- before the first restart nothing is to follow
  start-followed : IsFollowed w (opened_run w)
  start-followed is unused = absurd (omega (arith, is.restarted))

  -- so it follows in every run
  pub run-followed : (ms : Moves) → IsFollowed w (run w ms)
  unfolding run_from
  run-followed ms = moves-followed ms [] (opened_run w) refl start-followed

-- ---- the laws

-- before the horizon the hints are the next reads
pub hints_are_reads : HintsAreReads
hints_are_reads w a ms is free = let r : Run = run w ms in before-horizon w a r (run-followed w a ms is (use_is_after_horizon w a ms r.since.shadow free)) free

-- and the shadow stands for the state of the run from the restart
pub shadow_follows : ShadowFollows
shadow_follows w a ms is free arrives = let r : Run = run w ms in follows w a r (run-followed w a ms is (use_is_after_horizon w a ms r.since.shadow free)) free arrives

-- until the first use both are so outside marked registers and bytes
pub hints_until_use : HintsUntilUse
hints_until_use w a ms is unused = follows_until_use w a (run w ms) (run-followed w a ms is unused)
