-- What an own move changes of the program's memory is marked, or settled, in the run from the restart.
use Rattle.std.proofs.Common.{◌≡◌, ℕ, suc, ◌+◌, ◌<◌, ◌⊎◌, inl, inr, Bool, true, false, [], ◌∷◌, ◌++◌, Option, Some, None, refl, ◌∙◌, ap, sym, subst, arith}
use Rattle.std.specs.Prelude.{IsTrue}
use Rattle.spec_base.specs.declared.note.Move.TheVariants.{O}
use Rattle.rv_model.specs.Memory.{zeros, Memory}
use Rattle.program_model.specs.PlainRun.{State}
use Rattle.run_model.specs.Run.{World, Run, RunEnd, Answer, opened_run}
use Rattle.run_model.specs.Moves.{Moves, begun, step, step_unless, run}
use Rattle.run_model.specs.Restarts.{from_restart, action}
use Rattle.run_laws.specs.OwnLaws.{Accepted, OwnIs}
use Rattle.own_laws.proofs.OwnLaws.{own_follows}
use Rattle.mark_laws.specs.Settled.{changes, IsCovered, OwnChangesAreCovered}
use Rattle.mark_laws.proofs.Numbers.{from_restart-origin}
use Rattle.mark_laws.proofs.Changes.{others_are_left, changes_are_covered}
use Rattle.own_laws.proofs.MoveLists.{run_from-snoc}
use Rattle.own_laws.proofs.OwnSteps.{own_step-by}

-- ---- the count of an own move

-- an own move completes no instruction, or one, after which puts were whole only if they were so before; or it restarts the shadow
pub data OwnCount (r next : Run) : Type 0 where
  rests : next.since.own ≡ r.since.own → next.since.whole ≡ r.since.whole → next.since.origin ≡ r.since.origin → OwnCount r next
  counts : next.since.own ≡ r.since.own + 1 → (IsTrue next.since.whole → IsTrue r.since.whole) → next.since.origin ≡ r.since.origin → OwnCount r next
  restarts_anew : next.restarts ≡ r.restarts + 1 → OwnCount r next

module _ (w : World) where
  -- an own move
  pub own-count : (x : Answer) (r : Run) → OwnCount r (step w r (O, x))
  own-count x r = by_end r.end
    where
      from_begun : {y : Run} → OwnCount (begun r) y → OwnCount r y
      from_begun (rests e f o) = rests e f o
      from_begun (counts e f o) = counts e f o
      from_begun (restarts_anew e) = restarts_anew e

      by_end : (e : Option RunEnd) → OwnCount r (step_unless e w r (O, x))
      by_end (Some e) = rests refl refl refl
      by_end None = from_begun
          (own_step-by w x (begun r) (OwnCount (begun r))
          (record {
            stays = λ b. rests refl refl refl;
            goes = λ rs pc. counts refl (λ h. h) refl;
            stores = λ a width v. counts refl (λ h. h) refl;
            enters = rests refl refl refl;
            computes = λ rs pc page. rests refl refl refl;
            links = λ i a width v e f. rests refl refl refl;
            leaves = λ v. rests refl refl refl;
            stops = rests refl refl refl;
            restarts = λ v. restarts_anew refl;
            performs_call = λ taken whole b h. counts refl h refl;
          }))

-- ---- the law

-- the memory of a state, if there is one
abbrev memory_in : Option State → Memory
memory_in None = zeros
memory_in (Some s) = s.memory

-- where the own hart is in the run from the restart, by an equation for the run
follows_as :
    (w : World) → Accepted w → (ms : Moves) (y : Run) → run w ms ≡ y → 0 < y.restarts → IsTrue y.since.whole →
    (q : State) × (from_restart w y y.since.own ≡ Some q) × OwnIs y q
follows_as w a ms y e =
    subst (λ (y : Run). 0 < y.restarts → IsTrue y.since.whole → (q : State) × (from_restart w y y.since.own ≡ Some q) × OwnIs y q) e (own_follows w a ms)

-- what an own move changes is covered
pub own_changes_are_covered : OwnChangesAreCovered
own_changes_are_covered w a ms answer numbers i started same whole few x =
    by_count (own-count w answer r)
  where
    r : Run
    r = run w ms

    next : Run
    next = step w r (O, answer)

    -- the state of the own hart behind the move
    behind : (q : State) × (from_restart w next next.since.own ≡ Some q) × OwnIs next q
    behind = follows_as w a (ms ++ (O, answer) ∷ []) next (run_from-snoc w (opened_run w) ms (O, answer)) (subst (λ n. 0 < n) (sym same) started) whole

    -- which is that of the same run from the restart, after so many instructions
    reached : next.since.origin ≡ r.since.origin → (n : ℕ) → next.since.own ≡ n → from_restart w r n ≡ Some behind.0
    reached origin n e = sym (from_restart-origin w r next origin n) ∙ subst (λ k. from_restart w next k ≡ Some behind.0) e behind.1

    before : IsTrue r.since.whole → (q : State) × (from_restart w r r.since.own ≡ Some q) × OwnIs r q
    before h = follows_as w a ms r refl started h

    -- by what the instruction changes, if the move completes one
    by_change :
        (q : State) × (from_restart w r r.since.own ≡ Some q) × OwnIs r q → next.since.origin ≡ r.since.origin → next.since.own ≡ suc r.since.own →
        (b : Bool) → changes (action w r (suc r.since.own)) x ≡ b → (next.own.memory x ≡ r.own.memory x) ⊎ IsCovered numbers w r i x
    by_change q o e false unchanged =
        inl (
        ap (λ (m : Memory). m x) behind.2.memory
        ∙ (others_are_left w r r.since.own x q.0 behind.0 q.1 (reached o (suc r.since.own) e) unchanged ∙ ap (λ (m : Memory). m x) (sym q.2.memory))
        )
    by_change q o e true changed = inr (changes_are_covered w r numbers i r.since.own x (omega arith) changed)

    by_count : OwnCount r next → (next.own.memory x ≡ r.own.memory x) ⊎ IsCovered numbers w r i x
    by_count (rests e f o) =
        let q : (q : State) × (from_restart w r r.since.own ≡ Some q) × OwnIs r q = before (sym f ∙ whole) in
        inl (
        ap (λ (m : Memory). m x) behind.2.memory
        ∙ (ap (λ (o : Option State). memory_in o x) (sym (reached o r.since.own e) ∙ q.1) ∙ ap (λ (m : Memory). m x) (sym q.2.memory))
        )
    by_count (counts e f o) = by_change (before (f whole)) o (omega (arith, e)) (changes (action w r (suc r.since.own)) x) refl
    by_count (restarts_anew e) = absurd (omega (arith, e, same))
