-- A run over sinks that take all comes to the program's end, where the turns are enough.
use Rattle.std.proofs.Common.{◌≡◌, ◌⊎◌, inl, inr, ℕ, zero, suc, ◌+◌, ◌≤◌, ◌<◌, List, [], ◌∷◌, length, slice_get, Option, Some, None, refl, ap, sym, ◌∙◌, subst, arith}
use Rattle.std.specs.Prelude.{unwrap_or, ⊤}
use Rattle.std.specs.Option.{option_and_then}
use Rattle.std.proofs.lemmas.Bool.{cases_lt, cases_eq}
use Rattle.spec_base.specs.Files.{Files}
use Rattle.program_model.specs.PlainRun.{State, Image as Program, Taken, all_taken, state_after, plain_state, next_state, next_unless, next, completed, Step, Went, Traps, End, Exited as ExitedWith, TrapsAt, GoesOn, end_of, end_unless, end_of_step}
use Rattle.own_laws.proofs.Reached.{none_some}
use Rattle.world_io.specs.Outside.{SinkState, Room, Endless}
use Rattle.world_io.specs.Puts.{Fits, room_left}
use Rattle.world_io.specs.Logs.{Piece, SinkLog, IsOffered}
use Rattle.world_io.specs.declared.sink.Put.{Put}
use Rattle.world_io.specs.declared.sink.Put.TheVariants as answer
use Rattle.plain_runner.specs.Runs.{AgreeOn}
use Rattle.plain_runner.specs.declared.ending.Ending.{Ending}
use Rattle.plain_runner.specs.declared.ending.Ending.TheVariants.{Exited, Trapped, TurnsOver, StoreFault, SinkFault, NoMemory}
use Rattle.run_promises.specs.Promises.{IsAsPlain, EndsAs, FailedPuts, IsEnd, ComesTo, IsCutShort, AreEnough}
use Rattle.run_promises.specs.Laws.{MovesFinish}
use Rattle.run_promises.proofs.Whole.{moves_are_as_plain, moves_get_on}

-- ---- sinks that take all

-- each of these took all that it was offered
abbrev AreWhole : List Piece → Type 0
AreWhole [] = ⊤
AreWhole (p ∷ ps) = (length p.offered ≡ p.taken) × AreWhole ps

-- a put within an endless room is taken whole
sure-offer : (a b : SinkState) (bytes : List ℕ) (x : Put) → a.room ≡ Endless → IsOffered a (bytes, x) b → x ≡ answer.Took (length bytes)
sure-offer a b bytes x e one = by_room a.room e one.sure
  where
    by_room : (room : Room) → room ≡ Endless → (Fits room (length bytes) → x ≡ answer.Took (length bytes)) → x ≡ answer.Took (length bytes)
    by_room room e sure = subst (λ r. (Fits r (length bytes) → x ≡ answer.Took (length bytes)) → x ≡ answer.Took (length bytes)) (sym e) (λ sure. sure tt) sure

took-same : (k n : ℕ) → answer.Took k ≡ answer.Took n → n ≡ k
took-same k n e = cc

none-failed : {A : Type 0} (n : ℕ) → answer.Failed ≡ answer.Took n → A
none-failed n e = cc

whole-log : (a b : SinkState) (ps : List Piece) (fault : Option (List ℕ)) → a.room ≡ Endless → SinkLog a ps fault b → AreWhole ps × (fault ≡ None)
whole-log a b [] None e log = (tt, refl)
whole-log a b [] (Some bytes) e log = none-failed (length bytes) (sure-offer a log.0 bytes answer.Failed e log.1)
whole-log a b (p ∷ ps) fault e log =
    let room : log.0.room ≡ Endless = ap (λ (s : SinkState). s.room) log.1.says.3 ∙ ap (λ r. room_left r p.taken) e in
    let later = whole-log log.0 b ps fault room log.2 in
    ((took-same p.taken (length p.offered) (sure-offer a log.0 p.offered (answer.Took p.taken) e log.1), later.0), later.1)

-- then taking all agrees with it
all-agrees : (ps : List Piece) → AreWhole ps → AgreeOn [] ps
all-agrees [] h i p e = none_some e
all-agrees (q ∷ ps) h zero p e = subst (λ (p : Piece). length p.offered ≡ p.taken) (let same : Some q ≡ Some p = e in cc) h.0
all-agrees (q ∷ ps) h (suc i) p e = all-agrees ps h.1 i p e

-- ---- a plain run has no state behind its end

module _ (p : Program) (files : Files) (t : Taken) where
  none-later : (s : State) (n m : ℕ) → state_after p files t s n ≡ None → n ≤ m → state_after p files t s m ≡ None
  unfolding state_after
  none-later s n zero e le = let same : n ≡ 0 = omega (arith, le) in sym (ap (state_after p files t s) same) ∙ e
  none-later s n (suc m) e le = by_place (none-later s n m e) (cases_eq n (suc m))
    where
      by_place : (n ≤ m → state_after p files t s m ≡ None) → (n ≡ suc m) ⊎ (n ≡ suc m → ⊥) → state_after p files t s (suc m) ≡ None
      by_place rest (inl same) = sym (ap (state_after p files t s) same) ∙ e
      by_place rest (inr ne) = ap (λ o. option_and_then (next_state p files t) o) (rest (omega (arith, le, ne)))

  ended-next : (s : State) (ending : Ending) → IsEnd (end_of p files t s) ending → next_state p files t s ≡ None
  ended-next s ending h = by_exit s.exited h
    where
      by_step : (x : Step) → IsEnd (end_of_step x s.pc) ending → completed x ≡ None
      by_step (Went q) h = absurd h
      by_step (Traps cause) h = refl

      by_exit : (o : Option ℕ) → IsEnd (end_unless o p files t s) ending → next_unless o p files t s ≡ None
      by_exit (Some code) h = refl
      by_exit None h = by_step (next p files t s) h

  ended-none : (start s : State) (n : ℕ) (ending : Ending) → state_after p files t start n ≡ Some s → IsEnd (end_of p files t s) ending → state_after p files t start (suc n) ≡ None
  unfolding state_after
  ended-none start s n ending e h = ap (λ o. option_and_then (next_state p files t) o) e ∙ ended-next s ending h

  -- no state is reached past an end
  not-past : (start s q : State) (n k : ℕ) (ending : Ending) → state_after p files t start n ≡ Some s → IsEnd (end_of p files t s) ending → state_after p files t start k ≡ Some q → k ≤ n
  not-past start s q n k ending e h f =
      elim (cases_lt n k) [
        | inl past ↦ none_some (sym (none-later start (suc n) k (ended-none start s n ending e h) (omega (arith, past))) ∙ f)
        | inr within ↦ within
      ]

-- ---- the end is told

-- an end that is told is one
told-end : (end : End) (n : ℕ) (s : State) (ending : Ending) → EndsAs end n s ending → (out err : Option (List ℕ)) → FailedPuts ending out err → out ≡ None → err ≡ None
    → (IsEnd end ending ⊎ IsCutShort ending) ⊎ (ending ≡ TurnsOver n)
told-end end n s (Exited code) ends out err failed a b = inl (inl (subst (λ e. IsEnd e (Exited code)) (sym ends) refl))
told-end end n s (Trapped cause pc) ends out err failed a b = inl (inl (subst (λ e. IsEnd e (Trapped cause pc)) (sym ends) refl))
told-end end n s (TurnsOver count) ends out err failed a b = inr (ap TurnsOver ends.1)
told-end end n s StoreFault ends out err failed a b = inl (inr tt)
told-end end n s NoMemory ends out err failed a b = inl (inr tt)
told-end end n s SinkFault ends None None failed a b = absurd failed
told-end end n s SinkFault ends (Some bytes) err failed a b = none_some (sym a)
told-end end n s SinkFault ends None (Some bytes) failed a b = none_some (sym b)

-- one end is told in one way
one-end : (end : End) (x y : Ending) → IsEnd end x → IsEnd end y → x ≡ y
one-end (ExitedWith code) x y h k = h ∙ sym k
one-end (TrapsAt cause pc) x y h k = h ∙ sym k
one-end GoesOn x y h k = absurd h

pub moves_finish : MovesFinish
moves_finish pattern turns ending w ms old new acc to endless_out endless_err n end comes enough =
    let plain : IsAsPlain w.image w.files ending old new = moves_are_as_plain pattern turns ending w ms old new acc to in
    let outs = whole-log old.out new.out plain.outs plain.out_fault endless_out plain.out_log in
    let errs = whole-log old.err new.err plain.errs plain.err_fault endless_err plain.err_log in
    let reached : plain_state w.image w.files all_taken plain.n ≡ Some plain.state =
    plain.reached all_taken (record { out = all-agrees plain.outs outs.0; err = all-agrees plain.errs errs.0 }) in
    let here : plain.n ≤ n = not-past w.image w.files all_taken w.image.start comes.state plain.state n plain.n end comes.reached comes.ends reached in
    by_end plain reached here (told-end (end_of w.image w.files all_taken plain.state) plain.n plain.state ending (plain.ends all_taken) plain.out_fault plain.err_fault plain.failed outs.1 errs.1)
  where
    by_end : (plain : IsAsPlain w.image w.files ending old new) → plain_state w.image w.files all_taken plain.n ≡ Some plain.state → plain.n ≤ n
        → (IsEnd (end_of w.image w.files all_taken plain.state) ending ⊎ IsCutShort ending) ⊎ (ending ≡ TurnsOver plain.n) → (ending ≡ end) ⊎ IsCutShort ending
    by_end plain reached here (inl (inr cut)) = inr cut
    by_end plain reached here (inr over) = absurd (let more = moves_get_on pattern turns ending w ms old new acc to plain.n (n + 1) over enough in omega (arith, more, here))
    by_end plain reached here (inl (inl ends)) =
        let there : n ≤ plain.n = not-past w.image w.files all_taken w.image.start plain.state comes.state plain.n n ending reached ends comes.reached in
        let same : plain.n ≡ n = omega (arith, here, there) in
        let states : Some plain.state ≡ Some comes.state = sym reached ∙ (ap (plain_state w.image w.files all_taken) same ∙ comes.reached) in
        let state : plain.state ≡ comes.state = cc in
        inl (one-end (end_of w.image w.files all_taken comes.state) ending end (subst (λ s. IsEnd (end_of w.image w.files all_taken s) ending) state ends) comes.ends)
