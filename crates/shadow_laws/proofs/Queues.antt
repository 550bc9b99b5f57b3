-- In every run of fewer than 2^64 - 1 moves the hint log is a queue, but between words 30 and 31 of the stub.
use Rattle.std.proofs.Common.{◌≡◌, ◌+◌, ◌-◌, ◌^◌, ◌<◌, ◌⊎◌, inl, inr, [], ◌∷◌, ◌++◌, length, refl, ◌∙◌, ap, sym, subst, arith, lit<}
use Rattle.std.proofs.lemmas.List.{length-append, append-nil, append_assoc}
use Rattle.spec_base.specs.declared.note.ShadowState.{ShadowState}
use Rattle.spec_base.specs.declared.note.ShadowState.TheVariants.{Never, Running, Stopped, Parked}
use Rattle.spec_base.specs.declared.note.Move.{Move}
use Rattle.spec_base.specs.declared.note.Move.TheVariants.{O, S, T, D}
use Rattle.rv_model.specs.Memory.{Memory}
use Rattle.code_model.specs.Log.{log_head, log_tail, IsQueue}
use Rattle.run_model.specs.Run.{World, Run, Answer, opened_run}
use Rattle.run_model.specs.Moves.{Moves, step, run, run_from}
use Rattle.run_laws.specs.OwnLaws.{Accepted}
use Rattle.run_laws.specs.StubLaws.{IsEmpty}
use Rattle.run_laws.specs.LogLaws.{IsEmptying, LogIsQueue, EmptyingLeavesTail}
use Rattle.own_laws.proofs.Held.{Level, free, halted, headless, emptied, boxing, level, Held, IsFree, IsHalted, IsHeadless, level-headless}
use Rattle.own_laws.proofs.HeldRuns.{Place, place_of, HeldAt, OwnWord, at_place, at_free, at_words, at_restart, free-runs, word-runs, run-held, own-words, fetch-places, stopped-place}
use Rattle.own_laws.proofs.MoveLists.{run_from-snoc}
use Rattle.shadow_laws.proofs.LogRuns.{run-inv}
use Rattle.shadow_laws.proofs.Sound.{stopped_running}

-- a queue, but between words 30 and 31
abbrev Queued : Run → Type 0
Queued r = IsQueue r.shared ⊎ IsEmptying r

-- it is so by where all is
place-queued : (r next : Run) → place_of next ≡ place_of r → Queued r → Queued next
place-queued r next e (inl q) = inl (subst (λ (m : Memory). IsQueue m) (sym (ap (λ (p : Place). p.shared) e)) q)
place-queued r next e (inr y) =
    inr (record {
      between = (ap (λ (p : Place). p.view) e ∙ y.between.0, ap (λ (p : Place). p.pc + 4) e ∙ y.between.1);
      stopped = ap (λ (p : Place). p.state) e ∙ y.stopped;
      head = ap (λ (p : Place). log_head p.shared) e ∙ y.head;
    })

-- behind an own move that finds or leaves the shadow stopped
own-queued : (r next : Run) → OwnWord r next → HeldAt (place_of next) → next.shadow.state ≡ Stopped → Queued r → Queued next
own-queued r next (at_place e o) held s q = place-queued r next e q
own-queued r next (at_free f g e o) held s q = absurd (free-runs (place_of next) held g s)
own-queued r next (at_restart b e o runs) held s q = stopped_running (sym s ∙ runs)
own-queued r next (at_words k l at to v on o) held s q = by_level (level l) refl
  where
    now : Held next.at_gate (level l) next.shared next.shadow.state
    now = held.by l v to

    now_at : (z : Level) → level l ≡ z → Held next.at_gate z next.shared next.shadow.state
    now_at z e = subst (λ z. Held next.at_gate z next.shared next.shadow.state) e now

    empty : IsEmpty next.shared → Queued next
    empty e = inl (record { order = omega (arith, e.head, e.tail); most = omega (arith, e.tail) })

    as_was : (IsHeadless (level k) → ⊥) × (next.shared ≡ r.shared) → Queued r → Queued next
    as_was (n, e) (inl q) = inl (subst (λ (m : Memory). IsQueue m) (sym e) q)
    as_was (n, e) (inr y) =
        let is : 31 ≡ k = omega (arith, at, y.between.1) in absurd (n (subst (λ k. IsHeadless (level k)) is tt))

    by_level : (z : Level) → level l ≡ z → Queued next
    by_level free e = absurd (word-runs (place_of next) l held to s (subst (λ z. IsFree z) (sym e) tt))
    by_level halted e = as_was (on.quiet (subst (λ z. IsHalted z) (sym e) tt)) q
    by_level headless e =
        let is : l ≡ 31 = level-headless l (subst (λ z. IsHeadless z) (sym e) tt) in
        inr (record { between = (v, omega (arith, to, is)); stopped = s; head = (now_at headless e).1 })
    by_level emptied e = empty (now_at emptied e).1
    by_level (boxing j) e = empty (now_at (boxing j) e).1

-- a shadow is stopped, or it isn't
stopped-or : (s : ShadowState) → (s ≡ Stopped) ⊎ (s ≡ Stopped → ⊥)
stopped-or Stopped = inl refl
stopped-or Running = inr (λ e. stopped_running (sym e))
stopped-or Never = inr no
  where
    no : Never ≡ Stopped → ⊥
    no e = cc
stopped-or (Parked cause) = inr no
  where
    no : Parked cause ≡ Stopped → ⊥
    no e = cc

module _ (w : World) (a : Accepted w) where
  -- behind each move that leaves it stopped
  move-queued : (before : Moves) (m : Move) (x : Answer) → HeldAt (place_of (step w (run w before) (m, x))) → (step w (run w before) (m, x)).shadow.state ≡ Stopped → Queued (run w before) → Queued (step w (run w before) (m, x))
  move-queued before O x held s q = own-queued (run w before) _ (own-words w a before x) held s q
  move-queued before D x held s q = place-queued (run w before) _ (fetch-places w a x (run w before)) q
  move-queued before S x held s q = place-queued (run w before) _ (stopped-place w a S x (run w before) tt s) q
  move-queued before T x held s q = place-queued (run w before) _ (stopped-place w a T x (run w before) tt s) q

  -- behind one move more
  one-queued : (before : Moves) (m : Move × Answer) → length before < 2 ^ 64 - 2 → Queued (run w before) → Queued (run w (before ++ m ∷ []))
  one-queued before m few q = by_state (stopped-or (run w then).shadow.state)
    where
      then : Moves
      then = before ++ m ∷ []

      is : run w then ≡ step w (run w before) m
      is = run_from-snoc w (opened_run w) before m

      by_state : ((run w then).shadow.state ≡ Stopped) ⊎ ((run w then).shadow.state ≡ Stopped → ⊥) → Queued (run w then)
      by_state (inr n) = inl ((run-inv w a then (omega (arith, few, length-append before (m ∷ [])))).0.queue n).0
      by_state (inl s) =
          subst Queued (sym is)
          (move-queued before m.0 m.1 (subst (λ (y : Run). HeldAt (place_of y)) is (run-held w a then)) (sym (ap (λ (y : Run). y.shadow.state) is) ∙ s) q)

  -- behind any
  all-queued : (ms before : Moves) → length before + length ms < 2 ^ 64 - 1 → Queued (run w before) → Queued (run w (before ++ ms))
  all-queued [] before few q = subst (λ ms. Queued (run w ms)) (sym (append-nil before)) q
  all-queued (m ∷ ms) before few q =
      let one : Queued (run w (before ++ m ∷ [])) = one-queued before m (omega (arith, few)) q in
      subst (λ ms. Queued (run w ms)) (append_assoc before (m ∷ []) ms) (all-queued ms (before ++ m ∷ []) (omega (arith, few, length-append before (m ∷ []))) one)

-- ---- the laws

-- the log is a queue
pub log_is_queue : LogIsQueue
unfolding run_from
log_is_queue w a ms few =
    all-queued w a ms [] (omega (arith, few)) (inl ((run-inv w a [] (lit< tt)).0.queue never_stopped).0)
  where
    never_stopped : Never ≡ Stopped → ⊥
    never_stopped e = cc

-- its tail is as before where its head is 0 already
pub emptying_leaves_tail : EmptyingLeavesTail
emptying_leaves_tail w a ms m x em = by_move m em
  where
    r : Run
    r = run w ms

    by_word : (next : Run) → OwnWord r next → IsEmptying next → log_tail next.shared ≡ log_tail r.shared
    by_word next (at_place e o) em = ap (λ (p : Place). log_tail p.shared) e
    by_word next (at_free f g e o) em = ap log_tail e
    by_word next (at_restart b e o runs) em = ap log_tail e
    by_word next (at_words k l at to v on o) em =
        let is : 31 ≡ l = omega (arith, to, em.between.1) in on.tail (subst (λ l. IsHeadless (level l)) is tt)

    by_move : (m : Move) → IsEmptying (step w r (m, x)) → log_tail (step w r (m, x)).shared ≡ log_tail r.shared
    by_move O em = by_word _ (own-words w a ms x) em
    by_move D em = ap (λ (p : Place). log_tail p.shared) (fetch-places w a x r)
    by_move S em = ap (λ (p : Place). log_tail p.shared) (stopped-place w a S x r tt em.stopped)
    by_move T em = ap (λ (p : Place). log_tail p.shared) (stopped-place w a T x r tt em.stopped)
