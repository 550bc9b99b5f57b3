-- From a restart until word 34 of the stub is executed again the box holds the state at the restarting gate.
use Rattle.std.proofs.Common.{◌≡◌, ℕ, zero, suc, ◌+◌, ◌-◌, ◌*◌, ◌^◌, ◌≤◌, ◌<◌, ◌⊎◌, inl, inr, [], ◌∷◌, ◌++◌, length, Option, Some, None, refl, ◌∙◌, ap, ap₂, sym, subst, arith}
use Rattle.std.proofs.lemmas.List.{length-append, append-nil, append_assoc}
use Rattle.spec_base.specs.Layout.{table_start}
use Rattle.spec_base.specs.declared.note.Move.{Move}
use Rattle.spec_base.specs.declared.note.Move.TheVariants.{O, S, T, D}
use Rattle.spec_base.specs.declared.spot.BlockSpot.{BlockSpot}
use Rattle.rv_model.specs.Memory.{Memory, loaded}
use Rattle.rv_model.specs.Registers.{reg}
use Rattle.program_model.specs.Cache.{in_flight}
use Rattle.program_model.specs.PlainRun.{State}
use Rattle.code_model.specs.Log.{box_start, boxed}
use Rattle.run_model.specs.Run.{World, Run, RunEnd, Answer, opened_run}
use Rattle.run_model.specs.Moves.{Moves, step, step_unless, begun, run, run_from, fetch_of}
use Rattle.run_laws.specs.OwnLaws.{Accepted, IsShadowMove}
use Rattle.run_laws.specs.StubLaws.{IsBoxed}
use Rattle.run_laws.specs.LogLaws.{IsBoxing, BoxIsKept}
use Rattle.own_laws.proofs.Held.{level, IsBoxing as IsWriting, level-boxing, boxing-level, free-boxing}
use Rattle.own_laws.proofs.HeldRuns.{Place, place_of, spot, OwnWord, at_place, at_free, at_words, at_restart, own-words, fetch-places}
use Rattle.own_laws.proofs.InvisibleShadow.{shadow_move-keeps}
use Rattle.own_laws.proofs.Reached.{none_some}
use Rattle.own_laws.proofs.Side.{Side, side_of, Kept}
use Rattle.shadow_laws.proofs.LoggedSteps.{LeavesBox}
use Rattle.shadow_laws.proofs.LogRuns.{grows-at}
use Rattle.own_laws.proofs.OwnSteps.{fetch_of-by}
use Rattle.own_laws.proofs.MoveLists.{run_from-snoc}

-- ---- a box that is left

-- a number in it is
loaded-box : (m m' : Memory) → LeavesBox m m' → (a k : ℕ) → box_start ≤ a → a + k ≤ table_start → loaded m' a k ≡ loaded m a k
unfolding loaded
loaded-box m m' f a zero l h = refl
loaded-box m m' f a (suc k) l h = ap₂ (λ (x y : ℕ). x + 256 * y) (f.at a l (omega arith)) (loaded-box m m' f (a + 1) k (omega arith) (omega arith))

-- so is what it holds
boxed-stays : (m m' : Memory) (q : State) → LeavesBox m m' → IsBoxed m q → IsBoxed m' q
boxed-stays m m' q f b = record { site = loaded-box m m' f box_start 8 (omega arith) (omega arith) ∙ b.site; registers = λ i l. at i l }
  where
    at : (i : ℕ) → i ≤ 31 → boxed m' i ≡ reg q.registers i
    at zero l = b.registers zero l
    at (suc i) l = loaded-box m m' f (box_start + 8 * suc i) 8 (omega arith) (omega arith) ∙ b.registers (suc i) l

-- the same memory has the same box
same-box : (m m' : Memory) (q : State) → m' ≡ m → IsBoxed m q → IsBoxed m' q
same-box m m' q e b = subst (λ (m : Memory). IsBoxed m q) (sym e) b

-- ---- in a run

-- the box holds the state of the restarting gate, or is being written
abbrev HasOrigin : Run → Type 0
HasOrigin r = (q : State) → r.since.origin ≡ Some q → IsBoxed r.shared q ⊎ IsBoxing r

-- where the own hart is, the box is being written too
place-boxing : (r next : Run) → place_of next ≡ place_of r → IsBoxing r → IsBoxing next
place-boxing r next e y =
    record { word = y.word; first = y.first; last = y.last; before = (ap (λ (p : Place). p.view) e ∙ y.before.0, ap (λ (p : Place). p.pc + 4) e ∙ y.before.1) }

place-origin : (r next : Run) → place_of next ≡ place_of r → next.since.origin ≡ r.since.origin → HasOrigin r → HasOrigin next
place-origin r next e o h q is = by_box (h q (sym o ∙ is))
  where
    by_box : IsBoxed r.shared q ⊎ IsBoxing r → IsBoxed next.shared q ⊎ IsBoxing next
    by_box (inl b) = inl (same-box r.shared next.shared q (ap (λ (p : Place). p.shared) e) b)
    by_box (inr y) = inr (place-boxing r next e y)

some-injective : {p q : State} → Some p ≡ Some q → p ≡ q
some-injective e = cc

-- behind an own move
own-origin : (r next : Run) → OwnWord r next → HasOrigin r → HasOrigin next
own-origin r next (at_place e o) h = place-origin r next e o h
own-origin r next (at_free f g e o) h = λ q is. by_box q (h q (sym o ∙ is))
  where
    by_box : (q : State) → IsBoxed r.shared q ⊎ IsBoxing r → IsBoxed next.shared q ⊎ IsBoxing next
    by_box q (inl b) = inl (same-box r.shared next.shared q e b)
    by_box q (inr y) =
        let at : r.own.pc ≡ spot y.word = omega (arith, y.before.1, y.first) in
        absurd (free-boxing (level y.word) (f.by y.word y.before.0 at) (level-boxing y.word y.first y.last))
own-origin r next (at_words k l at to v on o) h = λ q is. by_word q (h q (sym o ∙ is)) on.box
  where
    by_word : (q : State) → IsBoxed r.shared q ⊎ IsBoxing r → IsWriting (level l) ⊎ ((IsWriting (level k) → ⊥) × ((a : ℕ) → 0x4200_1000 ≤ a → next.shared a ≡ r.shared a)) → IsBoxed next.shared q ⊎ IsBoxing next
    by_word q h (inl y) =
        let in_box : (35 ≤ l) × (l ≤ 70) = boxing-level l y in inr (record { word = l; first = in_box.0; last = in_box.1; before = (v, omega (arith, to, in_box.0)) })
    by_word q (inl b) (inr (n, left)) = inl (boxed-stays r.shared next.shared q (record { at = λ a g u. left a g }) b)
    by_word q (inr y) (inr (n, left)) =
        let is : y.word ≡ k = omega (arith, at, y.before.1) in absurd (n (subst (λ k. IsWriting (level k)) is (level-boxing y.word y.first y.last)))
own-origin r next (at_restart b e o runs) h = λ q is.
    let same : r.at_gate ≡ q = some-injective (sym o ∙ is) in
    inl (subst (λ q. IsBoxed next.shared q) same (same-box r.shared next.shared r.at_gate e (record { site = b.2.site; registers = b.2.registers })))

module _ (w : World) (a : Accepted w) where
  -- ---- the other moves

  fetch-origin : (x : Answer) (r : Run) → (step w r (D, x)).since.origin ≡ r.since.origin
  fetch-origin x r = by_end r.end
    where
      by_flight : (o : Option BlockSpot) → (fetch_of o w x (begun r)).since.origin ≡ r.since.origin
      by_flight o = fetch_of-by w x (begun r) (λ next. next.since.origin ≡ r.since.origin) (λ b. refl) o

      by_end : (e : Option RunEnd) → (step_unless e w r (D, x)).since.origin ≡ r.since.origin
      by_end (Some e) = refl
      by_end None = by_flight (in_flight r.cache)

  -- a move of the shadow
  shadow-origin : (before : Moves) (m : Move) (x : Answer) → IsShadowMove m → length before < 2 ^ 64 - 1 → HasOrigin (run w before) → HasOrigin (step w (run w before) (m, x))
  shadow-origin before m x s few h q is = by_box (h q (sym (ap (λ (p : Side). p.tally.origin) side) ∙ is))
    where
      r : Run
      r = run w before

      next : Run
      next = step w r (m, x)

      side : side_of next ≡ side_of r
      side = ap (λ (k : Kept). k.side) (shadow_move-keeps w r m x s)

      by_box : IsBoxed r.shared q ⊎ IsBoxing r → IsBoxed next.shared q ⊎ IsBoxing next
      by_box (inl b) = inl (boxed-stays r.shared next.shared q (grows-at w a before m x s few).box b)
      by_box (inr y) =
          inr (record { word = y.word; first = y.first; last = y.last; before = (ap (λ (p : Side). p.view) side ∙ y.before.0, ap (λ (p : Side). p.own.pc + 4) side ∙ y.before.1) })

  move-origin : (before : Moves) (m : Move) (x : Answer) → length before < 2 ^ 64 - 1 → HasOrigin (run w before) → HasOrigin (step w (run w before) (m, x))
  move-origin before O x few h = own-origin (run w before) _ (own-words w a before x) h
  move-origin before D x few h = place-origin (run w before) _ (fetch-places w a x (run w before)) (fetch-origin x (run w before)) h
  move-origin before S x few h = shadow-origin before S x tt few h
  move-origin before T x few h = shadow-origin before T x tt few h

  all-origin : (ms before : Moves) → length before + length ms < 2 ^ 64 - 1 → HasOrigin (run w before) → HasOrigin (run w (before ++ ms))
  all-origin [] before few h = subst (λ ms. HasOrigin (run w ms)) (sym (append-nil before)) h
  all-origin (m ∷ ms) before few h =
      let one : HasOrigin (run w (before ++ m ∷ [])) = subst HasOrigin (sym (run_from-snoc w (opened_run w) before m)) (move-origin before m.0 m.1 (omega (arith, few)) h) in
      subst (λ ms. HasOrigin (run w ms)) (append_assoc before (m ∷ []) ms) (all-origin ms (before ++ m ∷ []) (omega (arith, few, length-append before (m ∷ []))) one)

-- ---- the law

-- the box is kept
pub box_is_kept : BoxIsKept
unfolding run_from
box_is_kept w a ms q few is = all-origin w a ms [] (omega (arith, few)) (λ q e. none_some e) q is
