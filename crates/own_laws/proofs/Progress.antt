-- Each stretch of moves with an own move and a fetch brings the program on: 200 of them complete an instruction, or the run is over.
use Rattle.std.proofs.Common.{◌≡◌, ℕ, zero, suc, ◌+◌, ◌*◌, ◌≤◌, ◌<◌, ◌⊎◌, inl, inr, true, false, [], ◌∷◌, ◌++◌, Option, Some, None, refl, ◌∙◌, ap, sym, subst, arith, is_some, zero-add, suc-add, append_assoc}
use Rattle.std.specs.Prelude.{IsSome}
use Rattle.spec_base.specs.declared.note.Move.{Move}
use Rattle.spec_base.specs.declared.note.Move.TheVariants.{O, S, T, D}
use Rattle.run_model.specs.Run.{World, Run, RunEnd, Answer, opened_run}
use Rattle.run_model.specs.Moves.{Moves, step, step_unless, silent, run, run_from}
use Rattle.run_laws.specs.OwnLaws.{Accepted, HasOwn, HasFetch, Stretches, Progress}
use Rattle.own_laws.proofs.Demand.{rank, rank-stub, rank-program, rank-most, Demand}
use Rattle.own_laws.proofs.Gets.{done, ends, lower, Moved, gets, idle, move-moved}
use Rattle.own_laws.proofs.OwnLaws.{own_side}
use Rattle.own_laws.proofs.OwnSide.{OwnSide, in_program, in_stub, at_call, waits, called, over, step-goes}
use Rattle.own_laws.proofs.Reached.{none_some, false_true}
use Rattle.own_laws.proofs.Side.{side_of}
use Rattle.own_laws.proofs.StubWords.{three}
use Rattle.own_laws.proofs.MoveLists.{run_from-append}

-- n instructions are done and at most k own moves are left, or more are done, or the run is over
data AtMost (n k : ℕ) (r : Run) : Type 0 where
  stopped : is_some r.end ≡ true → AtMost n k r
  more : n < r.own_done → AtMost n k r
  still : r.own_done ≡ n → rank (side_of r) ≤ k → AtMost n k r

-- more than n instructions are done, or the run is over
abbrev Done : ℕ → Run → Type 0
Done n r = (is_some r.end ≡ true) ⊎ (n < r.own_done)

-- a stretch needs an own move or a stall, and a fetch or none
abbrev OwnComes : Moves → Run → Type 0
OwnComes ms r = HasOwn ms ⊎ (r.stalled ≡ true)

-- or a fetch, or no stall
abbrev FetchComes : Moves → Run → Type 0
FetchComes ms r = HasFetch ms ⊎ (r.stalled ≡ false)

module _ (w : World) (accepted : Accepted w) where
  -- ---- what is kept

  pub record Keeps (r : Run) : Type 0 where
    pub side : OwnSide w (side_of r)
    pub demand : r.end ≡ None → Demand r

  -- what is demanded after a move
  demand-after : (r r' : Run) (m : Move) → Moved r r' m → r'.end ≡ None → Demand r'
  demand-after r r' m (gets (done e d)) z = d
  demand-after r r' m (gets (ends e)) z = false_true (sym (ap is_some z) ∙ e)
  demand-after r r' m (gets (lower e l d)) z = d
  demand-after r r' m (idle e d a b) z = d

  -- an ended run only falls silent
  step-ended : (r : Run) (m : Move) (x : Answer) (e : RunEnd) → r.end ≡ Some e → step w r (m, x) ≡ silent r
  step-ended r m x e z = ap (λ end. step_unless end w r (m, x)) z

  -- a step keeps it
  pub keeps : (r : Run) (m : Move) (x : Answer) → Keeps r → Keeps (step w r (m, x))
  keeps r m x k = record { side = step-goes w accepted r m x k.side; demand = λ z. by_end r.end refl z }
    where
      by_end : (e : Option RunEnd) → r.end ≡ e → (step w r (m, x)).end ≡ None → Demand (step w r (m, x))
      by_end None p z = demand-after r _ m (move-moved w accepted r m x k.side (k.demand p) p) z
      by_end (Some e) p z = none_some (sym z ∙ ap (λ n. n.end) (step-ended r m x e p) ∙ p)

  -- so does a list of moves
  all_keeps : (ms : Moves) (r : Run) → Keeps r → Keeps (run_from w r ms)
  unfolding run_from
  all_keeps [] r k = k
  all_keeps (m ∷ ms) r k = all_keeps ms _ (keeps r m.0 m.1 k)

  -- ---- no move brings back what is done

  -- a move that gets on or is idle
  most-after : (r r' : Run) (n k : ℕ) (m : Move) → r.end ≡ None → Moved r r' m → AtMost n k r → AtMost n k r'
  most-after r r' n k m z y (stopped o) = false_true (sym (ap is_some z) ∙ o)
  most-after r r' n k m z (gets (done e d)) (more l) = more (omega (arith, l, e))
  most-after r r' n k m z (gets (ends e)) (more l) = stopped e
  most-after r r' n k m z (gets (lower e f d)) (more l) = more (omega (arith, l, e))
  most-after r r' n k m z (idle e d a b) (more l) = more (subst (λ i. n < i) (sym (ap (λ p. p.tally.done) e)) l)
  most-after r r' n k m z (gets (done e d)) (still s l) = more (omega (arith, s, e))
  most-after r r' n k m z (gets (ends e)) (still s l) = stopped e
  most-after r r' n k m z (gets (lower e f d)) (still s l) = still (e ∙ s) (omega (arith, f, l))
  most-after r r' n k m z (idle e d a b) (still s l) = still (ap (λ p. p.tally.done) e ∙ s) (subst (λ i. i ≤ k) (sym (ap rank e)) l)

  -- what is told changes nothing
  silent-most : (r : Run) (n k : ℕ) → AtMost n k r → AtMost n k (silent r)
  silent-most r n k (stopped o) = stopped o
  silent-most r n k (more l) = more l
  silent-most r n k (still s l) = still s l

  -- a step
  step-most : (r : Run) (n k : ℕ) (m : Move) (x : Answer) → Keeps r → AtMost n k r → AtMost n k (step w r (m, x))
  step-most r n k m x i h = by_end r.end refl
    where
      by_end : (e : Option RunEnd) → r.end ≡ e → AtMost n k (step w r (m, x))
      by_end (Some e) p = subst (λ r. AtMost n k r) (sym (step-ended r m x e p)) (silent-most r n k h)
      by_end None p = most-after r _ n k m p (move-moved w accepted r m x i.side (i.demand p) p) h

  -- a list of moves
  run-most : (ms : Moves) (r : Run) (n k : ℕ) → Keeps r → AtMost n k r → AtMost n k (run_from w r ms)
  unfolding run_from
  run-most [] r n k i h = h
  run-most (m ∷ ms) r n k i h = run-most ms _ n k (keeps r m.0 m.1 i) (step-most r n k m.0 m.1 i h)

  -- ---- a stretch with an own move and a fetch lowers what is left

  -- the own move comes first, or later
  first_own : (m : Move) (x : Answer) (ms : Moves) → HasOwn ((m, x) ∷ ms) → (m ≡ O) ⊎ HasOwn ms
  first_own O x ms h = inl refl
  first_own S x ms h = inr h
  first_own T x ms h = inr h
  first_own D x ms h = inr h

  -- the fetch comes first, or later
  first_fetch : (m : Move) (x : Answer) (ms : Moves) → HasFetch ((m, x) ∷ ms) → (m ≡ D) ⊎ HasFetch ms
  first_fetch D x ms h = inl refl
  first_fetch O x ms h = inr h
  first_fetch S x ms h = inr h
  first_fetch T x ms h = inr h

  -- what is still to come after a move that was idle
  own_left : (m : Move × Answer) (ms : Moves) (r r' : Run) → r'.stalled ≡ r.stalled → (m.0 ≡ O → r.stalled ≡ true) → OwnComes (m ∷ ms) r → OwnComes ms r'
  own_left m ms r r' same own (inr t) = inr (same ∙ t)
  own_left m ms r r' same own (inl o) = by_first (first_own m.0 m.1 ms o)
    where
      by_first : (m.0 ≡ O) ⊎ HasOwn ms → OwnComes ms r'
      by_first (inl e) = inr (same ∙ own e)
      by_first (inr o) = inl o

  -- the same of the fetch
  fetch_left : (m : Move × Answer) (ms : Moves) (r r' : Run) → r'.stalled ≡ r.stalled → (m.0 ≡ D → r.stalled ≡ false) → FetchComes (m ∷ ms) r → FetchComes ms r'
  fetch_left m ms r r' same fetch (inr t) = inr (same ∙ t)
  fetch_left m ms r r' same fetch (inl o) = by_first (first_fetch m.0 m.1 ms o)
    where
      by_first : (m.0 ≡ D) ⊎ HasFetch ms → FetchComes ms r'
      by_first (inl e) = inr (same ∙ fetch e)
      by_first (inr o) = inl o

  -- so after a stretch one own move less is left
  stretch : (ms : Moves) (r : Run) (n k : ℕ) → Keeps r → AtMost n (suc k) r → OwnComes ms r → FetchComes ms r → AtMost n k (run_from w r ms)
  unfolding run_from
  stretch ms r n k i (stopped o) a b = run-most ms r n k i (stopped o)
  stretch ms r n k i (more l) a b = run-most ms r n k i (more l)
  stretch [] r n k i (still s l) (inl a) b = absurd a
  stretch [] r n k i (still s l) (inr a) (inl b) = absurd b
  stretch [] r n k i (still s l) (inr a) (inr b) = false_true (sym b ∙ a)
  stretch (m ∷ ms) r n k i (still s l) a b = by_end (stretch ms (step w r m) n k (keeps r m.0 m.1 i)) r.end refl
    where
      next : Run
      next = step w r m

      after : Keeps next
      after = keeps r m.0 m.1 i

      by_move : (AtMost n (suc k) next → OwnComes ms next → FetchComes ms next → AtMost n k (run_from w next ms)) → Moved r next m.0 → AtMost n k (run_from w next ms)
      by_move rec (gets (done e d)) = run-most ms next n k after (more (omega (arith, s, e)))
      by_move rec (gets (ends e)) = run-most ms next n k after (stopped e)
      by_move rec (gets (lower e f d)) = run-most ms next n k after (still (e ∙ s) (omega (arith, l, f)))
      by_move rec (idle e d own fetch) =
          rec (still (ap (λ p. p.tally.done) e ∙ s) (subst (λ j. j ≤ suc k) (sym (ap rank e)) l))
          (own_left m ms r next (ap (λ p. p.stalled) e) own a) (fetch_left m ms r next (ap (λ p. p.stalled) e) fetch b)

      by_end : (AtMost n (suc k) next → OwnComes ms next → FetchComes ms next → AtMost n k (run_from w next ms)) → (e : Option RunEnd) → r.end ≡ e → AtMost n k (run_from w next ms)
      by_end rec (Some e) p = run-most ms next n k after (step-most r n k m.0 m.1 i (stopped (ap is_some p)))
      by_end rec None p = by_move rec (move-moved w accepted r m.0 m.1 i.side (i.demand p) p)

  -- ---- many stretches

  -- while a run goes on, own moves are left
  rank-positive : (r : Run) → OwnSide w (side_of r) → Demand r → r.end ≡ None → 0 < rank (side_of r)
  rank-positive r (in_program t site gate s page h f is) d z = omega (arith, rank-program (side_of r) (ap (λ p. p.view) is))
  rank-positive r (in_stub t q k a b c page g row most is) d z = omega (arith, ap rank is, rank-stub q q t false k (three q.registers a b c) page)
  rank-positive r (at_call t q page g is) d z = omega (arith, ap rank is, rank-stub q q t false 26 q.registers page)
  rank-positive r (waits t q page g is) d z =
      omega (arith, ap rank is, rank-stub q q t true 26 q.registers page, d.room (ap (λ p. p.stalled) is), ap (λ p. p.tally.gathered) is)
  rank-positive r (called t q s k page h f y p is) d z = omega (arith, ap rank is, rank-stub q s t false 27 s.registers page)
  rank-positive r (over s e h o) d z = none_some (sym z ∙ o.ended)

  -- where none is left, an instruction is done or the run is over
  nothing_left : (r : Run) (n : ℕ) → Keeps r → AtMost n 0 r → Done n r
  nothing_left r n i (stopped o) = inl o
  nothing_left r n i (more l) = inr l
  nothing_left r n i (still s l) = by_end r.end refl
    where
      by_end : (e : Option RunEnd) → r.end ≡ e → Done n r
      by_end (Some e) p = inl (ap is_some p)
      by_end None p = absurd (omega (arith, l, rank-positive r i.side (i.demand p) p))

  -- k stretches use up k own moves
  finish : (k : ℕ) (ms : Moves) (r : Run) (n : ℕ) → Keeps r → AtMost n k r → Stretches k ms → Done n (run_from w r ms)
  finish zero ms r n i h s = nothing_left _ n (all_keeps ms r i) (run-most ms r n 0 i h)
  finish (suc k) ms r n i h (first, rest, e, own, fetch, s) =
      subst (λ ms. Done n (run_from w r ms)) (sym e)
      (subst (λ z. Done n z) (sym (run_from-append w r first rest))
      (finish k rest (run_from w r first) n (all_keeps first r i) (stretch first r n k i h (inl own) (inl fetch)) s))

  -- a + b stretches are a and then b
  split : (a b : ℕ) (ms : Moves) → Stretches (a + b) ms → (x : Moves) × (y : Moves) × (ms ≡ x ++ y) × Stretches a x × Stretches b y
  split zero b ms h = ([], ms, refl, tt, subst (λ n. Stretches n ms) (zero-add b) h)
  split (suc a) b ms h =
      let g : Stretches (suc (a + b)) ms = subst (λ n. Stretches n ms) (suc-add a b) h in
      let z = split a b g.1 g.5 in
      (g.0 ++ z.0, z.1, g.2 ∙ ap (λ t. g.0 ++ t) z.2 ∙ sym (append_assoc g.0 z.0 z.1), (g.0, z.0, refl, g.3, g.4, z.3), z.4)

  -- 200 stretches complete an instruction, or the run is over
  one_on : (ms : Moves) (r : Run) → Keeps r → Stretches 200 ms → Done r.own_done (run_from w r ms)
  one_on ms r i s = finish 200 ms r r.own_done i (still refl (omega (arith, rank-most (side_of r)))) s

  -- a run that is over stays so
  over_stays : (ms : Moves) (r : Run) → Keeps r → is_some r.end ≡ true → is_some (run_from w r ms).end ≡ true
  unfolding run_from
  over_stays [] r i e = e
  over_stays (m ∷ ms) r i e = over_stays ms _ (keeps r m.0 m.1 i) (by_end r.end refl)
    where
      by_end : (o : Option RunEnd) → r.end ≡ o → is_some (step w r m).end ≡ true
      by_end (Some y) p = ap (λ n. is_some n.end) (step-ended r m.0 m.1 y p) ∙ e
      by_end None p = false_true (sym (ap is_some p) ∙ e)

  -- the run is over, or q more instructions are done
  abbrev On : ℕ → Run → Run → Type 0
  On q r r' = (is_some r'.end ≡ true) ⊎ (r.own_done + q ≤ r'.own_done)

  -- 200 q stretches complete q instructions, or the run is over
  gets_on : (q : ℕ) (ms : Moves) (r : Run) → Keeps r → Stretches (200 * q) ms → On q r (run_from w r ms)
  gets_on zero ms r i s = by_most (run-most ms r r.own_done 137 i (still refl (rank-most (side_of r))))
    where
      by_most : AtMost r.own_done 137 (run_from w r ms) → On 0 r (run_from w r ms)
      by_most (stopped o) = inl o
      by_most (more l) = inr (omega (arith, l))
      by_most (still e l) = inr (omega (arith, e))
  gets_on (suc q) ms r i s =
      let e : 200 * suc q ≡ 200 + 200 * q = omega arith in
      let z = split 200 (200 * q) ms (subst (λ n. Stretches n ms) e s) in
      let mid : Run = run_from w r z.0 in
      let k : Keeps mid = all_keeps z.0 r i in
      subst (λ (n : Run). On (suc q) r n) (sym (ap (run_from w r) z.2 ∙ run_from-append w r z.0 z.1))
      (by_done z.1 mid k (one_on z.0 r i z.3) (gets_on q z.1 mid k z.4))
    where
      by_done : (rest : Moves) (mid : Run) → Keeps mid → Done r.own_done mid → On q mid (run_from w mid rest) → On (suc q) r (run_from w mid rest)
      by_done rest mid k d (inl o) = inl o
      by_done rest mid k (inl o) (inr l) = inl (over_stays rest mid k o)
      by_done rest mid k (inr n) (inr l) = inr (omega (arith, n, l))

-- it is so where a run begins
pub start-keeps : (w : World) (a : Accepted w) → Keeps w a (opened_run w)
unfolding run_from
start-keeps w a = record { side = own_side w a []; demand = λ z. record { same = refl; room = λ e. false_true e } }

-- the program gets on
pub progresses : Progress
unfolding run_from
progresses w a q ms s =
    by_case (gets_on w a q ms (opened_run w) (record { side = start; demand = λ z. record { same = refl; room = λ e. false_true e } }) s)
  where
    start : OwnSide w (side_of (opened_run w))
    start = own_side w a []

    by_case : On w a q (opened_run w) (run w ms) → IsSome (run w ms).end ⊎ (q ≤ (run w ms).own_done)
    by_case (inl o) = inl o
    by_case (inr l) = inr (omega (arith, l))
