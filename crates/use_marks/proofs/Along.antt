-- What is told of uses along a run: each move keeps what was told, or takes it past the instruction that it completes.
use Rattle.std.proofs.Common.{◌≡◌, ℕ, suc, ◌+◌, ◌<◌, ◌≤◌, Bool, true, false, not, ◌&&◌, ◌==◌, List, [], ◌∷◌, ◌++◌, Option, nat_lt, refl, sym, ◌∙◌, ap, ap₂, subst, add-one, arith}
use Rattle.std.specs.Prelude.{IsTrue}
use Rattle.std.proofs.lemmas.Bool.{and_parts}
use Rattle.std.proofs.lemmas.Bool.Decides.{nat_tests}
use Rattle.spec_base.specs.Listed.{is_listed}
use Rattle.spec_base.specs.declared.note.Move.{Move}
use Rattle.rv_decode.specs.declared.instr.Instr.{Instr}
use Rattle.program_model.specs.PlainRun.{State}
use Rattle.run_model.specs.Run.{World, Run, Answer, opened_run}
use Rattle.run_model.specs.OwnMoves.{stays_behind}
use Rattle.run_model.specs.Moves.{Moves, step, run, run_from}
use Rattle.run_model.specs.Marks.{Marks, no_marks, marks_after, is_use, before_use_with, IsFirstUse}
use Rattle.own_laws.proofs.Reached.{false_true}
use Rattle.use_marks.specs.Told.{IsTold, numbers_after}
use Rattle.use_marks.specs.Along.{has_completed, has_restarted, numbers_by, numbers_then, numbers_from, numbers_of, is_first_use, completes_first_use, own_instr, AreMarksOf, tells_fill, filled_by, Completes}
use Rattle.use_marks.proofs.Told.{start_told, next_told, told_kept, first_use_told, after_earlier, after_here, after_later, listed_other}
use Rattle.use_marks.proofs.Moved.{Rests, Counts, Begins, Moved, rests, counts, begins, same-count, more-count, step-moved}

-- ---- the start, a move that completes nothing, and a restart

-- at the start any marks do
pub start-marks : (w : World) (m : Marks) (unused : Bool) → AreMarksOf w (opened_run w) [] m unused
start-marks w m unused = record { told = λ some. absurd (omega (arith, some)) }

-- what was told of a run holds of a later one with the same restart and the same count
told-there : (w : World) (r y : Run) (numbers : List ℕ) (marks : Marks) (unused : Bool) → y.since.origin ≡ r.since.origin → y.since.own ≡ r.since.own
    → IsTold w r r.since.own numbers marks unused → IsTold w y y.since.own numbers marks unused
told-there w r y numbers marks unused origin own told =
    subst (λ (i : ℕ). IsTold w y i numbers marks unused) (sym own) (told_kept w r y r.since.own numbers marks unused origin told)

-- a move that completes nothing leaves the marks
pub quiet-marks :
    (w : World) (r : Run) (m : Move × Answer) (numbers : List ℕ) (marks : Marks) (unused : Bool) → AreMarksOf w r numbers marks unused →
    has_completed r (step w r m) ≡ false → has_restarted r (step w r m) ≡ false → AreMarksOf w (step w r m) numbers marks unused
quiet-marks w r m numbers marks unused before quiet kept = by_move (step-moved w r m)
  where
    by_move : Moved r (step w r m) → AreMarksOf w (step w r m) numbers marks unused
    by_move (rests n) =
        record {
          told = λ some whole.
              told-there w r (step w r m) numbers marks unused n.origin n.own (before.told (subst (λ (k : ℕ). 0 < k) n.restarts some) (sym n.whole ∙ whole));
        }
    by_move (counts c) = false_true (sym quiet ∙ more-count _ _ c.done)
    by_move (begins b) = false_true (sym kept ∙ more-count _ _ b.restarts)

-- at a restart nothing is marked
pub restart-marks : (w : World) (r : Run) (m : Move × Answer) → has_restarted r (step w r m) ≡ true → AreMarksOf w (step w r m) [] no_marks true
restart-marks w r m begun = by_move (step-moved w r m)
  where
    by_move : Moved r (step w r m) → AreMarksOf w (step w r m) [] no_marks true
    by_move (rests n) = false_true (sym (same-count _ _ n.restarts) ∙ begun)
    by_move (counts c) = false_true (sym (same-count _ _ c.restarts) ∙ begun)
    by_move (begins b) =
        record { told = λ some whole. subst (λ (i : ℕ). IsTold w (step w r m) i [] no_marks true) (sym b.own) (start_told w (step w r m)) }

-- ---- a completed instruction

-- the numbers after a move that completes an instruction
numbers-counted : (r y : Run) (numbers : List ℕ) → Counts r y → numbers_then numbers r y ≡ numbers_after numbers r.since.own (is_listed r.since.filled (suc r.since.own))
numbers-counted r y numbers c = ap₂ (λ (a b : Bool). numbers_by a b numbers r) (same-count _ _ c.restarts) (more-count _ _ c.done)

-- and after one that completes none
numbers-rested : (r y : Run) (numbers : List ℕ) → Rests r y → numbers_then numbers r y ≡ numbers
numbers-rested r y numbers n = ap₂ (λ (a b : Bool). numbers_by a b numbers r) (same-count _ _ n.restarts) (same-count _ _ n.done)

-- and after a restart
numbers-begun : (r y : Run) (numbers : List ℕ) → Begins r y → numbers_then numbers r y ≡ []
numbers-begun r y numbers b = ap (λ (a : Bool). numbers_by a (has_completed r y) numbers r) (more-count _ _ b.restarts)

-- a completed instruction takes the marks on, and is the first use exactly where none was one before it and it is one by the marks
pub record PassesMarks (w : World) (r next : Run) (numbers : List ℕ) (m : Marks) (unused : Bool) (s : State) : Type 0 where
  pub marks :
      AreMarksOf w next (numbers_then numbers r next)
      (marks_after w.image.layout (is_listed r.since.filled (suc r.since.own)) s (own_instr w r) m) (unused && not (is_use w.image.layout s (own_instr w r) m))
  pub first : completes_first_use w numbers r next ≡ (unused && is_use w.image.layout s (own_instr w r) m)

pub completed-marks :
    (w : World) (r : Run) (x : Move × Answer) (numbers : List ℕ) (m : Marks) (unused : Bool) (s : State) → AreMarksOf w r numbers m unused →
    has_completed r (step w r x) ≡ true → 0 < r.restarts → IsTrue r.since.whole → Completes w r s → PassesMarks w r (step w r x) numbers m unused s
completed-marks w r x numbers m unused s before completed some whole next = by_move (step-moved w r x)
  where
    y : Run
    y = step w r x

    filled : Bool
    filled = is_listed r.since.filled (suc r.since.own)

    told : IsTold w r r.since.own numbers m unused
    told = before.told some whole

    -- the marks after the instruction that stands there, which is the one that was completed
    after : Marks
    after = marks_after w.image.layout filled s (own_instr w r) m

    still : Bool
    still = unused && not (is_use w.image.layout s (own_instr w r) m)

    next-told : IsTold w r (suc r.since.own) (numbers_after numbers r.since.own filled) after still
    next-told =
        subst (λ (o : Option Instr). IsTold w r (suc r.since.own) (numbers_after numbers r.since.own filled) (marks_after w.image.layout filled s o m) (unused && not (is_use w.image.layout s o m))) next.instr
        (next_told w r r.since.own numbers m unused filled s told next.at)

    told-here : Counts r y → IsTold w y y.since.own (numbers_then numbers r y) after still
    told-here c =
        subst (λ (k : List ℕ). IsTold w y y.since.own k after still) (sym (numbers-counted r y numbers c))
        (subst (λ (i : ℕ). IsTold w y i (numbers_after numbers r.since.own filled) after still) (sym (c.own ∙ add-one r.since.own))
        (told_kept w r y (suc r.since.own) (numbers_after numbers r.since.own filled) after still c.origin next-told))

    -- the three tests hold
    all-hold : (a b c d : Bool) → a ≡ true → b ≡ true → c ≡ true → (a && (b && (c && d))) ≡ d
    all-hold a b c d e f g = rw (e, f, g) refl

    first : completes_first_use w numbers r y ≡ (unused && is_use w.image.layout s (own_instr w r) m)
    first =
        all-hold (has_completed r y) (nat_lt 0 r.restarts) r.since.whole (is_first_use numbers w r r.since.own) completed (grind (arith, nat_tests, some)) whole
        ∙ first_use_told w r r.since.own numbers m unused s told next.at
        ∙ ap (λ (o : Option Instr). unused && is_use w.image.layout s o m) next.instr

    by_move : Moved r y → PassesMarks w r y numbers m unused s
    by_move (counts c) = record { marks = record { told = λ some whole. told-here c }; first = first }
    by_move (rests n) = false_true (sym (same-count _ _ n.done) ∙ completed)
    by_move (begins b) = false_true (sym (same-count _ _ b.done) ∙ completed)

-- where nothing was restarted, or a put wasn't whole, it isn't so that the shadow was restarted and each put was whole
unsure-not : (n : ℕ) (whole : Bool) → (nat_lt 0 n && whole) ≡ false → 0 < n → whole ≡ true → ⊥
unsure-not n whole unsure some e = let more : nat_lt 0 n ≡ true = grind (arith, nat_tests) in false_true (sym unsure ∙ rw (more, e) refl)

-- so it stays, unless the shadow is restarted
unsure-stays : (r y : Run) → Moved r y → has_restarted r y ≡ false → (nat_lt 0 r.restarts && r.since.whole) ≡ false → 0 < y.restarts → IsTrue y.since.whole → ⊥
unsure-stays r y (rests n) kept unsure some whole = unsure-not r.restarts r.since.whole unsure (subst (λ (k : ℕ). 0 < k) n.restarts some) (sym n.whole ∙ whole)
unsure-stays r y (counts c) kept unsure some whole = unsure-not r.restarts r.since.whole unsure (subst (λ (k : ℕ). 0 < k) c.restarts some) (c.whole whole)
unsure-stays r y (begins b) kept unsure some whole = false_true (sym kept ∙ more-count _ _ b.restarts)

-- where nothing was restarted, or a put wasn't whole, no move completes a first use, and nothing is promised of the marks behind it
pub others-complete-none :
    (w : World) (r : Run) (x : Move × Answer) (numbers : List ℕ) (m : Marks) (unused : Bool) →
    has_restarted r (step w r x) ≡ false → (nat_lt 0 r.restarts && r.since.whole) ≡ false →
    (completes_first_use w numbers r (step w r x) ≡ false) × AreMarksOf w (step w r x) (numbers_then numbers r (step w r x)) m unused
others-complete-none w r x numbers m unused kept unsure = (
  none (has_completed r (step w r x)) (nat_lt 0 r.restarts) r.since.whole (is_first_use numbers w r r.since.own) unsure,
  record { told = λ some whole. absurd (unsure-stays r (step w r x) (step-moved w r x) kept unsure some whole) },
)
  where
    none : (a b c d : Bool) → (b && c) ≡ false → (a && (b && (c && d))) ≡ false
    none false b c d e = refl
    none true false c d e = refl
    none true true false d e = refl
    none true true true d e = false_true (sym e)

-- ---- which reads the shadow has filled

-- the notes tell each filled read: it has the number of the shadow's next instruction
pub notes-tell-fills :
    (w : World) (r : Run) (m : Move × Answer) → let next : Run = step w r m in
    next.since.filled ≡ filled_by (has_restarted r next) (tells_fill next.notes) r
notes-tell-fills w r m = by_move (step-moved w r m)
  where
    y : Run
    y = step w r m

    by_move : Moved r y → y.since.filled ≡ filled_by (has_restarted r y) (tells_fill y.notes) r
    by_move (rests n) = n.fills.filled ∙ sym (ap (λ (b : Bool). filled_by b (tells_fill y.notes) r) (same-count _ _ n.restarts))
    by_move (counts c) = c.filled ∙ sym (ap₂ (λ (a b : Bool). filled_by a b r) (same-count _ _ c.restarts) c.silent)
    by_move (begins b) = b.filled ∙ sym (ap (λ (a : Bool). filled_by a (tells_fill y.notes) r) (more-count _ _ b.restarts))

-- ---- the numbers, move by move

numbers_from-snoc : (w : World) (numbers : List ℕ) (r : Run) (ms : Moves) (m : Move × Answer)
    → numbers_from w numbers r (ms ++ m ∷ []) ≡ numbers_then (numbers_from w numbers r ms) (run_from w r ms) (step w (run_from w r ms) m)
unfolding numbers_from run_from
numbers_from-snoc w numbers r [] m = refl
numbers_from-snoc w numbers r (n ∷ ms) m = numbers_from-snoc w (numbers_then numbers r (step w r n)) (step w r n) ms m

-- the numbers of filled reads after one more move
pub numbers-snoc : (w : World) (ms : Moves) (m : Move × Answer) → numbers_of w (ms ++ m ∷ []) ≡ numbers_then (numbers_of w ms) (run w ms) (step w (run w ms) m)
numbers-snoc w ms m = numbers_from-snoc w [] (opened_run w) ms m

-- ---- fills are settled

-- since the last restart: the own hart has passed no more than the shadow, and the numbers are those of the filled reads that it has passed
record Settled (r : Run) (numbers : List ℕ) : Type 0 where
  behind : 0 < r.restarts → IsTrue r.since.ahead → r.since.own ≤ r.since.shadow
  none : 0 < r.restarts → (n : ℕ) → r.since.own < n → is_listed numbers n ≡ false
  same : 0 < r.restarts → IsTrue r.since.ahead → (n : ℕ) → n ≤ r.since.own → is_listed numbers n ≡ is_listed r.since.filled n

-- a fill is of a later read
later-fill : (b : Bool) (r : Run) (n : ℕ) → n ≤ r.since.shadow → is_listed (filled_by false b r) n ≡ is_listed r.since.filled n
later-fill true r n h = listed_other r.since.filled (r.since.shadow + 1) n (grind (arith, nat_tests))
later-fill false r n h = refl

settled-rested : (r y : Run) (numbers : List ℕ) → Rests r y → Settled r numbers → Settled y numbers
settled-rested r y numbers n s =
    let some : 0 < y.restarts → 0 < r.restarts = λ h. subst (λ (k : ℕ). 0 < k) n.restarts h in
    let ahead : IsTrue y.since.ahead → IsTrue r.since.ahead = λ h. sym n.fills.ahead ∙ h in
    record {
      behind = λ h a. let k : r.since.own ≤ r.since.shadow = s.behind (some h) (ahead a) in omega (arith, k, n.own, n.fills.shadow);
      none = λ h k more. s.none (some h) k (omega (arith, more, n.own));
      same = λ h a k few.
          let least : r.since.own ≤ r.since.shadow = s.behind (some h) (ahead a) in
          s.same (some h) (ahead a) k (omega (arith, few, n.own))
          ∙ (sym (later-fill (tells_fill y.notes) r k (omega (arith, few, n.own, least))) ∙ ap (λ (f : List ℕ). is_listed f k) (sym n.fills.filled));
    }

-- a count that stays behind
count-behind : (n own shadow : ℕ) → 0 < n → IsTrue (stays_behind n own shadow) → own ≤ shadow
count-behind n own shadow some h = grind (arith, nat_tests)

settled-counted : (r y : Run) (numbers : List ℕ) → Counts r y → Settled r numbers → Settled y (numbers_after numbers r.since.own (is_listed r.since.filled (suc r.since.own)))
settled-counted r y numbers c s =
    let some : 0 < y.restarts → 0 < r.restarts = λ h. subst (λ (k : ℕ). 0 < k) c.restarts h in
    record {
      behind = λ h a.
          let k : r.since.own + 1 ≤ r.since.shadow = count-behind r.restarts (r.since.own + 1) r.since.shadow (some h) (parts a).1 in
          omega (arith, k, c.own, c.shadow);
      none = λ h k more. after_later numbers r.since.own k filled (omega (arith, more, c.own)) (s.none (some h) k (omega (arith, more, c.own)));
      same = λ h a k few. by_place (some h) (parts a).0 k (k == suc r.since.own) refl few ∙ ap (λ (f : List ℕ). is_listed f k) (sym c.filled);
    }
  where
    filled : Bool
    filled = is_listed r.since.filled (suc r.since.own)

    parts : IsTrue y.since.ahead → IsTrue r.since.ahead × IsTrue (stays_behind r.restarts (r.since.own + 1) r.since.shadow)
    parts a = and_parts r.since.ahead _ (sym c.ahead ∙ a)

    by_place : 0 < r.restarts → IsTrue r.since.ahead → (k : ℕ) (b : Bool) → (k == suc r.since.own) ≡ b → k ≤ y.since.own → is_listed (numbers_after numbers r.since.own filled) k ≡ is_listed r.since.filled k
    by_place some a k true e few =
        let here : k ≡ suc r.since.own = grind (arith, nat_tests, e) in
        ap (is_listed (numbers_after numbers r.since.own filled)) here
        ∙ (after_here numbers r.since.own filled (s.none some (suc r.since.own) (omega arith)) ∙ ap (is_listed r.since.filled) (sym here))
    by_place some a k false e few =
        let other : k ≤ r.since.own = grind (arith, nat_tests, e, few, c.own) in
        after_earlier numbers r.since.own k filled other ∙ s.same some a k other

settled-begun : (r y : Run) → Begins r y → Settled y []
settled-begun r y b =
    record {
      behind = λ h a. omega (arith, b.own);
      none = λ h k more. refl;
      same = λ h a k few. ap (λ (f : List ℕ). is_listed f k) (sym b.filled);
    }

settled-moved : (r y : Run) (numbers : List ℕ) → Moved r y → Settled r numbers → Settled y (numbers_then numbers r y)
settled-moved r y numbers (rests n) s = subst (λ (k : List ℕ). Settled y k) (sym (numbers-rested r y numbers n)) (settled-rested r y numbers n s)
settled-moved r y numbers (counts c) s = subst (λ (k : List ℕ). Settled y k) (sym (numbers-counted r y numbers c)) (settled-counted r y numbers c s)
settled-moved r y numbers (begins b) s = subst (λ (k : List ℕ). Settled y k) (sym (numbers-begun r y numbers b)) (settled-begun r y b)

settled-from : (w : World) (ms : Moves) (r : Run) (numbers : List ℕ) → Settled r numbers → Settled (run_from w r ms) (numbers_from w numbers r ms)
unfolding numbers_from run_from
settled-from w [] r numbers s = s
settled-from w (m ∷ ms) r numbers s = settled-from w ms (step w r m) (numbers_then numbers r (step w r m)) (settled-moved r (step w r m) numbers (step-moved w r m) s)

settled-run : (w : World) (ms : Moves) → Settled (run w ms) (numbers_of w ms)
settled-run w ms =
    settled-from w ms (opened_run w) []
    (record { behind = λ h. absurd (omega (arith, h)); none = λ h. absurd (omega (arith, h)); same = λ h. absurd (omega (arith, h)) })

-- while the own hart isn't past the shadow, what was filled up to its count stays so
pub fills-are-settled :
    (w : World) (ms : Moves) → let r = run w ms in 0 < r.restarts → IsTrue r.since.ahead → (n : ℕ) → n ≤ r.since.own →
    is_listed (numbers_of w ms) n ≡ is_listed r.since.filled n
fills-are-settled w ms some ahead n few = (settled-run w ms).same some ahead n few

-- ---- the first use that is told

-- it is the first use that is told
pub first-use-is-said : (numbers : List ℕ) (w : World) (r : Run) (i : ℕ) → (is_first_use numbers w r i ≡ true → IsFirstUse numbers w r i) × (IsFirstUse numbers w r i → is_first_use numbers w r i ≡ true)
first-use-is-said numbers w r i = (
  λ h. let p : IsTrue (before_use_with numbers w r i) × (before_use_with numbers w r (suc i) ≡ false) = parts _ _ h in record { before = p.0; next = p.1 },
  λ first. rw (first.before, first.next) refl,
)
  where
    parts : (a b : Bool) → (a && not b) ≡ true → (a ≡ true) × (b ≡ false)
    parts true false h = (refl, refl)
    parts true true h = false_true h
    parts false b h = false_true h
