-- What the line of a use says.
use Rattle.std.proofs.Common.{◌≡◌, ℕ, suc, ◌+◌, ◌<◌, ◌≤◌, Bool, true, false, not, ◌&&◌, List, Option, refl, ap, ap₂, sym, ◌∙◌, arith, nat_lt}
use Rattle.std.specs.Prelude.{IsTrue}
use Rattle.std.proofs.lemmas.Bool.Decides.{nat_tests}
use Rattle.spec_base.specs.Listed.{is_listed}
use Rattle.std.specs.Option.{option_and_then}
use Rattle.program_model.specs.PlainRun.{State, state_after, all_taken}
use Rattle.spec_base.specs.declared.note.Move.{Move}
use Rattle.run_model.specs.Run.{World, Run, Answer}
use Rattle.run_model.specs.OwnMoves.{stays_behind}
use Rattle.run_model.specs.Moves.{Moves, step, run}
use Rattle.run_model.specs.Marks.{Marks, before_use_with, some_use, IsFirstUse}
use Rattle.mark_laws.proofs.Horizons.{and_left}
use Rattle.use_marks.specs.Along.{numbers_of, has_completed, is_first_use, completes_first_use}
use Rattle.use_marks.proofs.Told.{uses_same, marks_same}
use Rattle.use_marks.proofs.Moved.{Moved, rests, counts, begins, Counts, step-moved, same-count}
use Rattle.use_marks.proofs.Along.{fills-are-settled, first-use-is-said}
use Rattle.program_driver.specs.Uses.{SaysFirstUse, UsesAreFirst}

-- the tests of a first use
record Tests (w : World) (numbers : List ℕ) (r next : Run) : Type 0 where
  completed : has_completed r next ≡ true
  some : 0 < r.restarts
  whole : IsTrue r.since.whole
  first : is_first_use numbers w r r.since.own ≡ true

tests : (w : World) (numbers : List ℕ) (r next : Run) → completes_first_use w numbers r next ≡ true → Tests w numbers r next
tests w numbers r next e = by (has_completed r next) (nat_lt 0 r.restarts) r.since.whole (is_first_use numbers w r r.since.own) refl refl refl refl e
  where
    by : (a b c d : Bool) → has_completed r next ≡ a → nat_lt 0 r.restarts ≡ b → r.since.whole ≡ c → is_first_use numbers w r r.since.own ≡ d → (a && (b && (c && d))) ≡ true → Tests w numbers r next
    by true true true true completed some whole first e = record { completed = completed; some = grind (arith, nat_tests, some); whole = whole; first = first }
    by false b c d completed some whole first e = absurd (let f : false ≡ true = e in cc)
    by true false c d completed some whole first e = absurd (let f : false ≡ true = e in cc)
    by true true false d completed some whole first e = absurd (let f : false ≡ true = e in cc)
    by true true true false completed some whole first e = absurd (let f : false ≡ true = e in cc)

-- what is filled later is no matter for an instruction and those before it
use-same : (w : World) (r y : Run) (origin : y.since.origin ≡ r.since.origin) (numbers others : List ℕ) (i : ℕ) → ((n : ℕ) → n ≤ i → is_listed others n ≡ is_listed numbers n)
    → before_use_with others w y (suc i) ≡ before_use_with numbers w r (suc i)
unfolding before_use_with
use-same w r y origin numbers others i same =
    ap₂ (λ (b c : Bool). b && not c) (uses_same w r y origin numbers others i same)
    (ap₂ (λ (o : Option State) (m : Marks). some_use w.image o m) (ap (λ (o : Option State). option_and_then (λ s. state_after w.image w.files all_taken s i) o) origin) (marks_same w r y origin numbers others i same))

says-first-use : (w : World) (front : Moves) (m : Move × Answer) → let r = run w front in completes_first_use w (numbers_of w front) r (step w r m) ≡ true → SaysFirstUse w (numbers_of w front) r (step w r m)
says-first-use w front m e = by_move (step-moved w r m)
  where
    r : Run
    r = run w front

    next : Run
    next = step w r m

    numbers : List ℕ
    numbers = numbers_of w front

    told : Tests w numbers r next
    told = tests w numbers r next e

    first : IsFirstUse numbers w r r.since.own
    first = (first-use-is-said numbers w r r.since.own).0 told.first

    counted : Counts r next → SaysFirstUse w numbers r next
    counted c =
        record {
          completed = told.completed;
          restarted = told.some;
          whole = told.whole;
          first = first;
          number = c.own ∙ (let e : r.since.own + 1 ≡ suc r.since.own = omega arith in e);
          of_hints = λ ahead. (
              let before : IsTrue r.since.ahead = and_left r.since.ahead (stays_behind r.restarts (r.since.own + 1) r.since.shadow) (sym c.ahead ∙ ahead) in
              let same : (n : ℕ) → n ≤ r.since.own → is_listed next.since.filled n ≡ is_listed numbers n = λ n few. (
              ap (λ l. is_listed l n) c.filled ∙ sym (fills-are-settled w front told.some before n few)) in
              record {
                before = uses_same w r next c.origin numbers next.since.filled r.since.own same ∙ first.before;
                next = use-same w r next c.origin numbers next.since.filled r.since.own same ∙ first.next;
              });
        }

    by_move : Moved r next → SaysFirstUse w numbers r next
    by_move (counts c) = counted c
    by_move (rests n) = absurd (let f : false ≡ true = sym (same-count r.own_done next.own_done n.done) ∙ told.completed in cc)
    by_move (begins b) = absurd (let f : false ≡ true = sym (same-count r.own_done next.own_done b.done) ∙ told.completed in cc)

-- all tests hold
all-true : (a b c d : Bool) → a ≡ true → b ≡ true → c ≡ true → d ≡ true → (a && (b && (c && d))) ≡ true
all-true a b c d e f g h = rw (e, f, g, h) refl

pub uses-are-first : (w : World) (ms : Moves) → UsesAreFirst w ms
uses-are-first w ms front rest m is = record {
  says = says-first-use w front m;
  stands = λ completed some whole first. (
      let r : Run = run w front in
      let numbers : List ℕ = numbers_of w front in
      all-true (has_completed r (step w r m)) (nat_lt 0 r.restarts) r.since.whole (is_first_use numbers w r r.since.own) completed (grind (arith, nat_tests, some)) whole
      ((first-use-is-said numbers w r r.since.own).1 first));
}
