-- Logs of stores, call by call.
use Rattle.spec_base.specs.Listed.{is_listed}
use Rattle.std.proofs.Common.{◌≡◌, ℕ, ◌+◌, ◌-◌, ◌≤◌, ◌<◌, ◌^◌, min, Bool, true, false, List, [], ◌∷◌, ◌++◌, length, arith, ap, refl, ◌∙◌, Some, None, Option, IfSome, length-append}
use Rattle.world_io.specs.Outside.{StoreState, Numbers, Rose, Steady, KeepsFiles, Counts}
use Rattle.world_io.specs.Logs.{StoreLog, AreListed, numbers_after, failures}
use Rattle.world_io.specs.Looks.{look_failed}
use Rattle.world_io.specs.Fetches.{fetch_failed}
use Rattle.world_io.specs.declared.store.Look.{Look}
use Rattle.world_io.specs.declared.store.Look.TheVariants.{Found, Absent, Failed}
use Rattle.world_io.specs.declared.store.Fetch.{Fetch}
use Rattle.world_io.specs.declared.store.Fetch.TheVariants.{Got, Failed as FetchFailed}

same_numbers : (o : Option Numbers) → IfSome o (λ n. n.calls + 0 < 2 ^ 64 → (o ≡ Some (numbers_after n [])) × Unit {0})
same_numbers None = tt
same_numbers (Some n) = λ few. (ap (λ m. Some (record { calls = m; fails = n.fails })) (omega arith), tt)

-- no call
pub none-StoreLog : (a : StoreState) → StoreLog a [] a
none-StoreLog a = record { keeps = record { files = refl; later = omega arith }; counted = omega arith; numbers = same_numbers a.numbers }

more_failures : (a b c : ℕ) (log : List Bool) (failed : Bool) → min (a + failures log) (2 ^ 64 - 1) ≤ b → b ≤ c
    → (failed ≡ true → Rose b c) → min (a + failures (failed ∷ log)) (2 ^ 64 - 1) ≤ c
more_failures a b c log true h later rose = (let r = rose refl in omega arith)
more_failures a b c log false h later rose = omega arith

more_numbers : (b c : StoreState) (log : List Bool) (failed : Bool) (o : Option Numbers)
    → IfSome o (λ n. n.calls + length log < 2 ^ 64 → (b.numbers ≡ Some (numbers_after n log)) × AreListed n log) → Counts b failed c
    → IfSome o (λ n. n.calls + length (failed ∷ log) < 2 ^ 64 → (c.numbers ≡ Some (numbers_after n (failed ∷ log))) × AreListed n (failed ∷ log))
more_numbers b c log failed None went counts = tt
more_numbers b c log failed (Some n) went counts = λ few.
    let before = went (omega arith) in
    let now = (rw before.0 at counts) (omega arith) in
    (now.0 ∙ ap (λ m. Some (record { calls = m; fails = n.fails })) (omega arith), (now.1, before.1))

-- one more call, whose number was the next
pub call-StoreLog : (a b c : StoreState) (log : List Bool) (failed : Bool) → StoreLog a log b
    → KeepsFiles b c → (failed ≡ true → Rose b.faults c.faults) → Counts b failed c → StoreLog a (failed ∷ log) c
call-StoreLog a b c log failed went keeps rose counts = record {
  keeps = record { files = keeps.files ∙ went.keeps.files; later = omega (arith, keeps.later, went.keeps.later) };
  counted = more_failures a.faults b.faults c.faults log failed went.counted keeps.later rose;
  numbers = more_numbers b c log failed a.numbers went.numbers counts;
}

look_Rose : (answer : Look) (before now : ℕ) → (answer ≡ Failed → Rose before now) → look_failed answer ≡ true → Rose before now
look_Rose Failed before now rose e = rose refl
look_Rose (Found size) before now rose e = cc
look_Rose Absent before now rose e = cc

-- one look
pub look-StoreLog : (a b : StoreState) (answer : Look) → KeepsFiles a b → (answer ≡ Failed → Rose a.faults b.faults)
    → Counts a (look_failed answer) b → StoreLog a (look_failed answer ∷ []) b
look-StoreLog a b answer keeps rose counts =
    call-StoreLog a a b [] (look_failed answer) (none-StoreLog a) keeps (look_Rose answer a.faults b.faults rose) counts

fetch_Rose : (answer : Fetch) (before now : ℕ) → (answer ≡ FetchFailed → Rose before now) → fetch_failed answer ≡ true → Rose before now
fetch_Rose FetchFailed before now rose e = rose refl
fetch_Rose (Got n) before now rose e = cc

-- one fetch
pub fetch-StoreLog : (a b : StoreState) (answer : Fetch) → KeepsFiles a b → (answer ≡ FetchFailed → Rose a.faults b.faults)
    → Counts a (fetch_failed answer) b → StoreLog a (fetch_failed answer ∷ []) b
fetch-StoreLog a b answer keeps rose counts =
    call-StoreLog a a b [] (fetch_failed answer) (none-StoreLog a) keeps (fetch_Rose answer a.faults b.faults rose) counts

pub failures-append : (xs ys : List Bool) → failures (xs ++ ys) ≡ failures xs + failures ys
failures-append [] ys = omega arith
failures-append (true ∷ xs) ys = omega (arith, failures-append xs ys)
failures-append (false ∷ xs) ys = failures-append xs ys

AreListed-append : (n : Numbers) (later sooner : List Bool) → AreListed n sooner → AreListed (numbers_after n sooner) later
    → AreListed n (later ++ sooner)
AreListed-append n [] sooner before then = before
AreListed-append n (failed ∷ later) sooner before then =
    let place : n.calls + length sooner + length later + 1 ≡ n.calls + length (later ++ sooner) + 1 = omega (arith, length-append {A = Bool}) in
    (then.0 ∙ ap (is_listed n.fails) place, AreListed-append n later sooner before then.1)

numbers-append : (b c : StoreState) (later sooner : List Bool) (o : Option Numbers)
    → IfSome o (λ n. n.calls + length sooner < 2 ^ 64 → (b.numbers ≡ Some (numbers_after n sooner)) × AreListed n sooner)
    → IfSome b.numbers (λ n. n.calls + length later < 2 ^ 64 → (c.numbers ≡ Some (numbers_after n later)) × AreListed n later)
    → IfSome o (λ n. n.calls + length (later ++ sooner) < 2 ^ 64
    → (c.numbers ≡ Some (numbers_after n (later ++ sooner))) × AreListed n (later ++ sooner))
numbers-append b c later sooner None first then = tt
numbers-append b c later sooner (Some n) first then = λ few.
    let long : length (later ++ sooner) ≡ length later + length sooner = length-append later sooner in
    let before = first (omega arith) in
    let now = (rw before.0 at then) (omega arith) in
    (now.0 ∙ ap (λ m. Some (record { calls = m; fails = n.fails })) (omega arith), AreListed-append n later sooner before.1 now.1)

-- one log after another
pub append-StoreLog : (a b c : StoreState) (sooner later : List Bool) → StoreLog a sooner b → StoreLog b later c
    → StoreLog a (later ++ sooner) c
append-StoreLog a b c sooner later first then = record {
  keeps = record { files = then.keeps.files ∙ first.keeps.files; later = omega (arith, first.keeps.later, then.keeps.later) };
  counted = (let all = failures-append later sooner in omega (arith, first.counted, then.counted));
  numbers = numbers-append b c later sooner a.numbers first.numbers then.numbers;
}

-- a call that failed raised the count
pub failed-Rose : (a b : StoreState) (log : List Bool) → StoreLog a (true ∷ log) b → Rose a.faults b.faults
failed-Rose a b log went = omega (arith, went.counted)

-- where the count didn't rise no call failed
pub steady-failures : (a b : StoreState) (log : List Bool) → StoreLog a log b → Steady a.faults b.faults → failures log ≡ 0
steady-failures a b log went steady = omega (arith, went.counted)
