-- The run from the restart rests on the state before it, and the sets after i instructions on that and on the numbers up to i.
use Rattle.std.proofs.Common.{◌≡◌, ℕ, zero, suc, ◌<◌, Bool, true, false, not, ◌&&◌, ◌||◌, List, [], ◌∷◌, ◌++◌, Option, refl, ◌∙◌, ap, ap₂, arith, ◌==◌}
use Rattle.std.specs.Prelude.{IsTrue}
use Rattle.std.specs.Option.{option_and_then}
use Rattle.std.proofs.lemmas.Bool.Decides.{nat_tests}
use Rattle.std.proofs.lemmas.List.Folds.{list_any-append}
use Rattle.spec_base.specs.Listed.{is_listed}
use Rattle.spec_base.specs.declared.spot.ReadSpot.{ReadSpot}
use Rattle.program_model.specs.PlainRun.{State, state_after, all_taken}
use Rattle.run_model.specs.Run.{World, Run}
use Rattle.run_model.specs.Restarts.{Action, some_action, action, from_restart, unfilled_by, unfilled_with, touches, before_horizon, read_in, reads}
use Rattle.run_model.specs.Marks.{Marks, marks_after_some, marks_with, some_use, before_use_with}
use Rattle.mark_laws.specs.Settled.{settles, settled_with, Alike, SetsRestOnNumbers, HorizonRestsOnFilled, RestartRestsOnOrigin}
use Rattle.mark_laws.proofs.Horizons.{and_left}

-- ---- lists of numbers

-- a number behind others
pub is_listed-append : (numbers : List ℕ) (k n : ℕ) → is_listed (numbers ++ k ∷ []) n ≡ (is_listed numbers n || (k == n))
is_listed-append numbers k n = list_any-append (λ (m : ℕ). m == n) numbers (k ∷ []) ∙ last (is_listed numbers n) (k == n)
  where
    last : (b c : Bool) → (b || (c || false)) ≡ (b || c)
    last true c = refl
    last false true = refl
    last false false = refl

-- a later number says nothing of an earlier one
pub is_listed-later : (numbers : List ℕ) (k n : ℕ) → n < k → is_listed (numbers ++ k ∷ []) n ≡ is_listed numbers n
is_listed-later numbers k n l = is_listed-append numbers k n ∙ no_more (is_listed numbers n) (k == n) (grind (arith, nat_tests))
  where
    no_more : (a b : Bool) → b ≡ false → (a || b) ≡ a
    no_more true b e = refl
    no_more false b e = e

-- numbers with a later one are alike
pub alike-later : (i k : ℕ) (r : Run) (numbers : List ℕ) → i < k → Alike i r r numbers (numbers ++ k ∷ [])
alike-later i k r numbers l = record { origin = refl; listed = λ n h. is_listed-later numbers k n (omega arith) }

-- runs that restarted from one state are alike
pub alike-origin : (i : ℕ) (r y : Run) (numbers : List ℕ) → y.since.origin ≡ r.since.origin → Alike i r y numbers numbers
alike-origin i r y numbers e = record { origin = e; listed = λ n h. refl }

-- so are those that have filled the same reads since
pub alike-same : (i : ℕ) (r y : Run) → y.since.origin ≡ r.since.origin → y.since.filled ≡ r.since.filled → Alike i r y r.since.filled y.since.filled
alike-same i r y e f = record { origin = e; listed = λ n h. ap (λ (numbers : List ℕ). is_listed numbers n) f }

-- and those of which one has filled a later read more
pub alike-filled :
    (i k : ℕ) (r y : Run) → y.since.origin ≡ r.since.origin → y.since.filled ≡ r.since.filled ++ k ∷ [] → i < k →
    Alike i r y r.since.filled y.since.filled
alike-filled i k r y e f l =
    record { origin = e; listed = λ n h. ap (λ (numbers : List ℕ). is_listed numbers n) f ∙ is_listed-later r.since.filled k n (omega arith) }

-- what is alike is so up to fewer instructions
pub alike-down : (i : ℕ) (r y : Run) (numbers others : List ℕ) → Alike (suc i) r y numbers others → Alike i r y numbers others
alike-down i r y numbers others a = record { origin = a.origin; listed = λ n h. a.listed n (omega arith) }

-- ---- the run from the restart

module _ (w : World) (r y : Run) (e : y.since.origin ≡ r.since.origin) where
  -- its states
  pub from_restart-origin : (i : ℕ) → from_restart w y i ≡ from_restart w r i
  from_restart-origin i = ap (λ (o : Option State). option_and_then (λ s. state_after w.image w.files all_taken s i) o) e

  -- what its instructions do
  pub action-origin : (i : ℕ) → action w y i ≡ action w r i
  action-origin zero = refl
  action-origin (suc i) = ap (some_action w.image) (from_restart-origin i)

  -- its reads
  pub reads-origin : (i : ℕ) → reads w y i ≡ reads w r i
  unfolding reads
  reads-origin zero = refl
  reads-origin (suc zero) = refl
  reads-origin (suc (suc i)) = ap₂ (λ (before last : List ReadSpot). before ++ last) (reads-origin (suc i)) (ap read_in (action-origin (suc (suc i))))

-- all three
pub restart_rests_on_origin : RestartRestsOnOrigin
restart_rests_on_origin w r y e = record { state = from_restart-origin w r y e; action = action-origin w r y e; reads = reads-origin w r y e }

-- ---- marks, unfilled and settled bytes

-- equal functions of equal things
three : {A B C D : Type 0} (f : A → B → C → D) {a a' : A} {b b' : B} {c c' : C} → a ≡ a' → b ≡ b' → c ≡ c' → f a b c ≡ f a' b' c'
three f {a = a} {a' = a'} {b = b} {b' = b'} {c = c} {c' = c'} p q s = ap (λ x. f x b c) p ∙ (ap (λ x. f a' x c) q ∙ ap (λ x. f a' b' x) s)

module _ (w : World) (r y : Run) (numbers others : List ℕ) where
  -- marks
  pub marks_with-alike : (i : ℕ) → Alike i r y numbers others → marks_with others w y i ≡ marks_with numbers w r i
  unfolding marks_with
  marks_with-alike zero a = refl
  marks_with-alike (suc i) a =
      three (λ (filled : Bool) (o : Option State) (m : Marks). marks_after_some w.image filled o m)
      (a.listed (suc i) (omega arith)) (from_restart-origin w r y a.origin i) (marks_with-alike i (alike-down i r y numbers others a))

  -- unfilled bytes
  pub unfilled_with-alike : (i : ℕ) → Alike i r y numbers others → unfilled_with others w y i ≡ unfilled_with numbers w r i
  unfolding unfilled_with
  unfilled_with-alike zero a = refl
  unfilled_with-alike (suc i) a =
      three (λ (before : ℕ → Bool) (act : Action) (filled : Bool). unfilled_by before act filled)
      (unfilled_with-alike i (alike-down i r y numbers others a)) (action-origin w r y a.origin (suc i)) (a.listed (suc i) (omega arith))

  -- settled bytes
  pub settled_with-alike : (i : ℕ) → Alike i r y numbers others → (x : ℕ) → settled_with others w y i x ≡ settled_with numbers w r i x
  unfolding settled_with
  settled_with-alike zero a x = refl
  settled_with-alike (suc i) a x =
      three (λ (before : Bool) (act : Action) (filled : Bool). before || settles act filled x)
      (settled_with-alike i (alike-down i r y numbers others a) x) (action-origin w r y a.origin (suc i)) (a.listed (suc i) (omega arith))

  -- whether a use has come by instruction i
  pub before_use_with-so_far : (i : ℕ) → Alike i r y numbers others → before_use_with others w y i ≡ before_use_with numbers w r i
  unfolding before_use_with
  before_use_with-so_far zero a = refl
  before_use_with-so_far (suc i) a =
      let b : Alike i r y numbers others = alike-down i r y numbers others a in
      three (λ (before : Bool) (o : Option State) (m : Marks). before && not (some_use w.image o m))
      (before_use_with-so_far i b) (from_restart-origin w r y a.origin i) (marks_with-alike i b)

  -- and by instruction i + 1, which finds the marks after i
  pub before_use_with-alike : (i : ℕ) → Alike i r y numbers others → before_use_with others w y (suc i) ≡ before_use_with numbers w r (suc i)
  unfolding before_use_with
  before_use_with-alike i a =
      three (λ (before : Bool) (o : Option State) (m : Marks). before && not (some_use w.image o m))
      (before_use_with-so_far i a) (from_restart-origin w r y a.origin i) (marks_with-alike i a)

-- all of these
pub sets_rest_on_numbers : SetsRestOnNumbers
sets_rest_on_numbers w i r y numbers others a = record {
  marks = marks_with-alike w r y numbers others i a;
  unfilled = unfilled_with-alike w r y numbers others i a;
  settled = settled_with-alike w r y numbers others i a;
  before_use = before_use_with-so_far w r y numbers others i a;
  before_use_next = before_use_with-alike w r y numbers others i a;
}

-- ---- the horizon

module _ (w : World) (r y : Run) where
  -- whether it has come by instruction i
  pub before_horizon-so_far : (i : ℕ) → Alike i r y r.since.filled y.since.filled → before_horizon w y i ≡ before_horizon w r i
  unfolding before_horizon
  before_horizon-so_far zero a = refl
  before_horizon-so_far (suc i) a =
      let b : Alike i r y r.since.filled y.since.filled = alike-down i r y r.since.filled y.since.filled a in
      three (λ (before : Bool) (u : ℕ → Bool) (act : Action). before && not (touches u act))
      (before_horizon-so_far i b) (unfilled_with-alike w r y r.since.filled y.since.filled i b) (action-origin w r y a.origin (suc i))

  -- and by instruction i + 1, which finds the bytes that are unfilled after i
  pub before_horizon-alike : (i : ℕ) → Alike i r y r.since.filled y.since.filled → before_horizon w y (suc i) ≡ before_horizon w r (suc i)
  unfolding before_horizon
  before_horizon-alike i a =
      three (λ (before : Bool) (u : ℕ → Bool) (act : Action). before && not (touches u act))
      (before_horizon-so_far i a) (unfilled_with-alike w r y r.since.filled y.since.filled i a) (action-origin w r y a.origin (suc i))

-- both
pub horizon_rests_on_filled : HorizonRestsOnFilled
horizon_rests_on_filled w i r y a = (before_horizon-so_far w r y i a, before_horizon-alike w r y i a)

-- ---- one number more, or another run from one restart

module _ (w : World) (r : Run) (numbers : List ℕ) (k i : ℕ) (l : i < k) where
  -- the numbers are alike up to i
  a : Alike i r r numbers (numbers ++ k ∷ [])
  a = alike-later i k r numbers l

  -- marks after i instructions
  pub marks_with-later : marks_with (numbers ++ k ∷ []) w r i ≡ marks_with numbers w r i
  marks_with-later = marks_with-alike w r r numbers (numbers ++ k ∷ []) i a

  -- unfilled bytes
  pub unfilled_with-later : unfilled_with (numbers ++ k ∷ []) w r i ≡ unfilled_with numbers w r i
  unfilled_with-later = unfilled_with-alike w r r numbers (numbers ++ k ∷ []) i a

  -- settled bytes
  pub settled_with-later : (x : ℕ) → settled_with (numbers ++ k ∷ []) w r i x ≡ settled_with numbers w r i x
  settled_with-later = settled_with-alike w r r numbers (numbers ++ k ∷ []) i a

  -- whether a use has come by instruction i + 1
  pub before_use_with-later : before_use_with (numbers ++ k ∷ []) w r (suc i) ≡ before_use_with numbers w r (suc i)
  before_use_with-later = before_use_with-alike w r r numbers (numbers ++ k ∷ []) i a

  -- or by instruction i
  pub before_use_with-later_so_far : before_use_with (numbers ++ k ∷ []) w r i ≡ before_use_with numbers w r i
  before_use_with-later_so_far = before_use_with-so_far w r r numbers (numbers ++ k ∷ []) i a

module _ (w : World) (r y : Run) (e : y.since.origin ≡ r.since.origin) (numbers : List ℕ) (i : ℕ) where
  -- marks
  pub marks_with-origin : marks_with numbers w y i ≡ marks_with numbers w r i
  marks_with-origin = marks_with-alike w r y numbers numbers i (alike-origin i r y numbers e)

  -- unfilled bytes
  pub unfilled_with-origin : unfilled_with numbers w y i ≡ unfilled_with numbers w r i
  unfilled_with-origin = unfilled_with-alike w r y numbers numbers i (alike-origin i r y numbers e)

  -- settled bytes
  pub settled_with-origin : (x : ℕ) → settled_with numbers w y i x ≡ settled_with numbers w r i x
  settled_with-origin = settled_with-alike w r y numbers numbers i (alike-origin i r y numbers e)

  -- whether a use has come
  pub before_use_with-origin : before_use_with numbers w y i ≡ before_use_with numbers w r i
  before_use_with-origin = before_use_with-so_far w r y numbers numbers i (alike-origin i r y numbers e)

-- ---- before the first use

-- what is before the first use was so before
pub before_use_with-down : (w : World) (r : Run) (numbers : List ℕ) (i : ℕ) → IsTrue (before_use_with numbers w r (suc i)) → IsTrue (before_use_with numbers w r i)
unfolding before_use_with
before_use_with-down w r numbers i h = and_left _ _ h
