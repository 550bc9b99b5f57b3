-- Rounds of a pattern that has an own move and a fetch bring the program on.
use Rattle.std.proofs.Common.{◌≡◌, ◌⊎◌, inl, inr, ℕ, zero, suc, ◌+◌, ◌*◌, ◌≤◌, ◌<◌, List, [], ◌∷◌, ◌++◌, length, map, refl, ap, ap₂, sym, subst, arith}
use Rattle.std.specs.Prelude.{slice_index_or, Contains}
use Rattle.spec_base.specs.declared.note.Move.{Move}
use Rattle.spec_base.specs.declared.note.Move.TheVariants.{O, S, T, D}
use Rattle.run_model.specs.Moves.{Moves}
use Rattle.run_model.specs.Patterns.{one_round, rounds}
use Rattle.run_laws.specs.OwnLaws.{HasOwn, HasFetch, Stretches, RoundsProgress}
use Rattle.own_laws.proofs.Progress.{progresses}

-- the moves without their answers
abbrev bare : Moves → List Move
bare ms = map (λ m. m.0) ms

-- ---- a move is among some

abbrev Has : Move → List Move → Type 0
Has m [] = ⊥
Has m (x ∷ xs) = (x ≡ m) ⊎ Has m xs

at-has : (m : Move) (xs : List Move) (k : ℕ) → k < length xs → slice_index_or xs k m ≡ m → Has m xs
at-has m [] k l e = omega (arith, l)
at-has m (x ∷ xs) zero l e = inl e
at-has m (x ∷ xs) (suc k) l e = inr (at-has m xs k (omega (arith, l)) e)

has : (m : Move) (xs : List Move) → Contains xs m → Has m xs
has m xs c = at-has m xs c.0 c.1 c.2

s-o : S ≡ O → ⊥
s-o e = cc

t-o : T ≡ O → ⊥
t-o e = cc

d-o : D ≡ O → ⊥
d-o e = cc

o-d : O ≡ D → ⊥
o-d e = cc

s-d : S ≡ D → ⊥
s-d e = cc

t-d : T ≡ D → ⊥
t-d e = cc

-- an own move among them
has-own : (ms : Moves) → Has O (bare ms) → HasOwn ms
has-own [] h = absurd h
has-own ((O, x) ∷ ms) h = tt
has-own ((S, x) ∷ ms) (inl e) = absurd (s-o e)
has-own ((S, x) ∷ ms) (inr h) = has-own ms h
has-own ((T, x) ∷ ms) (inl e) = absurd (t-o e)
has-own ((T, x) ∷ ms) (inr h) = has-own ms h
has-own ((D, x) ∷ ms) (inl e) = absurd (d-o e)
has-own ((D, x) ∷ ms) (inr h) = has-own ms h

-- a fetch among them
has-fetch : (ms : Moves) → Has D (bare ms) → HasFetch ms
has-fetch [] h = absurd h
has-fetch ((D, x) ∷ ms) h = tt
has-fetch ((O, x) ∷ ms) (inl e) = absurd (o-d e)
has-fetch ((O, x) ∷ ms) (inr h) = has-fetch ms h
has-fetch ((S, x) ∷ ms) (inl e) = absurd (s-d e)
has-fetch ((S, x) ∷ ms) (inr h) = has-fetch ms h
has-fetch ((T, x) ∷ ms) (inl e) = absurd (t-d e)
has-fetch ((T, x) ∷ ms) (inr h) = has-fetch ms h

-- ---- a round is split off

abbrev head_of : Move → List Move → Move
head_of d [] = d
head_of d (x ∷ xs) = x

abbrev tail_of : List Move → List Move
tail_of [] = []
tail_of (x ∷ xs) = xs

-- moves begin with the rest of a round, and go on with rounds
record Split (left round : List Move) (ms : Moves) : Type 0 where
  first : Moves
  rest : Moves
  whole : ms ≡ first ++ rest
  made : bare first ≡ left
  later : bare rest ≡ rounds round [] (length rest)
  count : length ms ≡ length left + length rest

split : (left round : List Move) (ms : Moves) → bare ms ≡ rounds round left (length ms) → length left ≤ length ms → Split left round ms
split [] round ms e l = record { first = []; rest = ms; whole = refl; made = refl; later = e; count = omega arith }
split (p ∷ left) round [] e l = absurd (none l)
  where
    none : suc (length left) ≤ 0 → ⊥
    none h = omega (arith, h)
split (p ∷ left) round (m ∷ ms) e l =
    let s : Split left round ms = split left round ms (ap tail_of e) (omega (arith, l)) in
    record {
      first = m ∷ s.first;
      rest = s.rest;
      whole = ap (λ l. m ∷ l) s.whole;
      made = ap₂ (λ x xs. x ∷ xs) (ap (head_of p) e) s.made;
      later = s.later;
      count = omega (arith, s.count);
    }

-- rounds begin with a round
begin : (round : List Move) (ms : Moves) → bare ms ≡ rounds round [] (length ms) → bare ms ≡ rounds round round (length ms)
begin [] ms e = e
begin (p ∷ round) [] e = e
begin (p ∷ round) (m ∷ ms) e = e

one_more : (n l : ℕ) → suc n * l ≡ l + n * l
one_more n l = grind arith

-- n rounds are n stretches
stretches : (n : ℕ) (round : List Move) (ms : Moves) → Has O round → Has D round → bare ms ≡ rounds round [] (length ms) → n * length round ≤ length ms → Stretches n ms
stretches zero round ms o d e l = tt
stretches (suc n) round ms o d e l =
    let s : Split round round ms = split round round ms (begin round ms e) (omega (arith, l, one_more n (length round))) in (
      s.first,
      s.rest,
      s.whole,
      has-own s.first (subst (Has O) (sym s.made) o),
      has-fetch s.first (subst (Has D) (sym s.made) d),
      stretches n round s.rest o d s.later (omega (arith, l, s.count, one_more n (length round))),
    )

-- ---- the law

-- rounds bring the program on
pub rounds_progress : RoundsProgress
rounds_progress w a pattern o d q ms made enough =
    progresses w a q ms (stretches (200 * q) (one_round pattern) ms (has O (one_round pattern) o) (has D (one_round pattern) d) made enough)
