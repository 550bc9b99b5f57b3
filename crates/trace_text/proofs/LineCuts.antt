-- The lines of a text.
use Rattle.std.proofs.Common.{◌≡◌, ◌≢◌, ℕ, zero, suc, ◌+◌, ◌-◌, ◌<◌, true, false, eqb, List, [], ◌∷◌, length, get_or, take, drop, refl, sym, ap, ◌∙◌, arith, add-one, length-drop}
use Rattle.std.proofs.lemmas.List.{take_all, drop_all}
use Rattle.std.proofs.lemmas.Bool.Decides.{nat_tests}
use Rattle.trace_text.specs.Grammar.{with_first}
use Rattle.trace_text.specs.Lines.{lines_of}

-- a byte that is no newline begins the first line
lines_of-other : (c : ℕ) (cs : List ℕ) → c ≢ 10 → lines_of (c ∷ cs) ≡ with_first c (lines_of cs)
unfolding lines_of
lines_of-other c cs other = let no : eqb c 10 ≡ false = grind (arith, nat_tests) in rw no refl

lines_of-newline : (c : ℕ) (cs : List ℕ) → c ≡ 10 → lines_of (c ∷ cs) ≡ (c ∷ []) ∷ lines_of cs
unfolding lines_of
lines_of-newline c cs is = let yes : eqb c 10 ≡ true = grind (arith, nat_tests) in rw yes refl

lines_of-nothing : lines_of [] ≡ []
unfolding lines_of
lines_of-nothing = refl

pub lines_of-empty : (text : List ℕ) → length text ≡ 0 → lines_of text ≡ []
lines_of-empty [] none = lines_of-nothing
lines_of-empty (c ∷ cs) none = absurd (omega (arith, none))

-- bytes with no newline are one line
lines_of-one : (c : ℕ) (cs : List ℕ) → ((k : ℕ) → k < length (c ∷ cs) → get_or (c ∷ cs) k 0 ≢ 10) → lines_of (c ∷ cs) ≡ (c ∷ cs) ∷ []
lines_of-one c [] none = lines_of-other c [] (none 0 (omega arith)) ∙ ap (with_first c) lines_of-nothing
lines_of-one c (d ∷ cs) none =
    lines_of-other c (d ∷ cs) (none 0 (omega arith)) ∙ ap (with_first c) (lines_of-one d cs (λ k lt. none (suc k) (omega arith)))

-- the first newline ends the first line
lines_of-first : (text : List ℕ) (i : ℕ) → i < length text → get_or text i 0 ≡ 10 → ((k : ℕ) → k < i → get_or text k 0 ≢ 10)
    → lines_of text ≡ take (suc i) text ∷ lines_of (drop (suc i) text)
lines_of-first [] i lt is none = absurd (omega arith)
lines_of-first (c ∷ cs) zero lt is none = lines_of-newline c cs is
lines_of-first (c ∷ cs) (suc i) lt is none =
    lines_of-other c cs (none 0 (omega arith)) ∙ ap (with_first c) (lines_of-first cs i (omega arith) is (λ k l. none (suc k) (omega arith)))

-- the same at the index as a program counts it
pub lines_of-cut : (text : List ℕ) (i : ℕ) → i < length text → get_or text i 0 ≡ 10 → ((k : ℕ) → k < i → get_or text k 0 ≢ 10)
    → lines_of text ≡ take (i + 1) text ∷ lines_of (take (length text - (i + 1)) (drop (i + 1) text))
lines_of-cut text i lt is none =
    let rest : take (length text - (i + 1)) (drop (i + 1) text) ≡ drop (suc i) text = rw add-one (take_all (length text - suc i) (drop (suc i) text) (omega (arith, length-drop (suc i) text))) in
    rw (rest, add-one) (lines_of-first text i lt is none)

-- there is no newline, and there are bytes
pub lines_of-last : (text : List ℕ) → (length text ≡ 0 → ⊥) → ((k : ℕ) → k < length text → get_or text k 0 ≢ 10)
    → lines_of text ≡ text ∷ lines_of (take (length text - length text) (drop (length text) text))
lines_of-last [] some none = absurd (some refl)
lines_of-last (c ∷ cs) some none =
    let nothing : length (c ∷ cs) - length (c ∷ cs) ≡ 0 = omega arith in
    rw nothing (lines_of-one c cs none ∙ ap (λ ls. (c ∷ cs) ∷ ls) (sym lines_of-nothing))
