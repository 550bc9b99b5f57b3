-- The words of a text.
use Rattle.std.proofs.Common.{◌≡◌, ◌≢◌, ℕ, zero, suc, ◌+◌, ◌-◌, ◌<◌, Bool, true, false, cond, eqb, List, [], ◌∷◌, length, get_or, take, drop, refl, ap, ◌∙◌, arith, add-one, length-drop}
use Rattle.std.specs.Prelude.{None, option_map}
use Rattle.std.proofs.lemmas.List.{take_all}
use Rattle.std.proofs.lemmas.Bool.Decides.{nat_tests}
use Rattle.trace_text.specs.Grammar.{words_of, with_first, one_word, three_words, five_words}

-- a byte that is no space begins the first word
pub words_of-other : (c : ℕ) (cs : List ℕ) → c ≢ 32 → words_of (c ∷ cs) ≡ with_first c (words_of cs)
unfolding words_of
words_of-other c cs other = let no : eqb c 32 ≡ false = grind (arith, nat_tests) in rw no refl

pub words_of-space : (c : ℕ) (cs : List ℕ) → c ≡ 32 → words_of (c ∷ cs) ≡ [] ∷ words_of cs
unfolding words_of
words_of-space c cs is = let yes : eqb c 32 ≡ true = grind (arith, nat_tests) in rw yes refl

-- a text with no space is one word
pub words_of-none : (text : List ℕ) → ((k : ℕ) → k < length text → get_or text k 0 ≢ 32) → words_of text ≡ text ∷ []
words_of-none [] none = unfold words_of in refl
words_of-none (c ∷ cs) none =
    words_of-other c cs (none 0 (omega arith)) ∙ ap (with_first c) (words_of-none cs (λ k lt. none (suc k) (omega arith)))

-- the first space ends the first word
pub words_of-first : (text : List ℕ) (i : ℕ) → i < length text → get_or text i 0 ≡ 32 → ((k : ℕ) → k < i → get_or text k 0 ≢ 32)
    → words_of text ≡ take i text ∷ words_of (drop (suc i) text)
words_of-first [] i lt is none = absurd (omega arith)
words_of-first (c ∷ cs) zero lt is none = words_of-space c cs is
words_of-first (c ∷ cs) (suc i) lt is none =
    words_of-other c cs (none 0 (omega arith)) ∙ ap (with_first c) (words_of-first cs i (omega arith) is (λ k l. none (suc k) (omega arith)))

pub five_words-cons : (a b : List ℕ) (ws : List (List ℕ)) → five_words (a ∷ b ∷ ws) ≡ option_map (λ w. (a, b, w.0, w.1, w.2)) (three_words ws)
five_words-cons a b [] = refl
five_words-cons a b (c ∷ []) = refl
five_words-cons a b (c ∷ d ∷ []) = refl
five_words-cons a b (c ∷ d ∷ e ∷ []) = refl
five_words-cons a b (c ∷ d ∷ e ∷ f ∷ ws) = refl

-- the same at the index as a program counts it
pub words_of-cut : (text : List ℕ) (i : ℕ) → i < length text → get_or text i 0 ≡ 32 → ((k : ℕ) → k < i → get_or text k 0 ≢ 32)
    → words_of text ≡ take i text ∷ words_of (take (length text - (i + 1)) (drop (i + 1) text))
words_of-cut text i lt is none =
    let rest : take (length text - (i + 1)) (drop (i + 1) text) ≡ drop (suc i) text = rw add-one (take_all (length text - suc i) (drop (suc i) text) (omega (arith, length-drop (suc i) text))) in
    rw rest (words_of-first text i lt is none)

-- a text has a word
more : (b : Bool) (a : List ℕ) (c : ℕ) (ws : List (List ℕ)) → one_word (a ∷ cond b ([] ∷ ws) (with_first c ws)) ≡ None
more true a c ws = refl
more false a c [] = refl
more false a c (w ∷ ws) = refl

pub one_word-more : (a text : List ℕ) → one_word (a ∷ words_of text) ≡ None
unfolding words_of
one_word-more a [] = refl
one_word-more a (c ∷ cs) = more (eqb c 32) a c (words_of cs)

begun : (b : Bool) (c : ℕ) (ws : List (List ℕ)) → (v : List ℕ) × (vs : List (List ℕ)) × (cond b ([] ∷ ws) (with_first c ws) ≡ v ∷ vs)
begun true c ws = ([], ws, refl)
begun false c [] = (c ∷ [], [], refl)
begun false c (w ∷ ws) = (c ∷ w, ws, refl)

pub words_of-some : (text : List ℕ) → (w : List ℕ) × (ws : List (List ℕ)) × (words_of text ≡ w ∷ ws)
unfolding words_of
words_of-some [] = ([], [], refl)
words_of-some (c ∷ cs) = begun (eqb c 32) c (words_of cs)
