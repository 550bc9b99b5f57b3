-- Fronts of the moves of a repeated pattern.
use Rattle.std.proofs.Common.{◌≡◌, ◌-◌, ℕ, zero, suc, ◌≤◌, List, [], ◌∷◌, ◌++◌, length, refl, ap, ap₂, sym, ◌∙◌, subst, arith}
use Rattle.std.specs.Prelude.{replicate}
use Rattle.std.proofs.lemmas.List.Elements.{All-head, All-tail}
use Rattle.spec_base.specs.declared.note.Move.{Move}
use Rattle.run_model.specs.Patterns.{Pattern, one_round, rounds, pattern_moves}
use Rattle.program_driver.specs.Rounds.{moves_from, items_or, HasMoves}
use Rattle.command_words.specs.Limits.{IsPattern, IsBetween}

abbrev head_of : Move → List Move → Move
head_of d [] = d
head_of d (x ∷ xs) = x

abbrev tail_of : List Move → List Move
tail_of [] = []
tail_of (x ∷ xs) = xs

-- a front of so many moves is the first of them
pub record IsFront (round moves : List Move) (n : ℕ) (xs : List Move) : Type 0 where
  pub are : xs ≡ rounds round moves (length xs)
  pub few : length xs ≤ n

not-cons : (x : Move) (xs : List Move) → x ∷ xs ≡ [] → ⊥
not-cons x xs e = cc

pub front : (round moves : List Move) (n : ℕ) (xs ys : List Move) → xs ++ ys ≡ rounds round moves n → IsFront round moves n xs
front round moves n [] ys e = record { are = refl; few = omega arith }
front round moves zero (x ∷ xs) ys e = absurd (not-cons x (xs ++ ys) e)
front round (m ∷ moves) (suc n) (x ∷ xs) ys e =
    let f = front round moves n xs ys (ap tail_of e) in
    record { are = ap₂ (λ y l. y ∷ l) (ap (head_of x) e) f.are; few = omega (arith, f.few) }
front [] [] (suc n) (x ∷ xs) ys e = absurd (not-cons x (xs ++ ys) e)
front (m ∷ round) [] (suc n) (x ∷ xs) ys e =
    let f = front (m ∷ round) round n xs ys (ap tail_of e) in
    record { are = ap₂ (λ y l. y ∷ l) (ap (head_of x) e) f.are; few = omega (arith, f.few) }

-- a round with a move gives as many moves as are asked for
pub rounds-length : (m : Move) (round moves : List Move) (n : ℕ) → length (rounds (m ∷ round) moves n) ≡ n
rounds-length m round moves zero = refl
rounds-length m round (x ∷ moves) (suc n) = ap suc (rounds-length m round moves n)
rounds-length m round [] (suc n) = ap suc (rounds-length m round round n)

pub turns-length : (pattern : Pattern) (n : ℕ) → IsPattern pattern → length (pattern_moves pattern n) ≡ n
turns-length [] n p = absurd (none p.items.0)
  where
    none : 1 ≤ 0 → ⊥
    none h = omega (arith, h)
turns-length ((m, zero) ∷ items) n p = absurd (none (All-head (λ item. IsBetween 1 1_000_000 item.1) (m, zero) items p.counts).0)
  where
    none : 1 ≤ 0 → ⊥
    none h = omega (arith, h)
turns-length ((m, suc c) ∷ items) n p = rounds-length m (replicate c m ++ one_round items) [] n

-- moves that are all those of a pattern
pub all-length : (pattern : Pattern) (n : ℕ) (moves : List Move) → IsPattern pattern → moves ≡ pattern_moves pattern n → length moves ≡ n
all-length pattern n moves p e = ap length e ∙ turns-length pattern n p

-- ---- the next stretch

-- a stretch that is made whole
pub rounds-whole : (round moves : List Move) (m : Move) (c n : ℕ) → c ≤ n → rounds round (replicate c m ++ moves) n ≡ replicate c m ++ rounds round moves (n - c)
rounds-whole round moves m zero n few = let e : n ≡ n - 0 = omega arith in ap (rounds round moves) e
rounds-whole round moves m (suc c) zero few = absurd (let h : suc c ≤ 0 = few in omega (arith, h))
rounds-whole round moves m (suc c) (suc n) few =
    let e : n - c ≡ suc n - suc c = omega arith in
    ap (λ l. m ∷ l) (rounds-whole round moves m c n (omega (arith, few)) ∙ ap (λ k. replicate c m ++ rounds round moves k) e)

-- one that is cut short
pub rounds-cut : (round moves : List Move) (m : Move) (c n : ℕ) → n ≤ c → rounds round (replicate c m ++ moves) n ≡ replicate n m ++ []
rounds-cut round moves m c zero few = refl
rounds-cut round moves m zero (suc n) few = absurd (let h : suc n ≤ 0 = few in omega (arith, h))
rounds-cut round moves m (suc c) (suc n) few = ap (λ l. m ∷ l) (rounds-cut round moves m c n (omega (arith, few)))

-- a new round
pub rounds-again : (m : Move) (round : List Move) (n : ℕ) → rounds (m ∷ round) [] n ≡ rounds (m ∷ round) (m ∷ round) n
rounds-again m round zero = refl
rounds-again m round (suc n) = refl

round-again : (pattern : Pattern) (m : Move) (c n : ℕ) (rest : Pattern) → pattern ≡ (m, c) ∷ rest → 1 ≤ c → rounds (one_round pattern) [] n ≡ rounds (one_round pattern) (replicate c m ++ one_round rest) n
round-again pattern m zero n rest is some = absurd (let h : 1 ≤ 0 = some in omega (arith, h))
round-again pattern m (suc c) n rest is some = rw is (rounds-again m (replicate c m ++ one_round rest) n)

-- the next item comes first
pub next-first : (pattern items rest : Pattern) (m : Move) (c n : ℕ) → (m, c) ∷ rest ≡ items_or pattern items → 1 ≤ c
    → moves_from pattern items n ≡ rounds (one_round pattern) (replicate c m ++ one_round rest) n
next-first pattern [] rest m c n is some = round-again pattern m c n rest (sym is) some
next-first pattern (item ∷ items) rest m c n is some = ap (λ l. rounds (one_round pattern) (one_round l) n) (sym is)

-- its move is made, and so are those behind it
pub next-HasMoves : (pattern items rest : Pattern) (m : Move) (c : ℕ) → (m, c) ∷ rest ≡ items_or pattern items → HasMoves pattern → HasMoves items → (1 ≤ c) × HasMoves rest
next-HasMoves pattern [] rest m c is one two =
    let h : HasMoves ((m, c) ∷ rest) = subst HasMoves (sym is) one in (All-head (λ item. 1 ≤ item.1) (m, c) rest h, All-tail (λ item. 1 ≤ item.1) (m, c) rest h)
next-HasMoves pattern (item ∷ items) rest m c is one two =
    let h : HasMoves ((m, c) ∷ rest) = subst HasMoves (sym is) two in (All-head (λ item. 1 ≤ item.1) (m, c) rest h, All-tail (λ item. 1 ≤ item.1) (m, c) rest h)
