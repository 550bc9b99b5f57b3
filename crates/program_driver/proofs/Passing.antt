-- Fronts of the moves of a repeated pattern, with how many of the own hart they have.
use Rattle.std.proofs.Common.{◌≡◌, ℕ, zero, suc, ◌+◌, ◌-◌, ◌*◌, ◌/◌, ◌^◌, ◌≤◌, ◌<◌, List, [], ◌∷◌, ◌++◌, length, All, refl, ap, sym, ◌∙◌, subst, arith}
use Rattle.std.specs.Prelude.{replicate}
use Rattle.std.proofs.Math.Nat.{div-mul-le_self, mul-le-mul_left}
use Rattle.std.proofs.lemmas.List.{append_assoc, append-nil, length-append, nil_from_length, replicate-append-replicate}
use Rattle.std.proofs.lemmas.List.Elements.{All-cons, All-head, All-tail}
use Rattle.spec_base.specs.declared.note.Move.{Move}
use Rattle.spec_base.specs.declared.note.Move.TheVariants.{O, S, T, D}
use Rattle.run_model.specs.Patterns.{Pattern, one_round, rounds}
use Rattle.command_words.specs.Limits.{IsPattern, IsBetween}
use Rattle.program_driver.specs.Rounds.{own_of, owns, Passes, items_from, moves_from, HasMoves, IsRepeated}
use Rattle.program_driver.proofs.Rounding.{next-first, next-HasMoves, rounds-whole, rounds-cut, rounds-again, rounds-length}
use Rattle.program_driver.proofs.Stretching.{stretch-length}

-- ---- the moves of the own hart

own-one : (m : Move) → own_of m ≤ 1
own-one O = omega arith
own-one S = omega arith
own-one T = omega arith
own-one D = omega arith

pub owns-length : (moves : List Move) → owns moves ≤ length moves
owns-length [] = omega arith
owns-length (m ∷ moves) = omega (arith, own-one m, owns-length moves)

pub owns-append : (xs ys : List Move) → owns (xs ++ ys) ≡ owns xs + owns ys
owns-append [] ys = omega arith
owns-append (x ∷ xs) ys = omega (arith, owns-append xs ys)

owns-own : (count : ℕ) → owns (replicate count O) ≡ count
owns-own zero = refl
owns-own (suc count) = omega (arith, owns-own count)

owns-other : (m : Move) (count : ℕ) → own_of m ≡ 0 → owns (replicate count m) ≡ 0
owns-other m zero e = refl
owns-other m (suc count) e = omega (arith, e, owns-other m count e)

pub owns-replicate : (m : Move) (count : ℕ) → owns (replicate count m) ≡ own_of m * count
owns-replicate O count = omega (arith, owns-own count)
owns-replicate S count = omega (arith, owns-other S count refl)
owns-replicate T count = omega (arith, owns-other T count refl)
owns-replicate D count = omega (arith, owns-other D count refl)

-- those of an item, and of the items behind it
pub item-owns : (m : Move) (count : ℕ) (moves : List Move) → owns (replicate count m ++ moves) ≡ own_of m * count + owns moves
item-owns m count moves = owns-append (replicate count m) moves ∙ ap (λ n. n + owns moves) (owns-replicate m count)

-- ---- moves that are passed

pub more-Passes : (own more : ℕ) (old mid new : List Move) → Passes own old mid → Passes more mid new → Passes (own + more) old new
more-Passes own more old mid new p q =
    record {
      front = p.front ++ q.front;
      are = p.are ∙ ap (λ l. p.front ++ l) q.are ∙ sym (append_assoc p.front q.front new);
      own_is = owns-append p.front q.front ∙ (λ i. p.own_is i + q.own_is i);
    }

pub part-Passes : (m : Move) (count : ℕ) (old new : List Move) → old ≡ replicate count m ++ new → Passes (own_of m * count) old new
part-Passes m count old new are = record { front = replicate count m; are = are; own_is = owns-replicate m count }

pub passes-owns : (own : ℕ) (old new : List Move) → Passes own old new → owns old ≡ own + owns new
passes-owns own old new p = ap owns p.are ∙ owns-append p.front new ∙ ap (λ n. n + owns new) p.own_is

pub passes-length : (own : ℕ) (old new : List Move) → Passes own old new → own + length new ≤ length old
passes-length own old new p =
    let all : length old ≡ length p.front + length new = ap length p.are ∙ length-append p.front new in
    omega (arith, all, p.own_is, owns-length p.front)

-- ---- whole rounds

abbrev repeated : ℕ → List Move → List Move
repeated zero round = []
repeated (suc k) round = round ++ repeated k round

rounds-prefix : (round xs moves : List Move) (n : ℕ) → length xs ≤ n → rounds round (xs ++ moves) n ≡ xs ++ rounds round moves (n - length xs)
rounds-prefix round [] moves n few = let e : n ≡ n - 0 = omega arith in ap (rounds round moves) e
rounds-prefix round (x ∷ xs) moves zero few = absurd (omega (arith, few))
rounds-prefix round (x ∷ xs) moves (suc n) few =
    let e : n - length xs ≡ suc n - suc (length xs) = omega arith in
    ap (λ l. x ∷ l) (rounds-prefix round xs moves n (omega (arith, few)) ∙ ap (λ k. xs ++ rounds round moves k) e)

rounds-next : (m : Move) (round : List Move) (n : ℕ) → length (m ∷ round) ≤ n → rounds (m ∷ round) [] n ≡ (m ∷ round) ++ rounds (m ∷ round) [] (n - length (m ∷ round))
rounds-next m round n few =
    rounds-again m round n ∙ ap (λ l. rounds (m ∷ round) l n) (sym (append-nil (m ∷ round))) ∙ rounds-prefix (m ∷ round) (m ∷ round) [] n few

rounds-repeated : (k : ℕ) (m : Move) (round : List Move) (n : ℕ) → k * length (m ∷ round) ≤ n → rounds (m ∷ round) [] n ≡ repeated k (m ∷ round) ++ rounds (m ∷ round) [] (n - k * length (m ∷ round))
rounds-repeated zero m round n few = let e : n ≡ n - zero * length (m ∷ round) = omega arith in ap (rounds (m ∷ round) []) e
rounds-repeated (suc k) m round n few =
    let first : length (m ∷ round) ≤ n = omega (arith, few) in
    let others : k * length (m ∷ round) ≤ n - length (m ∷ round) = omega (arith, few) in
    let e : n - length (m ∷ round) - k * length (m ∷ round) ≡ n - suc k * length (m ∷ round) = omega arith in
    rounds-next m round n first
    ∙ ap (λ l. (m ∷ round) ++ l) (rounds-repeated k m round (n - length (m ∷ round)) others ∙ ap (λ j. repeated k (m ∷ round) ++ rounds (m ∷ round) [] j) e)
    ∙ sym (append_assoc (m ∷ round) (repeated k (m ∷ round)) (rounds (m ∷ round) [] (n - suc k * length (m ∷ round))))

repeated-owns : (k : ℕ) (round : List Move) → owns (repeated k round) ≡ k * owns round
repeated-owns zero round = omega arith
repeated-owns (suc k) round = owns-append round (repeated k round) ∙ omega (arith, repeated-owns k round)

-- so many rounds of a pattern are passed
pub rounds-Passes : (round : List Move) (k n : ℕ) → 1 ≤ length round → k * length round ≤ n → Passes (k * owns round) (rounds round [] n) (rounds round [] (n - k * length round))
rounds-Passes [] k n some few = absurd (omega (arith, some))
rounds-Passes (m ∷ round) k n some few =
    record { front = repeated k (m ∷ round); are = rounds-repeated k m round n few; own_is = repeated-owns k (m ∷ round) }

-- a round has moves
pub round-some : (pattern : Pattern) → 1 ≤ length pattern → HasMoves pattern → 1 ≤ length (one_round pattern)
round-some [] some has = absurd (omega (arith, some))
round-some ((m, count) ∷ items) some has =
    omega (arith, stretch-length count m (one_round items), All-head (λ item. 1 ≤ item.1) (m, count) items has)

-- and not too many
round-most : (items : Pattern) → All (λ item. IsBetween 1 1_000_000 item.1) items → length (one_round items) ≤ length items * 1_000_000
round-most [] counts = omega arith
round-most ((m, count) ∷ items) counts =
    omega (
      arith,
      stretch-length count m (one_round items),
      (All-head (λ item. IsBetween 1 1_000_000 item.1) (m, count) items counts).1,
      round-most items (All-tail (λ item. IsBetween 1 1_000_000 item.1) (m, count) items counts),
    )

pub round-short : (pattern : Pattern) → IsPattern pattern → length (one_round pattern) < 2 ^ 63
round-short pattern p = omega (arith, round-most pattern p.counts, p.items.1)

-- ---- the moves of an item, and those behind it

pub item-length : (m : Move) (c : ℕ) (items behind : Pattern) → (m, c) ∷ behind ≡ items → length (one_round items) ≡ c + length (one_round behind)
item-length m c items behind is = ap (λ l. length (one_round l)) (sym is) ∙ stretch-length c m (one_round behind)

pub item-own : (m : Move) (c : ℕ) (items behind : Pattern) → (m, c) ∷ behind ≡ items → owns (one_round items) ≡ own_of m * c + owns (one_round behind)
item-own m c items behind is = ap (λ l. owns (one_round l)) (sym is) ∙ item-owns m c (one_round behind)

-- ---- the next part

pub items-first : (pattern : Pattern) (first : ℕ) (items rest : Pattern) (m : Move) (c n : ℕ) → (m, c) ∷ rest ≡ items_from pattern first items → 1 ≤ c
    → moves_from pattern ((O, first) ∷ items) n ≡ rounds (one_round pattern) (replicate c m ++ one_round rest) n
items-first pattern zero items rest m c n is some = next-first pattern items rest m c n is some
items-first pattern (suc f) items rest m c n is some = ap (λ l. rounds (one_round pattern) (one_round l) n) (sym is)

pub items-HasMoves : (pattern : Pattern) (first : ℕ) (items rest : Pattern) (m : Move) (c : ℕ) → (m, c) ∷ rest ≡ items_from pattern first items → HasMoves pattern → HasMoves items → (1 ≤ c) × HasMoves rest
items-HasMoves pattern zero items rest m c is one two = next-HasMoves pattern items rest m c is one two
items-HasMoves pattern (suc f) items rest m c is one two =
    let h : HasMoves ((m, c) ∷ rest) = subst HasMoves (sym is) (All-cons (λ item. 1 ≤ item.1) (O, suc f) items (omega arith) two) in
    (All-head (λ item. 1 ≤ item.1) (m, c) rest h, All-tail (λ item. 1 ≤ item.1) (m, c) rest h)

-- equal moves, of which those of the own hart are split
split-other : (m : Move) (count c : ℕ) → count ≡ c → replicate c m ≡ replicate count m ++ replicate (c - count) O
split-other m count c e =
    let none : 0 ≡ c - count = omega (arith, e) in
    ap (λ k. replicate k m) (sym e) ∙ sym (append-nil (replicate count m)) ∙ ap (λ k. replicate count m ++ replicate k O) none

split : (m : Move) (count c : ℕ) → count ≤ c → (own_of m ≡ 0 → count ≡ c) → replicate c m ≡ replicate count m ++ replicate (c - count) O
split O count c few all = (let e : c ≡ count + (c - count) = omega (arith, few) in ap (λ k. replicate k O) e) ∙ sym (replicate-append-replicate count (c - count) O)
split S count c few all = split-other S count c (all refl)
split T count c few all = split-other T count c (all refl)
split D count c few all = split-other D count c (all refl)

pub part-whole : (pattern : Pattern) (first : ℕ) (items rest : Pattern) (m : Move) (c count n : ℕ) → (m, c) ∷ rest ≡ items_from pattern first items → 1 ≤ c → count ≤ c → (own_of m ≡ 0 → count ≡ c) → count ≤ n
    → moves_from pattern ((O, first) ∷ items) n ≡ replicate count m ++ moves_from pattern ((O, c - count) ∷ rest) (n - count)
part-whole pattern first items rest m c count n is some few all within =
    items-first pattern first items rest m c n is some
    ∙ ap (λ l. rounds (one_round pattern) l n) (ap (λ l. l ++ one_round rest) (split m count c few all) ∙ append_assoc (replicate count m) (replicate (c - count) O) (one_round rest))
    ∙ rounds-whole (one_round pattern) (replicate (c - count) O ++ one_round rest) m count n within

pub part-cut : (pattern : Pattern) (first : ℕ) (items rest : Pattern) (m : Move) (c n : ℕ) → (m, c) ∷ rest ≡ items_from pattern first items → 1 ≤ c → n ≤ c
    → moves_from pattern ((O, first) ∷ items) n ≡ replicate n m ++ moves_from pattern ((O, first) ∷ items) 0
part-cut pattern first items rest m c n is some few = items-first pattern first items rest m c n is some ∙ rounds-cut (one_round pattern) (one_round rest) m c n few

-- ---- all moves

pub turns-are : (round moves : List Move) (n : ℕ) → 1 ≤ length round → length (rounds round moves n) ≡ n
turns-are [] moves n some = absurd (omega (arith, some))
turns-are (m ∷ round) moves n some = rounds-length m round moves n

own-most : (round : List Move) (n : ℕ) → 1 ≤ length round → n / length round * owns round ≤ owns (rounds round [] n)
own-most round n some =
    omega
    (arith, passes-owns (n / length round * owns round) (rounds round [] n) (rounds round [] (n - n / length round * length round)) (rounds-Passes round (n / length round) n some (div-mul-le_self n (length round))))

-- no more of a round's moves are the own hart's than it has
pub few-own : (pattern items : Pattern) (moves own k : ℕ) → IsRepeated pattern items moves own → k * own ≤ k * moves
few-own pattern items moves own k is = mul-le-mul_left k (subst (λ n. own ≤ n) (sym is.moves_are) (subst (λ n. n ≤ length (one_round pattern)) (sym is.own_are) (owns-length (one_round pattern))))

-- ---- where a round begins

module _
    (pattern : Pattern) (first : ℕ) (items : Pattern) (n moves own : ℕ) (now : List Move) (is : IsRepeated pattern items moves own) (view : moves_from pattern ((O, first) ∷ items) n ≡ now)
    (none : first ≡ 0) (all : length items ≡ 0) where
  end : items ≡ []
  end = nil_from_length items all

  pub round-begins : rounds (one_round pattern) [] n ≡ now
  round-begins = sym (λ i. moves_from pattern ((O, none i) ∷ end i) n) ∙ view

  -- the whole rounds that are left have moves of the own hart
  pub own-left : n / moves * own ≤ owns now
  own-left =
      subst (λ l. n / moves * own ≤ owns l) round-begins
      (subst (λ k. n / moves * k ≤ owns (rounds (one_round pattern) [] n)) (sym is.own_are)
      (subst (λ k. n / k * owns (one_round pattern) ≤ owns (rounds (one_round pattern) [] n)) (sym is.moves_are)
      (own-most (one_round pattern) n (round-some pattern is.some is.pattern_moves))))

  -- so many of them are passed
  pub begun-Passes : (k : ℕ) → k * moves ≤ n → Passes (k * own) now (moves_from pattern ((O, first) ∷ items) (n - k * moves))
  begun-Passes k few =
      subst (λ l. Passes (k * own) l (moves_from pattern ((O, first) ∷ items) (n - k * moves))) round-begins
      (subst (λ l. Passes (k * own) (rounds (one_round pattern) [] n) l) (sym (λ i. moves_from pattern ((O, none i) ∷ end i) (n - k * moves)))
      (subst (λ j. Passes (k * j) (rounds (one_round pattern) [] n) (rounds (one_round pattern) [] (n - k * moves))) (sym is.own_are)
      (subst (λ j. Passes (k * owns (one_round pattern)) (rounds (one_round pattern) [] n) (rounds (one_round pattern) [] (n - k * j))) (sym is.moves_are)
      (rounds-Passes (one_round pattern) k n (round-some pattern is.some is.pattern_moves) (subst (λ j. k * j ≤ n) is.moves_are few)))))
