-- Counting in lists of different blocks.
use Rattle.std.proofs.Common.{◌≡◌, ℕ, ◌+◌, ◌≤◌, Bool, true, false, not, ◌&&◌, ◌||◌, List, [], ◌∷◌, length, refl, sym, ◌∙◌, ap, inl, inr, arith, eqb}
use Rattle.std.proofs.lemmas.Bool.{cases_eq, eqb-false, eq-eqb, ne_eqb, or_parts, and_parts, not-true}
use Rattle.fetch_plan.specs.Plans.{has, all_differ, without, one, count, new_count}

pub one-le : (b : Bool) → one b ≤ 1
one-le true = omega arith
one-le false = omega arith

pub one-true : (b : Bool) → b ≡ true → one b ≡ 1
one-true b e = rw e refl

pub one-false : (b : Bool) → b ≡ false → one b ≡ 0
one-false b e = rw e refl

-- all but the first of different blocks
pub differ_parts : (x : ℕ) (xs : List ℕ) → all_differ (x ∷ xs) ≡ true → (has xs x ≡ false) × (all_differ xs ≡ true)
differ_parts x xs h =
    let parts = and_parts (not (has xs x)) (all_differ xs) h in
    (not-true (has xs x) parts.0, parts.1)

-- a test that is at most the sum of two
pub count-plus : (p q r : ℕ → Bool) → ((b : ℕ) → one (p b) ≤ one (q b) + one (r b)) → (xs : List ℕ) → count p xs ≤ count q xs + count r xs
count-plus p q r h [] = omega arith
count-plus p q r h (x ∷ xs) = omega (arith, h x, count-plus p q r h xs)

pub count-none : (xs : List ℕ) → count (λ b. false) xs ≡ 0
count-none [] = refl
count-none (x ∷ xs) = omega (arith, count-none xs)

pub count-le : (p : ℕ → Bool) (xs : List ℕ) → count p xs ≤ length xs
count-le p [] = omega arith
count-le p (x ∷ xs) = omega (arith, one-le (p x), count-le p xs)

-- a test that all pass
pub count-all : (p : ℕ → Bool) (xs : List ℕ) → ((b : ℕ) → has xs b ≡ true → p b ≡ true) → count p xs ≡ length xs
count-all p [] h = refl
count-all p (x ∷ xs) h =
    let here : p x ≡ true = h x (rw (eq-eqb x x refl) refl) in
    let rest = count-all p xs (λ b on. h b (or_right_of (eqb x b) (has xs b) on)) in
    omega (arith, one-true (p x) here, rest)
  where
    or_right_of : (a b : Bool) → b ≡ true → (a || b) ≡ true
    or_right_of true b h = refl
    or_right_of false b h = h

-- a block that isn't there adds nothing
pub count-absent : (p : ℕ → Bool) (x : ℕ) (ys : List ℕ) → has ys x ≡ false → count (λ b. eqb x b || p b) ys ≡ count p ys
count-absent p x [] h = refl
count-absent p x (y ∷ ys) h =
    let parts = or_parts (eqb y x) (has ys x) h in
    let apart : eqb x y ≡ false = ne_eqb x y (λ e. eqb-false y x parts.0 (sym e)) in
    rw apart (ap (λ n. one (p y) + n) (count-absent p x ys parts.1))

-- a block that is there adds one, unless it passes
pub count-present : (p : ℕ → Bool) (x : ℕ) (ys : List ℕ) → all_differ ys ≡ true → has ys x ≡ true → count (λ b. eqb x b || p b) ys + one (p x) ≡ count p ys + 1
count-present p x [] d h = cc
count-present p x (y ∷ ys) d h =
    let parts = differ_parts y ys d in
    elim (cases_eq x y) [
      | inl e ↦
          let gone : has ys x ≡ false = ap (has ys) e ∙ parts.0 in
          let same : one (p x) ≡ one (p y) = ap (λ n. one (p n)) e in
          rw (eq-eqb x y e) (omega (arith, count-absent p x ys gone, same))
      | inr ne ↦
          let there : has ys x ≡ true = rest_has (eqb y x) (has ys x) (ne_eqb y x (λ e. ne (sym e))) h in
          rw (ne_eqb x y ne) (omega (arith, count-present p x ys parts.1 there))
    ]
  where
    rest_has : (a b : Bool) → a ≡ false → (a || b) ≡ true → b ≡ true
    rest_has true b e h = cc
    rest_has false b e h = h

-- one block passes at most once
count-once : (d : ℕ) (q : Bool) (ys : List ℕ) → all_differ ys ≡ true → count (λ b. eqb d b && q) ys ≤ one q
count-once d q [] h = omega arith
count-once d q (y ∷ ys) h =
    let parts = differ_parts y ys h in
    elim (cases_eq d y) [
      | inl e ↦
          let none : count (λ b. eqb d b && q) ys ≡ 0 = count-no d q ys (ap (has ys) e ∙ parts.0) in
          rw (eq-eqb d y e) (omega (arith, none))
      | inr ne ↦ rw (ne_eqb d y ne) (omega (arith, count-once d q ys parts.1))
    ]
  where
    count-no : (d : ℕ) (q : Bool) (ys : List ℕ) → has ys d ≡ false → count (λ b. eqb d b && q) ys ≡ 0
    count-no d q [] h = refl
    count-no d q (y ∷ ys) h =
        let parts = or_parts (eqb y d) (has ys d) h in
        rw (ne_eqb d y (λ e. eqb-false y d parts.0 (sym e))) (omega (arith, count-no d q ys parts.1))

-- of different blocks at most as many are in a list and pass as pass in it
pub count-shared : (p : ℕ → Bool) (xs ys : List ℕ) → all_differ ys ≡ true → count (λ b. has xs b && p b) ys ≤ count p xs
count-shared p [] ys d = omega (arith, count-none ys)
count-shared p (x ∷ xs) ys d =
    let each : (b : ℕ) → one ((eqb x b || has xs b) && p b) ≤ one (eqb x b && p x) + one (has xs b && p b) = λ b. split b in
    omega (arith, count-plus (λ b. (eqb x b || has xs b) && p b) (λ b. eqb x b && p x) (λ b. has xs b && p b) each ys, count-once x (p x) ys d, count-shared p xs ys d)
  where
    split : (b : ℕ) → one ((eqb x b || has xs b) && p b) ≤ one (eqb x b && p x) + one (has xs b && p b)
    split b =
        elim (cases_eq x b) [
          | inl e ↦ rw (eq-eqb x b e) (let same : one (p x) ≡ one (p b) = ap (λ n. one (p n)) e in omega (arith, same))
          | inr ne ↦ rw (ne_eqb x b ne) (omega arith)
        ]

-- of different blocks at most so many more pass as are new
pub count-grows : (p : ℕ → Bool) (xs ys : List ℕ) → all_differ ys ≡ true → count p ys ≤ count p xs + new_count xs ys
count-grows p xs ys d =
    omega (arith, count-plus p (λ b. has xs b && p b) (λ b. not (has xs b)) (λ b. each (has xs b) (p b)) ys, count-shared p xs ys d)
  where
    each : (h q : Bool) → one q ≤ one (h && q) + one (not h)
    each true q = omega arith
    each false q = omega (arith, one-le q)

-- ---- a block that leaves

pub without-absent : (xs : List ℕ) (f : ℕ) → has xs f ≡ false → without xs f ≡ xs
without-absent [] f h = refl
without-absent (x ∷ xs) f h =
    let parts = or_parts (eqb x f) (has xs f) h in
    rw parts.0 (ap (λ l. x ∷ l) (without-absent xs f parts.1))

pub count-without : (p : ℕ → Bool) (xs : List ℕ) (f : ℕ) → all_differ xs ≡ true → has xs f ≡ true → count p (without xs f) + one (p f) ≡ count p xs
count-without p [] f d h = cc
count-without p (x ∷ xs) f d h =
    let parts = differ_parts x xs d in
    elim (cases_eq x f) [
      | inl e ↦
          let gone : has xs f ≡ false = ap (has xs) (sym e) ∙ parts.0 in
          let same : one (p x) ≡ one (p f) = ap (λ n. one (p n)) e in
          let rest : count p (without xs f) ≡ count p xs = ap (count p) (without-absent xs f gone) in
          rw (eq-eqb x f e) (omega (arith, rest, same))
      | inr ne ↦
          rw (ne_eqb x f ne) (let there : has xs f ≡ true = rw (ne_eqb x f ne) at h in omega (arith, count-without p xs f parts.1 there))
    ]
