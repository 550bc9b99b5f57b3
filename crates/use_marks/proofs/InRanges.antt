-- Which addresses lie in ranges, by list and by first addresses.
use Rattle.std.proofs.Common.{◌≡◌, ℕ, zero, suc, ◌+◌, ◌-◌, ◌^◌, ◌≤◌, ◌<◌, ◌⊎◌, inl, inr, Bool, true, false, ◌||◌, List, [], ◌∷◌, Some, slice_get, min, max, subst, refl, sym, ◌∙◌, ap, arith, nat_le, nat_lt}
use Rattle.std.specs.Prelude.{Result, Ok, Err, OnOk, OnErr}
use Rattle.std.specs.BTreeMap as tree
use Rattle.std.specs.BTreeMap.{BTreeMap, is_at}
use Rattle.std.specs.List.{list_any}
use Rattle.std.specs.Ordering.{nat_cmp}
use Rattle.std.specs.Cmp.{Equal-is}
use Rattle.std.proofs.lemmas.Bool.{cases_lt, cases_eq, and_parts, and_from, or_left, or_right, false_from_ne_true}
use Rattle.std.proofs.lemmas.Bool.Decides.{nat_tests}
use Rattle.std.proofs.lemmas.Cmp.{nat_cmp_total}
use Rattle.std.proofs.lemmas.Map.Keys.{any_passes_from_place}
use Rattle.std.proofs.lemmas.Map.Entries.{place_from_lookup, btree_map_get_place}
use Rattle.std.proofs.lemmas.Map.Lookups.{exact_unsigned}
use Rattle.rv_model.specs.Memory.{is_within, any_from}
use Rattle.use_marks.specs.Ranges.{is_between, in_ranges, AreBounded, Covers, IsKept, IsBefore, Adds, Takes, with_range}
use Rattle.use_marks.proofs.Spans.{one_last}

-- ---- tests

pub same_tests : (x y : Bool) → (x ≡ true → y ≡ true) → (y ≡ true → x ≡ true) → x ≡ y
same_tests true y f g = sym (f refl)
same_tests false true f g = g refl
same_tests false false f g = refl

pub between_parts : (first last a : ℕ) → is_between first last a ≡ true → (first ≤ a) × (a ≤ last)
between_parts first last a h = let p = and_parts (nat_le first a) (nat_le a last) h in (grind (arith, nat_tests, p.0), grind (arith, nat_tests, p.1))

pub between_from : (first last a : ℕ) → first ≤ a → a ≤ last → is_between first last a ≡ true
between_from first last a f t = and_from (nat_le first a) (nat_le a last) (grind (arith, nat_tests)) (grind (arith, nat_tests))

pub within_parts : (base n a : ℕ) → is_within base n a ≡ true → (base ≤ a) × (a < base + n)
within_parts base n a h = let p = and_parts (nat_le base a) (nat_lt a (base + n)) h in (grind (arith, nat_tests, p.0), grind (arith, nat_tests, p.1))

pub within_from : (base n a : ℕ) → base ≤ a → a < base + n → is_within base n a ≡ true
within_from base n a f t = and_from (nat_le base a) (nat_lt a (base + n)) (grind (arith, nat_tests)) (grind (arith, nat_tests))

-- ---- by list and by first addresses

-- where a test passes
place_from_any : {X : Type 0} (test : X → Bool) (xs : List X) → list_any test xs ≡ true → (i : ℕ) × (x : X) × (slice_get xs i ≡ Some x) × (test x ≡ true)
place_from_any test [] h = absurd (let bad : false ≡ true = h in cc)
place_from_any {X} test (x ∷ xs) h = by_test (place_from_any test xs) (test x) refl h
  where
    by_test : (list_any test xs ≡ true → (i : ℕ) × (y : X) × (slice_get xs i ≡ Some y) × (test y ≡ true)) → (b : Bool) → test x ≡ b → (b || list_any test xs) ≡ true → (i : ℕ) × (y : X) × (slice_get (x ∷ xs) i ≡ Some y) × (test y ≡ true)
    by_test rest true e h = (0, x, refl, e)
    by_test rest false e h = let p = rest h in (suc p.0, p.1, p.2, p.3)

pub covered : (m : BTreeMap ℕ ℕ) → tree.IsOrdered nat_cmp m → (a : ℕ) → in_ranges m.entries a ≡ true → Covers (tree.get nat_cmp m) a
unfolding in_ranges
covered m o a h =
    let p = place_from_any (λ (e : ℕ × ℕ). is_between e.0 e.1 a) m.entries h in
    let b = between_parts p.1.0 p.1.1 a p.3 in
    record { first = p.1.0; last = p.1.1; found = btree_map_get_place nat_cmp_total m p.0 p.1.0 p.1.1 o p.2; from = b.0; to = b.1 }

pub in_from_covers : (m : BTreeMap ℕ ℕ) (a : ℕ) → Covers (tree.get nat_cmp m) a → in_ranges m.entries a ≡ true
unfolding in_ranges
in_from_covers m a c =
    let p = place_from_lookup (is_at (nat_cmp c.first)) m.entries c.last c.found in
    let same : c.first ≡ p.1 = exact_unsigned c.first p.1 ((Equal-is (nat_cmp c.first p.1)).0 p.3) in
    any_passes_from_place (λ (e : ℕ × ℕ). is_between e.0 e.1 a) m.entries p.0 (p.1, c.last) p.2 (between_from p.1 c.last a (omega (arith, c.from)) c.to)

-- ---- one address

module _ (m : BTreeMap ℕ ℕ) (o : tree.IsOrdered nat_cmp m) (kept : IsKept (tree.get nat_cmp m)) where
  -- what has an address that isn't past `here` is the range before `here`, or ends before it
  latest_covers : (here first last a : ℕ) → IsBefore (tree.get nat_cmp m) here first last → (c : Covers (tree.get nat_cmp m) a) → c.first ≤ here → a ≤ last
  latest_covers here first last a b c up =
      elim (cases_eq c.first first) [
        | inl same ↦
            let f : tree.get nat_cmp m first ≡ Some c.last = ap (tree.get nat_cmp m) (sym same) ∙ c.found in
            let p = one_last (tree.get nat_cmp m) first c.last last f b.found in
            let t = c.to in
            omega arith
        | inr ne ↦
            let le = b.latest c.first c.last c.found up in
            let p = kept.apart c.first c.last first last c.found b.found (omega (arith, ne)) in
            let f = kept.forward first last b.found in
            let t = c.to in
            omega arith
      ]

  pub contains_some : (here first last : ℕ) → IsBefore (tree.get nat_cmp m) here first last → nat_le here last ≡ in_ranges m.entries here
  contains_some here first last b =
      same_tests (nat_le here last) (in_ranges m.entries here)
      (λ t. in_from_covers m here (record { first = first; last = last; found = b.found; from = b.up_to; to = grind (arith, nat_tests, t) }))
      (λ t.
      let c = covered m o here t in
      let p = latest_covers here first last here b c c.from in
      grind (arith, nat_tests, p))

  pub contains_none : (here : ℕ) → ((first last : ℕ) → tree.get nat_cmp m first ≡ Some last → here < first) → false ≡ in_ranges m.entries here
  contains_none here none =
      sym
      (false_from_ne_true (in_ranges m.entries here) (λ t.
      let c = covered m o here t in
      let p = none c.first c.last c.found in
      let f = c.from in
      omega arith))

-- ---- one of a stretch

pub any_from-found : (test : ℕ → Bool) (a n x : ℕ) → a ≤ x → x < a + n → test x ≡ true → any_from test a n ≡ true
unfolding any_from
any_from-found test a zero x f t e = absurd (omega arith)
any_from-found test a (suc n) x f t e =
    elim (cases_eq a x) [
      | inl same ↦ or_left (test a) (any_from test (a + 1) n) (ap test same ∙ e)
      | inr ne ↦ or_right (test a) (any_from test (a + 1) n) (any_from-found test (a + 1) n x (omega (arith, ne)) (omega arith) e)
    ]

pub any_from-place : (test : ℕ → Bool) (a n : ℕ) → any_from test a n ≡ true → (x : ℕ) × (a ≤ x) × (x < a + n) × (test x ≡ true)
unfolding any_from
any_from-place test a zero h = absurd (let bad : false ≡ true = h in cc)
any_from-place test a (suc n) h = by_test (any_from-place test (a + 1) n) (test a) refl h
  where
    by_test : (any_from test (a + 1) n ≡ true → (x : ℕ) × (a + 1 ≤ x) × (x < a + 1 + n) × (test x ≡ true)) → (b : Bool) → test a ≡ b → (b || any_from test (a + 1) n) ≡ true → (x : ℕ) × (a ≤ x) × (x < a + suc n) × (test x ≡ true)
    by_test rest true e h = (a, omega arith, omega arith, e)
    by_test rest false e h = let p = rest h in (p.0, omega (arith, p.1), omega (arith, p.2), p.3)

pub any_from-zero : (test : ℕ → Bool) (a n : ℕ) → n ≡ 0 → false ≡ any_from test a n
unfolding any_from
any_from-zero test a n e = rw e refl

-- of n numbers from a on those up to an end are addresses
module _ (m : BTreeMap ℕ ℕ) (o : tree.IsOrdered nat_cmp m) (kept : IsKept (tree.get nat_cmp m)) (a n end : ℕ) (some : 0 < n) (inside : end ≤ a + (n - 1)) (all : (x : ℕ) → x < a + n → x < 2 ^ 64 → x ≤ end) where
  pub any_some : (first last : ℕ) → IsBefore (tree.get nat_cmp m) end first last → nat_le a last ≡ any_from (in_ranges m.entries) a n
  any_some first last b = same_tests (nat_le a last) (any_from (in_ranges m.entries) a n) forth back
    where
      forth : nat_le a last ≡ true → any_from (in_ranges m.entries) a n ≡ true
      forth t =
          let le : a ≤ last = grind (arith, nat_tests, t) in
          let u = b.up_to in
          let f = kept.forward first last b.found in
          elim (cases_lt a first) [
            | inl less ↦ any_from-found (in_ranges m.entries) a n first (omega arith) (omega (arith, u, inside, some)) (in_from_covers m first (record { first = first; last = last; found = b.found; from = omega arith; to = f }))
            | inr within ↦ any_from-found (in_ranges m.entries) a n a (omega arith) (omega arith) (in_from_covers m a (record { first = first; last = last; found = b.found; from = within; to = le }))
          ]

      back : any_from (in_ranges m.entries) a n ≡ true → nat_le a last ≡ true
      back t =
          let x = any_from-place (in_ranges m.entries) a n t in
          let c = covered m o x.0 x.3 in
          let f = c.from in
          let low : x.0 ≤ end = all x.0 x.2 (omega (arith, c.to, kept.addresses c.first c.last c.found)) in
          let p = latest_covers m o kept end first last x.0 b c (omega (arith, low)) in
          let le : a ≤ last = omega (arith, x.1) in
          grind (arith, nat_tests, le)

  pub any_none : ((first last : ℕ) → tree.get nat_cmp m first ≡ Some last → end < first) → false ≡ any_from (in_ranges m.entries) a n
  any_none none =
      sym
      (false_from_ne_true (any_from (in_ranges m.entries) a n) (λ t.
      let x = any_from-place (in_ranges m.entries) a n t in
      let c = covered m o x.0 x.3 in
      let p = none c.first c.last c.found in
      let f = c.from in
      let low : x.0 ≤ end = all x.0 x.2 (omega (arith, c.to, kept.addresses c.first c.last c.found)) in
      omega (arith, low)))

-- ---- bounds

-- what ends below them, or begins above, has none
pub any_outside : (ranges : List (ℕ × ℕ)) (least most : ℕ) → AreBounded ranges least most → (a n end : ℕ) → ((x : ℕ) → x < a + n → x < 2 ^ 64 → x ≤ end)
    → (end < least) ⊎ (most < a) → false ≡ any_from (in_ranges ranges) a n
any_outside ranges least most bounded a n end all out =
    sym
    (false_from_ne_true (any_from (in_ranges ranges) a n) (λ t.
    let x = any_from-place (in_ranges ranges) a n t in
    let b = bounded x.0 x.3 in
    let low : x.0 ≤ end = all x.0 x.2 b.2 in
    by_side x.0 x.1 b low out))
  where
    by_side : (x : ℕ) → a ≤ x → (least ≤ x) × (x ≤ most) × (x < 2 ^ 64) → x ≤ end → (end < least) ⊎ (most < a) → ⊥
    by_side x from b low (inl below) = omega (arith, from, b.0, low, below)
    by_side x from b low (inr above) = omega (arith, from, b.1, above)

-- where there are none
pub none_bounded : (ranges : List (ℕ × ℕ)) (least most : ℕ) → ((a : ℕ) → in_ranges ranges a ≡ false) → AreBounded ranges least most
none_bounded ranges least most none a h = absurd (let bad : true ≡ false = sym h ∙ none a in cc)

-- ---- changes

-- those that are added widen them
pub added_bounded : (m h : BTreeMap ℕ ℕ) → tree.IsOrdered nat_cmp h → (first last least most : ℕ) → last < 2 ^ 64 → Adds (tree.get nat_cmp m) first last (tree.get nat_cmp h)
    → AreBounded m.entries least most → AreBounded h.entries (min least first) (max most last)
added_bounded m h q first last least most room adds bounded a t = by_part (adds.back a (covered h q a t))
  where
    by_part : Covers (tree.get nat_cmp m) a ⊎ ((first ≤ a) × (a ≤ last)) → (min least first ≤ a) × (a ≤ max most last) × (a < 2 ^ 64)
    by_part (inl c) = let b = bounded a (in_from_covers m a c) in (omega (arith, b.0), omega (arith, b.1), b.2)
    by_part (inr p) = (omega (arith, p.0), omega (arith, p.1), omega (arith, p.1, room))

-- and those that are taken leave them
pub taken_bounded : (m h : BTreeMap ℕ ℕ) → tree.IsOrdered nat_cmp h → (first last least most : ℕ) → Takes (tree.get nat_cmp m) first last (tree.get nat_cmp h)
    → AreBounded m.entries least most → AreBounded h.entries least most
taken_bounded m h q first last least most takes bounded a t = bounded a (in_from_covers m a (takes.back a (covered h q a t)))

-- whether it came to that or not
pub after_take : {A E : Type 0} (r : Result A E) (m h : BTreeMap ℕ ℕ) → tree.IsOrdered nat_cmp h → (first last least most : ℕ) → OnOk r (Takes (tree.get nat_cmp m) first last (tree.get nat_cmp h)) → OnErr r (h.entries ≡ m.entries)
    → AreBounded m.entries least most → AreBounded h.entries least most
after_take (Ok x) m h q first last least most takes same bounded = taken_bounded m h q first last least most takes bounded
after_take (Err e) m h q first last least most takes same bounded = subst (λ (es : List (ℕ × ℕ)). AreBounded es least most) (sym same) bounded

-- nothing is taken where there is none
pub none_taken : (f : ℕ → Bool) (a n : ℕ) → false ≡ any_from f a n → (x : ℕ) → f x ≡ with_range f a n false x
none_taken f a n none x = by_test (is_within a n x) refl
  where
    by_test : (b : Bool) → is_within a n x ≡ b → f x ≡ elim b [ true ↦ false | false ↦ f x ]
    by_test true t =
        let p = within_parts a n x t in
        false_from_ne_true (f x) (λ there. let bad : true ≡ false = sym (any_from-found f a n x p.0 p.1 there) ∙ sym none in cc)
    by_test false t = refl

-- where there is one, there is an address
pub some_any : (f : ℕ → Bool) (a n : ℕ) → any_from f a n ≡ true → 0 < n
some_any f a n t = let x = any_from-place f a n t in omega (arith, x.1, x.2)

module _ (m h : BTreeMap ℕ ℕ) (o : tree.IsOrdered nat_cmp m) (q : tree.IsOrdered nat_cmp h) (a n : ℕ) (some : 0 < n) where
  pub added_range : Adds (tree.get nat_cmp m) a (a + (n - 1)) (tree.get nat_cmp h) → (x : ℕ) → in_ranges h.entries x ≡ with_range (in_ranges m.entries) a n true x
  added_range adds x = by_test (is_within a n x) refl
    where
      by_test : (b : Bool) → is_within a n x ≡ b → in_ranges h.entries x ≡ elim b [ true ↦ true | false ↦ in_ranges m.entries x ]
      by_test true e = let p = within_parts a n x e in in_from_covers h x (adds.added x p.0 (omega (arith, p.1)))
      by_test false e =
          same_tests (in_ranges h.entries x) (in_ranges m.entries x)
          (λ t. old (adds.back x (covered h q x t)))
          (λ t. in_from_covers h x (adds.kept x (covered m o x t)))
        where
          old : Covers (tree.get nat_cmp m) x ⊎ ((a ≤ x) × (x ≤ a + (n - 1))) → in_ranges m.entries x ≡ true
          old (inl c) = in_from_covers m x c
          old (inr p) = absurd (let t = within_from a n x p.0 (omega (arith, p.1)) in cc)

  pub taken_range : Takes (tree.get nat_cmp m) a (a + (n - 1)) (tree.get nat_cmp h) → (x : ℕ) → in_ranges h.entries x ≡ with_range (in_ranges m.entries) a n false x
  taken_range takes x = by_test (is_within a n x) refl
    where
      by_test : (b : Bool) → is_within a n x ≡ b → in_ranges h.entries x ≡ elim b [ true ↦ false | false ↦ in_ranges m.entries x ]
      by_test true e =
          let p = within_parts a n x e in
          false_from_ne_true (in_ranges h.entries x) (λ t. outside p (takes.taken x (covered h q x t)))
        where
          outside : (a ≤ x) × (x < a + n) → (x < a) ⊎ (a + (n - 1) < x) → ⊥
          outside p (inl less) = omega (arith, p.0)
          outside p (inr more) = omega (arith, p.1)
      by_test false e =
          same_tests (in_ranges h.entries x) (in_ranges m.entries x)
          (λ t. in_from_covers m x (takes.back x (covered h q x t)))
          (λ t. in_from_covers h x (takes.kept x (covered m o x t) out))
        where
          out : (x < a) ⊎ (a + (n - 1) < x)
          out =
              elim (cases_lt x a) [
                | inl less ↦ inl less
                | inr past ↦
                    elim (cases_lt (a + (n - 1)) x) [
                      | inl more ↦ inr more
                      | inr within ↦ absurd (let t = within_from a n x past (omega arith) in cc)
                    ]
              ]

-- no addresses
pub no_range : (f : ℕ → Bool) (a n : ℕ) (marked : Bool) → n ≡ 0 → (x : ℕ) → f x ≡ with_range f a n marked x
no_range f a n marked e x = by_test (is_within a n x) refl
  where
    by_test : (b : Bool) → is_within a n x ≡ b → f x ≡ elim b [ true ↦ marked | false ↦ f x ]
    by_test true t = absurd (let p = within_parts a n x t in omega (arith, p.0, p.1))
    by_test false t = refl
