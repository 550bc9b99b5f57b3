-- The plan that lets the farthest block go costs at most what any plan does.
use Rattle.std.proofs.Common.{◌≡◌, ℕ, zero, suc, ◌+◌, ◌≤◌, ◌<◌, Bool, true, false, ◌&&◌, ◌||◌, ◌==◌, List, [], ◌∷◌, length, refl, ap, inl, inr, arith, eqb, ltb}
use Rattle.std.proofs.lemmas.Bool.{cases_Bool, cases_eq, eqb-true, eq-eqb, ne_eqb, or_parts, or_cases, or_left, or_right, and_parts, ltb-true, ltb-false}
use Rattle.fetch_plan.specs.Plans.{has, all_differ, without, one, count, new_count, distance, goes_before, first_to_go}
use Rattle.fetch_plan.proofs.Counts.{one-true, one-false, count-none, count-le, count-all, count-absent, count-present, count-grows, count-without}

-- whether the block is one of the first t needs
abbrev pub within : ℕ → List ℕ → ℕ → Bool
within zero needs block = false
within (suc t) [] block = false
within (suc t) (x ∷ xs) block = x == block || within t xs block

-- a block that is needed no later is needed as soon
pub within-nearer : (t : ℕ) (needs : List ℕ) (c f : ℕ) → distance needs c ≤ distance needs f → within t needs f ≡ true → within t needs c ≡ true
within-nearer zero needs c f near h = cc
within-nearer (suc t) [] c f near h = cc
within-nearer (suc t) (x ∷ xs) c f near h =
    elim (cases_eq x c) [
      | inl e ↦ rw (eq-eqb x c e) refl
      | inr ne ↦
          rw (ne_eqb x c ne)
          (elim (cases_eq x f) [
            | inl e ↦ absurd (let none : 1 + distance xs c ≤ 0 = rw (ne_eqb x c ne, eq-eqb x f e) at near in omega arith)
            | inr nf ↦
                let near' : 1 + distance xs c ≤ 1 + distance xs f = rw (ne_eqb x c ne, ne_eqb x f nf) at near in
                let later : within t xs f ≡ true = rw (ne_eqb x f nf) at h in
                within-nearer t xs c f (omega arith) later
          ])
    ]

-- ---- the farthest block

goes_before-true : (needs : List ℕ) (x y : ℕ) → goes_before needs x y ≡ true → (distance needs y ≤ distance needs x) × (distance needs x ≡ distance needs y → x < y)
goes_before-true needs x y h =
    elim (or_cases (ltb (distance needs y) (distance needs x)) (eqb (distance needs x) (distance needs y) && ltb x y) h) [
      | inl far ↦
          let more = ltb-true (distance needs y) (distance needs x) far in
          (omega arith, λ e. omega arith)
      | inr same ↦
          let parts = and_parts (eqb (distance needs x) (distance needs y)) (ltb x y) same in
          let e = eqb-true (distance needs x) (distance needs y) parts.0 in
          (omega arith, λ e. ltb-true x y parts.1)
    ]

goes_before-false : (needs : List ℕ) (x y : ℕ) → goes_before needs x y ≡ false → (distance needs x ≤ distance needs y) × (distance needs x ≡ distance needs y → y ≤ x)
goes_before-false needs x y h =
    let parts = or_parts (ltb (distance needs y) (distance needs x)) (eqb (distance needs x) (distance needs y) && ltb x y) h in (
      ltb-false (distance needs y) (distance needs x) parts.0,
      λ e. ltb-false x y (rest_of (eqb (distance needs x) (distance needs y)) (ltb x y) (eq-eqb (distance needs x) (distance needs y) e) parts.1),
    )
  where
    rest_of : (a b : Bool) → a ≡ true → (a && b) ≡ false → b ≡ false
    rest_of true b e h = h
    rest_of false b e h = cc

-- a block of a list that no other of it is needed later than, and none with a lower number as late
pub record IsFarthest (needs blocks : List ℕ) (f : ℕ) : Type 0 where
  pub held : has blocks f ≡ true
  pub latest : (c : ℕ) → has blocks c ≡ true → distance needs c ≤ distance needs f
  pub lowest : (c : ℕ) → has blocks c ≡ true → distance needs c ≡ distance needs f → f ≤ c

-- there is one such block at most
pub IsFarthest-same : (needs blocks : List ℕ) (f g : ℕ) → IsFarthest needs blocks f → IsFarthest needs blocks g → f ≡ g
IsFarthest-same needs blocks f g p q =
    let a = p.latest g q.held in
    let b = q.latest f p.held in
    let c : g ≤ f = q.lowest f p.held (omega arith) in
    let d : f ≤ g = p.lowest g q.held (omega arith) in
    omega arith

first_to_go-ge : (needs : List ℕ) (best : ℕ) (xs : List ℕ) → distance needs best ≤ distance needs (first_to_go needs best xs)
first_to_go-ge needs best [] = omega arith
first_to_go-ge needs best (x ∷ xs) =
    elim (cases_Bool (goes_before needs x best)) [
      | inl t ↦ rw t (omega (arith, (goes_before-true needs x best t).0, first_to_go-ge needs x xs))
      | inr f ↦ rw f (first_to_go-ge needs best xs)
    ]

has-self : (x : ℕ) (xs : List ℕ) → has (x ∷ xs) x ≡ true
has-self x xs = or_left (eqb x x) (has xs x) (eq-eqb x x refl)

pub first_to_go-farthest : (needs : List ℕ) (best : ℕ) (xs : List ℕ) → IsFarthest needs (best ∷ xs) (first_to_go needs best xs)
first_to_go-farthest needs best [] = record {
  held = has-self best [];
  latest = λ c on. let same : distance needs best ≡ distance needs c = ap (distance needs) (only c on) in omega arith;
  lowest = λ c on e. let same = only c on in omega arith;
}
  where
    only : (c : ℕ) → has (best ∷ []) c ≡ true → best ≡ c
    only c on = elim (or_cases (eqb best c) false on) [ inl e ↦ eqb-true best c e | inr none ↦ cc ]
first_to_go-farthest needs best (x ∷ xs) =
    elim (cases_Bool (goes_before needs x best)) [
      | inl t ↦
          rw t
          (let rest = first_to_go-farthest needs x xs in
          let f = first_to_go needs x xs in
          let over = goes_before-true needs x best t in
          let ge = first_to_go-ge needs x xs in
          record {
            held = or_right (eqb best f) (has (x ∷ xs) f) rest.held;
            latest = λ c on.
                elim (or_cases (eqb best c) (has (x ∷ xs) c) on) [
                  | inl e ↦ let same : distance needs best ≡ distance needs c = ap (distance needs) (eqb-true best c e) in omega arith
                  | inr more ↦ rest.latest c more
                ];
            lowest = λ c on e.
                elim (or_cases (eqb best c) (has (x ∷ xs) c) on) [
                  | inl is ↦
                      let i = eqb-true best c is in
                      let same : distance needs best ≡ distance needs c = ap (distance needs) i in
                      let low = rest.lowest x (has-self x xs) in
                      omega (arith, over.1, low)
                  | inr more ↦ rest.lowest c more e
                ];
          })
      | inr t ↦
          rw t
          (let rest = first_to_go-farthest needs best xs in
          let f = first_to_go needs best xs in
          let under = goes_before-false needs x best t in
          let ge = first_to_go-ge needs best xs in
          record {
            held =
                elim (or_cases (eqb best f) (has xs f) rest.held) [
                  | inl e ↦ or_left (eqb best f) (has (x ∷ xs) f) e
                  | inr on ↦ or_right (eqb best f) (has (x ∷ xs) f) (or_right (eqb x f) (has xs f) on)
                ];
            latest = λ c on.
                elim (or_cases (eqb best c) (has (x ∷ xs) c) on) [
                  | inl e ↦ rest.latest c (or_left (eqb best c) (has xs c) e)
                  | inr more ↦
                      elim (or_cases (eqb x c) (has xs c) more) [
                        | inl e ↦ let same : distance needs x ≡ distance needs c = ap (distance needs) (eqb-true x c e) in omega arith
                        | inr last ↦ rest.latest c (or_right (eqb best c) (has xs c) last)
                      ]
                ];
            lowest = λ c on e.
                elim (or_cases (eqb best c) (has (x ∷ xs) c) on) [
                  | inl is ↦ rest.lowest c (or_left (eqb best c) (has xs c) is) e
                  | inr more ↦
                      elim (or_cases (eqb x c) (has xs c) more) [
                        | inl is ↦
                            let i = eqb-true x c is in
                            let same : distance needs x ≡ distance needs c = ap (distance needs) i in
                            let low = rest.lowest best (has-self best xs) in
                            omega (arith, under.1, low)
                        | inr last ↦ rest.lowest c (or_right (eqb best c) (has xs c) last) e
                      ]
                ];
          })
    ]

-- ---- one need

-- for every t the first list has at least as many of the first t needs as the second, but for what was paid
abbrev pub Leads : List ℕ → List ℕ → List ℕ → ℕ → ℕ → Type 0
Leads needs ours theirs paid theirs_paid = (t : ℕ) → count (within t needs) theirs + paid ≤ count (within t needs) ours + theirs_paid

module _ (x : ℕ) (xs S D C : List ℕ) (m k : ℕ) (leads : Leads (x ∷ xs) S D m k) (in_c : has C x ≡ true) (different_c : all_differ C ≡ true) where
  -- they have gone from D to C, and the need is met
  theirs_next : (t : ℕ) → count (within t xs) C + 1 + m ≤ count (within (suc t) (x ∷ xs)) S + k + new_count D C + one (within t xs x)
  theirs_next t =
      omega (arith, leads (suc t), count-grows (within (suc t) (x ∷ xs)) D C different_c, count-present (within t xs) x C different_c in_c)

  -- the block was held
  pub Leads-held : all_differ S ≡ true → has S x ≡ true → Leads xs S C m (k + new_count D C)
  Leads-held d h t = omega (arith, theirs_next t, count-present (within t xs) x S d h)

  -- it enters
  pub Leads-enters : has S x ≡ false → Leads xs (x ∷ S) C (m + 1) (k + new_count D C)
  Leads-enters h t = omega (arith, theirs_next t, count-absent (within t xs) x S h)

  -- it enters, and the farthest leaves
  pub Leads-leaves : (blocks f : ℕ) → all_differ S ≡ true → has S x ≡ false → IsFarthest xs S f → blocks ≤ length S → length C ≤ blocks → Leads xs (x ∷ without S f) C (m + 1) (k + new_count D C)
  Leads-leaves blocks f d h far full few t =
      elim (cases_Bool (within t xs f)) [
        | inl soon ↦
            let all : count (within t xs) S ≡ length S =
            count-all (within t xs) S (λ c on. within-nearer t xs c f (far.latest c on) soon) in
            let paid : 0 + (m + 1) ≤ 0 + (k + new_count D C) = omega (arith, Leads-enters h 0, count-none C, count-none (x ∷ S)) in
            omega (arith, all, paid, one-true (within t xs f) soon, count-without (within t xs) S f d far.held, count-present (within t xs) x C different_c in_c, count-le (λ b. eqb x b || within t xs b) C)
        | inr late ↦
            omega (arith, Leads-enters h t, one-false (within t xs f) late, count-without (within t xs) S f d far.held)
      ]
