-- What one change of the tables does to the held blocks.
use Rattle.std.proofs.Common.{◌≡◌, ℕ, ◌+◌, ◌≤◌, ◌<◌, Bool, true, false, not, ◌||◌, List, [], ◌∷◌, length, Option, Some, None, is_some, refl, sym, ◌∙◌, ap, inl, inr, arith, eqb}
use Rattle.std.specs.Ordering.{is_eq, nat_cmp}
use Rattle.std.specs.Cmp.{Equal-is}
use Rattle.std.proofs.lemmas.Map.Lookups.{exact_unsigned}
use Rattle.std.proofs.lemmas.Bool.{cases_eq, eqb-false, eq-eqb, ne_eqb, or_left, or_right, and_parts, and_from, not-true, not_from_false, false_from_ne_true}
use Rattle.fetch_plan.specs.Plans.{distance}
use Rattle.fetch_plan.specs.Kept.{IsKept, GoesFirst, except, also}

-- two keys that differ
pub keys_apart : (k q : ℕ) → (q ≡ k → ⊥) → is_eq (nat_cmp k q) ≡ false
keys_apart k q ne = false_from_ne_true (is_eq (nat_cmp k q)) (λ t. ne (sym (exact_unsigned k q ((Equal-is (nat_cmp k q)).0 t))))

pub distance-le : (needs : List ℕ) (b : ℕ) → distance needs b ≤ length needs
distance-le [] b = omega arith
distance-le (x ∷ xs) b =
    elim (cases_eq x b) [
      | inl e ↦ rw (eq-eqb x b e) (omega arith)
      | inr ne ↦ rw (ne_eqb x b ne) (omega (arith, distance-le xs b))
    ]

pub distance-same : (needs : List ℕ) (x b : ℕ) → x ≡ b → distance (x ∷ needs) b ≡ 0
distance-same needs x b e = rw (eq-eqb x b e) refl

pub distance-apart : (needs : List ℕ) (x b : ℕ) → (x ≡ b → ⊥) → distance (x ∷ needs) b ≡ 1 + distance needs b
distance-apart needs x b ne = rw (ne_eqb x b ne) refl

except-parts : (held : ℕ → Bool) (x b : ℕ) → except held x b ≡ true → (held b ≡ true) × (x ≡ b → ⊥)
except-parts held x b h =
    let parts = and_parts (held b) (not (eqb x b)) h in
    (parts.0, eqb-false x b (not-true (eqb x b) parts.1))

except-from : (held : ℕ → Bool) (x b : ℕ) → held b ≡ true → (x ≡ b → ⊥) → except held x b ≡ true
except-from held x b h ne = and_from (held b) (not (eqb x b)) h (not_from_false (eqb x b) (ne_eqb x b ne))

-- the same blocks
pub IsKept-same : (f : ℕ → Option ℕ) (n : ℕ → Bool) (place : ℕ) (needs : List ℕ) (h k : ℕ → Bool) → ((b : ℕ) → h b ≡ k b) → IsKept f n place needs h → IsKept f n place needs k
IsKept-same f n place needs h k same kept = record {
  coming_held = λ q b e. sym (same b) ∙ kept.coming_held q b e;
  coming_place = kept.coming_place;
  coming_within = kept.coming_within;
  held_comes = λ b on. kept.held_comes b (same b ∙ on);
  never_held = λ b on. sym (same b) ∙ kept.never_held b on;
  never_within = kept.never_within;
  held_never = λ b on. kept.held_never b (same b ∙ on);
}

-- ---- the needed block is taken out

module _ (f : ℕ → Option ℕ) (n : ℕ → Bool) (place x : ℕ) (needs : List ℕ) (held : ℕ → Bool) (kept : IsKept f n place (x ∷ needs) held) where
  pub needed_told : is_some (f place) ≡ held x
  needed_told = told (f place) refl
    where
      told : (o : Option ℕ) → f place ≡ o → is_some o ≡ held x
      told (Some b) e =
          elim (cases_eq x b) [
            | inl same ↦ sym (ap held same ∙ kept.coming_held place b e)
            | inr ne ↦ absurd (omega (arith, kept.coming_place place b e, distance-apart needs x b ne))
          ]
      told None e =
          sym
          (false_from_ne_true (held x) (λ on.
          let z = distance-same needs x x refl in
          let comes = kept.held_comes x on (omega (arith, z)) in
          let here : place + distance (x ∷ needs) x ≡ place = omega (arith, z) in
          let same : f (place + distance (x ∷ needs) x) ≡ f place = ap f here in
          cc))

  module _ (g : ℕ → Option ℕ) (gone : g place ≡ None) (others : (q : ℕ) → (q ≡ place → ⊥) → g q ≡ f q) where
    had : (q b : ℕ) → g q ≡ Some b → (f q ≡ Some b) × (x ≡ b → ⊥)
    had q b e =
        let ne : q ≡ place → ⊥ = λ same. let at : g q ≡ g place = ap g same in cc in
        let was : f q ≡ Some b = sym (others q ne) ∙ e in
        (was, λ same. ne (omega (arith, kept.coming_place q b was, distance-same needs x b same)))

    pub IsKept-needed : IsKept g n (place + 1) needs (except held x)
    IsKept-needed = record {
      coming_held = λ q b e. let h = had q b e in except-from held x b (kept.coming_held q b h.0) h.1;
      coming_place = λ q b e. let h = had q b e in omega (arith, kept.coming_place q b h.0, distance-apart needs x b h.1);
      coming_within = λ q b e. let h = had q b e in omega (arith, kept.coming_within q b h.0, distance-apart needs x b h.1);
      held_comes = λ b on few.
          let parts = except-parts held x b on in
          let far = distance-apart needs x b parts.1 in
          let comes = kept.held_comes b parts.0 (omega (arith, far)) in
          let here : place + distance (x ∷ needs) b ≡ place + 1 + distance needs b = omega (arith, far) in
          let same : f (place + distance (x ∷ needs) b) ≡ f (place + 1 + distance needs b) = ap f here in
          others (place + 1 + distance needs b) (λ e. omega arith) ∙ sym same ∙ comes;
      never_held = λ b on.
          except-from held x b (kept.never_held b on) (λ e. omega (arith, kept.never_within b on, distance-same needs x b e));
      never_within = λ b on.
          elim (cases_eq x b) [
            | inl e ↦ absurd (omega (arith, kept.never_within b on, distance-same needs x b e))
            | inr ne ↦ omega (arith, kept.never_within b on, distance-apart needs x b ne)
          ];
      held_never = λ b on far.
          let parts = except-parts held x b on in
          kept.held_never b parts.0 (omega (arith, distance-apart needs x b parts.1));
    }

-- ---- the first block is taken out

module _ (f : ℕ → Option ℕ) (n : ℕ → Bool) (place : ℕ) (needs : List ℕ) (held : ℕ → Bool) (kept : IsKept f n place needs held) where
  -- of those that aren't needed again
  module _ (k : ℕ) (has_k : n k ≡ true) (least : (q : ℕ) → n q ≡ true → k ≤ q) where
    pub never_first : GoesFirst needs held k
    never_first = record {
      is_held = kept.never_held k has_k;
      latest = λ c on. omega (arith, kept.never_within k has_k, distance-le needs c);
      lowest = λ c on e. least c (kept.held_never c on (omega (arith, kept.never_within k has_k)));
    }

    pub IsKept-never : (m : ℕ → Bool) → m k ≡ false → ((q : ℕ) → (q ≡ k → ⊥) → m q ≡ n q) → IsKept f m place needs (except held k)
    IsKept-never m gone others = record {
      coming_held = λ q b e.
          except-from held k b (kept.coming_held q b e) (λ same.
          let d : distance needs k ≡ distance needs b = ap (distance needs) same in
          omega (arith, kept.coming_within q b e, kept.never_within k has_k));
      coming_place = kept.coming_place;
      coming_within = kept.coming_within;
      held_comes = λ b on few. kept.held_comes b (except-parts held k b on).0 few;
      never_held = λ b on. let h = had b on in except-from held k b (kept.never_held b h.0) h.1;
      never_within = λ b on. kept.never_within b (had b on).0;
      held_never = λ b on far.
          let parts = except-parts held k b on in
          others b (λ e. parts.1 (sym e)) ∙ kept.held_never b parts.0 far;
    }
      where
        had : (b : ℕ) → m b ≡ true → (n b ≡ true) × (k ≡ b → ⊥)
        had b on =
            let ne : b ≡ k → ⊥ = λ same. let at : m b ≡ m k = ap m same in cc in
            (sym (others b ne) ∙ on, λ e. ne (sym e))

  -- where there are none of these, of those that are
  module _ (none : (b : ℕ) → n b ≡ false) (k v : ℕ) (has_k : f k ≡ Some v) (greatest : (q b : ℕ) → f q ≡ Some b → q ≤ k) where
    comes_all : (b : ℕ) → held b ≡ true → f (place + distance needs b) ≡ Some b
    comes_all b on =
        kept.held_comes b on
        (elim (cases_eq (distance needs b) (length needs)) [
          | inl e ↦ absurd (let no_b = none b in let yes = kept.held_never b on e in cc)
          | inr ne ↦ omega (arith, distance-le needs b)
        ])

    pub coming_first : GoesFirst needs held v
    coming_first = record {
      is_held = kept.coming_held k v has_k;
      latest = λ c on. omega (arith, greatest (place + distance needs c) c (comes_all c on), kept.coming_place k v has_k);
      lowest = λ c on e.
          let here : place + distance needs c ≡ k = omega (arith, kept.coming_place k v has_k) in
          let same : f (place + distance needs c) ≡ f k = ap f here in
          let all = comes_all c on in
          let is : v ≡ c = cc in
          omega arith;
    }

    pub IsKept-coming : (g : ℕ → Option ℕ) → g k ≡ None → ((q : ℕ) → (q ≡ k → ⊥) → g q ≡ f q) → IsKept g n place needs (except held v)
    IsKept-coming g gone others = record {
      coming_held = λ q b e. let h = had q b e in except-from held v b (kept.coming_held q b h.0) h.1;
      coming_place = λ q b e. kept.coming_place q b (had q b e).0;
      coming_within = λ q b e. kept.coming_within q b (had q b e).0;
      held_comes = λ b on few.
          let parts = except-parts held v b on in
          let comes = kept.held_comes b parts.0 few in
          others (place + distance needs b) (λ e. let same : f (place + distance needs b) ≡ f k = ap f e in parts.1 (cc)) ∙ comes;
      never_held = λ b on. absurd (let no_b = none b in cc);
      never_within = λ b on. kept.never_within b on;
      held_never = λ b on far. kept.held_never b (except-parts held v b on).0 far;
    }
      where
        had : (q b : ℕ) → g q ≡ Some b → (f q ≡ Some b) × (v ≡ b → ⊥)
        had q b e =
            let ne : q ≡ k → ⊥ = λ same. let at : g q ≡ g k = ap g same in cc in
            let was : f q ≡ Some b = sym (others q ne) ∙ e in (
              was,
              λ same.
                  let d : distance needs v ≡ distance needs b = ap (distance needs) same in
                  ne (omega (arith, kept.coming_place q b was, kept.coming_place k v has_k)),
            )

  pub none_held : ((b : ℕ) → n b ≡ false) → ((q : ℕ) → f q ≡ None) → (b : ℕ) → held b ≡ false
  none_held none empty b =
      false_from_ne_true (held b) (λ on.
      elim (cases_eq (distance needs b) (length needs)) [
        | inl e ↦ let no_b = none b in let yes = kept.held_never b on e in cc
        | inr ne ↦
            let comes = kept.held_comes b on (omega (arith, distance-le needs b)) in
            let no_q = empty (place + distance needs b) in
            cc
      ])

  -- ---- a block is put

  module _ (x : ℕ) (absent : held x ≡ false) where
    apart : (b : ℕ) → held b ≡ true → x ≡ b → ⊥
    apart b on e = let same : held x ≡ held b = ap held e in cc

    pub IsKept-put_coming : (g : ℕ → Option ℕ) (k : ℕ) → k ≡ place + distance needs x → distance needs x < length needs → g k ≡ Some x → ((q : ℕ) → (q ≡ k → ⊥) → g q ≡ f q) → (free : (b : ℕ) → held b ≡ true → distance needs b ≡ distance needs x → ⊥) → IsKept g n place needs (also held x)
    IsKept-put_coming g k at few is others free = record {
      coming_held = λ q b e.
          elim (cases_eq q k) [
            | inl same ↦ let on = ap g same in or_left (eqb x b) (held b) (eq-eqb x b (cc))
            | inr ne ↦ or_right (eqb x b) (held b) (kept.coming_held q b (sym (others q ne) ∙ e))
          ];
      coming_place = λ q b e.
          elim (cases_eq q k) [
            | inl same ↦
                let on = ap g same in
                let i : x ≡ b = cc in
                let d : distance needs x ≡ distance needs b = ap (distance needs) i in
                omega arith
            | inr ne ↦ kept.coming_place q b (sym (others q ne) ∙ e)
          ];
      coming_within = λ q b e.
          elim (cases_eq q k) [
            | inl same ↦
                let on = ap g same in
                let i : x ≡ b = cc in
                let d : distance needs x ≡ distance needs b = ap (distance needs) i in
                omega arith
            | inr ne ↦ kept.coming_within q b (sym (others q ne) ∙ e)
          ];
      held_comes = λ b on close.
          elim (cases_eq x b) [
            | inl same ↦
                let d : place + distance needs b ≡ k = let e : distance needs x ≡ distance needs b = ap (distance needs) same in omega arith in
                ap g d ∙ is ∙ ap Some same
            | inr ne ↦
                let was = rest_of (eqb x b) (held b) (ne_eqb x b ne) on in
                others (place + distance needs b) (λ e. free b was (omega arith)) ∙ kept.held_comes b was close
          ];
      never_held = λ b on. or_right (eqb x b) (held b) (kept.never_held b on);
      never_within = kept.never_within;
      held_never = λ b on far.
          elim (cases_eq x b) [
            | inl same ↦ absurd (let e : distance needs x ≡ distance needs b = ap (distance needs) same in omega arith)
            | inr ne ↦ kept.held_never b (rest_of (eqb x b) (held b) (ne_eqb x b ne) on) far
          ];
    }
      where
        rest_of : (a b : Bool) → a ≡ false → (a || b) ≡ true → b ≡ true
        rest_of true b e h = cc
        rest_of false b e h = h

    pub IsKept-put_never : (m : ℕ → Bool) → length needs ≤ distance needs x → m x ≡ true → ((q : ℕ) → (q ≡ x → ⊥) → m q ≡ n q) → IsKept f m place needs (also held x)
    IsKept-put_never m far is others = record {
      coming_held = λ q b e. or_right (eqb x b) (held b) (kept.coming_held q b e);
      coming_place = kept.coming_place;
      coming_within = kept.coming_within;
      held_comes = λ b on close.
          elim (cases_eq x b) [
            | inl same ↦ absurd (let e : distance needs x ≡ distance needs b = ap (distance needs) same in omega arith)
            | inr ne ↦ kept.held_comes b (rest_of (eqb x b) (held b) (ne_eqb x b ne) on) close
          ];
      never_held = λ b on.
          elim (cases_eq x b) [
            | inl same ↦ or_left (eqb x b) (held b) (eq-eqb x b same)
            | inr ne ↦ or_right (eqb x b) (held b) (kept.never_held b (sym (others b (λ e. ne (sym e))) ∙ on))
          ];
      never_within = λ b on.
          elim (cases_eq x b) [
            | inl same ↦ let e : distance needs x ≡ distance needs b = ap (distance needs) same in omega (arith, distance-le needs x)
            | inr ne ↦ kept.never_within b (sym (others b (λ e. ne (sym e))) ∙ on)
          ];
      held_never = λ b on away.
          elim (cases_eq x b) [
            | inl same ↦ ap m (sym same) ∙ is
            | inr ne ↦ others b (λ e. ne (sym e)) ∙ kept.held_never b (rest_of (eqb x b) (held b) (ne_eqb x b ne) on) away
          ];
    }
      where
        rest_of : (a b : Bool) → a ≡ false → (a || b) ≡ true → b ≡ true
        rest_of true b e h = cc
        rest_of false b e h = h

-- two different blocks aren't needed next at one place
pub distance-one : (needs : List ℕ) (b c : ℕ) → distance needs b ≡ distance needs c → distance needs b < length needs → b ≡ c
distance-one [] b c e few = absurd (omega arith)
distance-one (x ∷ xs) b c e few =
    elim (cases_eq x b) [
      | inl p ↦
          elim (cases_eq x c) [
            | inl q ↦ sym p ∙ q
            | inr q ↦ absurd (omega (arith, distance-same xs x b p, distance-apart xs x c q))
          ]
      | inr p ↦
          elim (cases_eq x c) [
            | inl q ↦ absurd (omega (arith, distance-apart xs x b p, distance-same xs x c q))
            | inr q ↦
                let db = distance-apart xs x b p in
                let dc = distance-apart xs x c q in
                distance-one xs b c (omega arith) (omega arith)
          ]
    ]
