-- Lemmas on lists of blocks.
use Rattle.std.proofs.Common.{◌≡◌, ℕ, zero, suc, Bool, true, false, ◌&&◌, ◌||◌, List, [], ◌∷◌, ◌++◌, take, refl, sym, ◌∙◌, ap, inl, inr, eqb}
use Rattle.std.specs.Bool.{Decides}
use Rattle.std.specs.Str.{bytes_eq}
use Rattle.std.proofs.lemmas.Bool.{cases_Bool, or_parts, or_from, false_from_ne_true}
use Rattle.std.proofs.lemmas.Bool.Decides.{Decides-and, Decides-eqb, same_from_decides}
use Rattle.std.proofs.lemmas.Slice.Eq.{bytes_eq-Decides}
use Rattle.spec_base.specs.declared.spot.BlockSpot.{BlockSpot}
use Rattle.program_model.specs.Cache.{same_block, holds, without}
use Rattle.cache_queue.specs.Orders.{AreApart}

-- ---- one block

pub Decides-same_block : (x y : BlockSpot) → Decides (same_block x y) (x ≡ y)
Decides-same_block x y =
    let parts : Decides (same_block x y) ((x.block ≡ y.block) × (x.name ≡ y.name)) =
    Decides-and (eqb x.block y.block) (bytes_eq x.name y.name) (Decides-eqb x.block y.block) (bytes_eq-Decides x.name y.name) in (
      λ same. λ i. record { name = (parts.0 same).1 i; block = (parts.0 same).0 i },
      λ e. parts.1 (ap (λ s. s.block) e, ap (λ s. s.name) e),
    )

pub same_from_same_block : (x y : BlockSpot) → same_block x y ≡ true → x ≡ y
same_from_same_block x y = (Decides-same_block x y).0

pub same_block-self : (x : BlockSpot) → same_block x x ≡ true
same_block-self x = (Decides-same_block x x).1 refl

-- the test by which the map of cached blocks looks a block up
pub test_is : (x y : BlockSpot) → (bytes_eq x.name y.name && eqb x.block y.block) ≡ same_block y x
test_is x y =
    same_from_decides _ _
    (Decides-and (bytes_eq x.name y.name) (eqb x.block y.block) (bytes_eq-Decides x.name y.name) (Decides-eqb x.block y.block)) (
      λ same. let e : y ≡ x = same_from_same_block y x same in (sym (ap (λ s. s.name) e), sym (ap (λ s. s.block) e)),
      λ both. (Decides-same_block y x).1 (λ i. record { name = sym both.0 i; block = sym both.1 i }),
    )

-- ---- holds

pub holds-at : (xs : List BlockSpot) (s t : BlockSpot) → same_block s t ≡ true → holds xs s ≡ holds xs t
holds-at xs s t same = ap (holds xs) (same_from_same_block s t same)

pub holds-take : (n : ℕ) (xs : List BlockSpot) (s : BlockSpot) → holds xs s ≡ false → holds (take n xs) s ≡ false
holds-take zero xs s h = refl
holds-take (suc n) [] s h = refl
holds-take (suc n) (x ∷ xs) s h =
    let parts = or_parts (same_block x s) (holds xs s) h in
    or_from (same_block x s) (holds (take n xs) s) parts.0 (holds-take n xs s parts.1)

pub holds-append : (xs : List BlockSpot) (x s : BlockSpot) → holds (xs ++ x ∷ []) s ≡ (holds xs s || same_block x s)
holds-append [] x s = or_false (same_block x s)
  where
    or_false : (b : Bool) → (b || false) ≡ b
    or_false true = refl
    or_false false = refl
holds-append (y ∷ ys) x s = rw (holds-append ys x s) (or_assoc (same_block y s) (holds ys s) (same_block x s))
  where
    or_assoc : (a b c : Bool) → (a || (b || c)) ≡ ((a || b) || c)
    or_assoc true b c = refl
    or_assoc false b c = refl

-- ---- without

pub without-other : (xs : List BlockSpot) (s t : BlockSpot) → holds xs t ≡ false → holds (without xs s) t ≡ false
without-other [] s t h = refl
without-other (x ∷ xs) s t h =
    let parts = or_parts (same_block x t) (holds xs t) h in
    elim (cases_Bool (same_block x s)) [
      | inl same ↦ rw same (without-other xs s t parts.1)
      | inr apart ↦ rw apart (or_from (same_block x t) (holds (without xs s) t) parts.0 (without-other xs s t parts.1))
    ]

pub without-self : (xs : List BlockSpot) (s : BlockSpot) → holds (without xs s) s ≡ false
without-self [] s = refl
without-self (x ∷ xs) s =
    elim (cases_Bool (same_block x s)) [
      | inl same ↦ rw same (without-self xs s)
      | inr apart ↦ rw apart (or_from (same_block x s) (holds (without xs s) s) apart (without-self xs s))
    ]

pub without-absent : (xs : List BlockSpot) (s : BlockSpot) → holds xs s ≡ false → without xs s ≡ xs
without-absent [] s h = refl
without-absent (x ∷ xs) s h =
    let parts = or_parts (same_block x s) (holds xs s) h in
    rw parts.0 (ap (λ ys. x ∷ ys) (without-absent xs s parts.1))

-- ---- blocks apart

pub AreApart-without : (xs : List BlockSpot) (s : BlockSpot) → AreApart xs → AreApart (without xs s)
AreApart-without [] s h = tt
AreApart-without (x ∷ xs) s h =
    elim (cases_Bool (same_block x s)) [
      | inl same ↦ rw same (AreApart-without xs s h.1)
      | inr apart ↦ rw apart (without-other xs s x h.0, AreApart-without xs s h.1)
    ]

pub AreApart-take : (n : ℕ) (xs : List BlockSpot) → AreApart xs → AreApart (take n xs)
AreApart-take zero xs h = tt
AreApart-take (suc n) [] h = tt
AreApart-take (suc n) (x ∷ xs) h = (holds-take n xs x h.0, AreApart-take n xs h.1)

pub AreApart-append : (xs : List BlockSpot) (s : BlockSpot) → AreApart xs → holds xs s ≡ false → AreApart (xs ++ s ∷ [])
AreApart-append [] s h absent = (refl, tt)
AreApart-append (x ∷ xs) s h absent =
    let parts = or_parts (same_block x s) (holds xs s) absent in
    let other : same_block s x ≡ false =
    false_from_ne_true (same_block s x)
    (λ same. let e : s ≡ x = same_from_same_block s x same in
    let self : same_block x s ≡ true = (Decides-same_block x s).1 (sym e) in cc) in
    (holds-append xs s x ∙ or_from (holds xs x) (same_block s x) h.0 other, AreApart-append xs s h.1 parts.1)
