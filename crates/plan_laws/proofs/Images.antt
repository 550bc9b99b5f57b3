-- Cached blocks as the numbers of those that are needed at some time.
use Rattle.std.proofs.Common.{◌≡◌, ℕ, zero, suc, ◌+◌, ◌≤◌, Bool, true, false, not, List, [], ◌∷◌, length, take, refl, sym, ◌∙◌, ap, inl, inr, arith, eqb}
use Rattle.std.proofs.lemmas.Bool.{cases_Bool, eq-eqb, ne_eqb, or_parts, or_from, or_cases, or_left, or_right, and_from, not_from_false}
use Rattle.spec_base.specs.declared.spot.BlockSpot.{BlockSpot}
use Rattle.program_model.specs.Cache.{same_block, holds, without}
use Rattle.cache_queue.specs.Orders.{AreApart}
use Rattle.cache_queue.proofs.Spots.{same_from_same_block, same_block-self}
use Rattle.fetch_plan.specs.Plans.{has, all_differ, one, new_count}
use Rattle.fetch_plan.specs.Needs.{place_of}
use Rattle.fetch_plan.proofs.Counts.{one-le}

-- how many blocks of the second list aren't in the first
abbrev pub new_spots : List BlockSpot → List BlockSpot → ℕ
new_spots before [] = 0
new_spots before (x ∷ xs) = one (not (holds before x)) + new_spots before xs

pub new_spots-take : (D : List BlockSpot) (n : ℕ) (xs : List BlockSpot) → new_spots D (take n xs) ≤ new_spots D xs
new_spots-take D zero xs = omega arith
new_spots-take D (suc n) [] = omega arith
new_spots-take D (suc n) (x ∷ xs) = let rest = new_spots-take D n xs in omega arith

pub new_spots-without : (D xs : List BlockSpot) (s : BlockSpot) → new_spots D (without xs s) ≤ new_spots D xs
new_spots-without D [] s = omega arith
new_spots-without D (x ∷ xs) s =
    let rest = new_spots-without D xs s in
    elim (cases_Bool (same_block x s)) [
      | inl same ↦ rw same (omega arith)
      | inr apart ↦ rw apart (omega arith)
    ]

pub new_spots-front : (D xs : List BlockSpot) (s : BlockSpot) → holds xs s ≡ true → new_spots D (s ∷ without xs s) ≤ new_spots D xs
new_spots-front D [] s h = cc
new_spots-front D (x ∷ xs) s h =
    elim (cases_Bool (same_block x s)) [
      | inl same ↦
          let e : one (not (holds D x)) ≡ one (not (holds D s)) = ap (λ y. one (not (holds D y))) (same_from_same_block x s same) in
          let rest = new_spots-without D xs s in
          rw same (omega arith)
      | inr apart ↦ rw apart (let rest = new_spots-front D xs s (rw apart at h) in omega arith)
    ]

pub new_spots-part : (D xs : List BlockSpot) → ((s : BlockSpot) → holds xs s ≡ true → holds D s ≡ true) → new_spots D xs ≡ 0
new_spots-part D [] h = refl
new_spots-part D (x ∷ xs) h =
    let here : holds D x ≡ true = h x (or_left (same_block x x) (holds xs x) (same_block-self x)) in
    let none : one (not (holds D x)) ≡ 0 = ap (λ b. one (not b)) here in
    let rest = new_spots-part D xs (λ s on. h s (or_right (same_block x s) (holds xs s) on)) in
    omega arith

-- two blocks of a list at one place are one
pub place-one : (T : List BlockSpot) (a b : BlockSpot) → holds T a ≡ true → holds T b ≡ true → place_of T a ≡ place_of T b → a ≡ b
place-one [] a b p q e = cc
place-one (x ∷ xs) a b p q e =
    elim (cases_Bool (same_block x a)) [
      | inl xa ↦
          elim (cases_Bool (same_block x b)) [
            | inl xb ↦ sym (same_from_same_block x a xa) ∙ same_from_same_block x b xb
            | inr nb ↦ absurd (let bad : 0 ≡ 1 + place_of xs b = rw (xa, nb) at e in omega arith)
          ]
      | inr na ↦
          elim (cases_Bool (same_block x b)) [
            | inl xb ↦ absurd (let bad : 1 + place_of xs a ≡ 0 = rw (na, xb) at e in omega arith)
            | inr nb ↦
                let less : 1 + place_of xs a ≡ 1 + place_of xs b = rw (na, nb) at e in
                place-one xs a b (rw na at p) (rw nb at q) (omega arith)
          ]
    ]

module _ (T : List BlockSpot) where
  abbrev pub image_if : Bool → ℕ → List ℕ → List ℕ
  image_if true n ns = n ∷ ns
  image_if false n ns = ns

  -- the numbers of the blocks of a list that are in the table
  abbrev pub image : List BlockSpot → List ℕ
  image [] = []
  image (x ∷ xs) = image_if (holds T x) (place_of T x) (image xs)

  pub image-has : (xs : List BlockSpot) (s : BlockSpot) → holds T s ≡ true → holds xs s ≡ true → has (image xs) (place_of T s) ≡ true
  image-has [] s t h = cc
  image-has (x ∷ xs) s t h =
      elim (or_cases (same_block x s) (holds xs s) h) [
        | inl here ↦
            let e : x ≡ s = same_from_same_block x s here in
            let tx : holds T x ≡ true = ap (holds T) e ∙ t in
            rw tx (or_left (eqb (place_of T x) (place_of T s)) (has (image xs) (place_of T s)) (eq-eqb (place_of T x) (place_of T s) (ap (place_of T) e)))
        | inr later ↦
            let rest = image-has xs s t later in
            elim (cases_Bool (holds T x)) [
              | inl tx ↦ rw tx (or_right (eqb (place_of T x) (place_of T s)) (has (image xs) (place_of T s)) rest)
              | inr nx ↦ rw nx rest
            ]
      ]

  pub image-not : (xs : List BlockSpot) (s : BlockSpot) → holds T s ≡ true → holds xs s ≡ false → has (image xs) (place_of T s) ≡ false
  image-not [] s t h = refl
  image-not (x ∷ xs) s t h =
      let parts = or_parts (same_block x s) (holds xs s) h in
      let rest = image-not xs s t parts.1 in
      elim (cases_Bool (holds T x)) [
        | inl tx ↦
            let apart : place_of T x ≡ place_of T s → ⊥ = λ e.
            let same = ap (λ y. same_block y s) (place-one T x s tx t e) in
            let self = same_block-self s in
            cc in
            rw tx (or_from (eqb (place_of T x) (place_of T s)) (has (image xs) (place_of T s)) (ne_eqb (place_of T x) (place_of T s) apart) rest)
        | inr nx ↦ rw nx rest
      ]

  pub image-differ : (xs : List BlockSpot) → AreApart xs → all_differ (image xs) ≡ true
  image-differ [] a = refl
  image-differ (x ∷ xs) a =
      let rest = image-differ xs a.1 in
      elim (cases_Bool (holds T x)) [
        | inl tx ↦ rw tx (and_from (not (has (image xs) (place_of T x))) (all_differ (image xs)) (not_from_false (has (image xs) (place_of T x)) (image-not xs x tx a.0)) rest)
        | inr nx ↦ rw nx rest
      ]

  pub image-length : (xs : List BlockSpot) → length (image xs) ≤ length xs
  image-length [] = omega arith
  image-length (x ∷ xs) =
      let rest = image-length xs in
      elim (cases_Bool (holds T x)) [
        | inl tx ↦ rw tx (omega arith)
        | inr nx ↦ rw nx (omega arith)
      ]

  pub image-new : (D xs : List BlockSpot) → new_count (image D) (image xs) ≤ new_spots D xs
  image-new D [] = omega arith
  image-new D (x ∷ xs) =
      let rest = image-new D xs in
      elim (cases_Bool (holds T x)) [
        | inl tx ↦ rw tx (omega (arith, each (holds D x) (has (image D) (place_of T x)) (λ on. image-has D x tx on)))
        | inr nx ↦ rw nx (omega arith)
      ]
    where
      each : (b c : Bool) → (b ≡ true → c ≡ true) → one (not c) ≤ one (not b)
      each true c h = let e : one (not c) ≡ 0 = ap (λ k. one (not k)) (h refl) in omega arith
      each false c h = omega (arith, one-le (not c))
