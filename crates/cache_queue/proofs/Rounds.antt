-- Lemmas on passing the queue round: each block goes from the front to the back, but one that is taken out.
use Rattle.std.proofs.Common.{◌≡◌, ℕ, ◌+◌, ◌<◌, ◌≤◌, Bool, true, false, not, ◌&&◌, eqb, List, [], ◌∷◌, ◌++◌, take, drop, length, get_or, Some, None, Result, Ok, Err, IsOk, OnOk, IfErr, ◌⊎◌, refl, sym, ◌∙◌, ap, inl, inr, arith, append_assoc, append-nil, length-take, length-drop, length-append}
use Rattle.std.specs.List.{slice_get}
use Rattle.std.specs.Str.{bytes_eq}
use Rattle.std.proofs.lemmas.List.{drop_more, take_more}
use Rattle.std.proofs.lemmas.List.Elements.{filter-append}
use Rattle.circular_buffer.specs.Buffer.{Buffer}
use Rattle.spec_base.specs.declared.spot.BlockSpot.{BlockSpot}
use Rattle.program_model.specs.Cache.{same_block, without}
use Rattle.cache_queue.proofs.Spots.{test_is}

-- a push that took the item, or left the queue
pub pushed : (r : Result (Unit {0}) BlockSpot) (q old : Buffer BlockSpot) (new : Buffer BlockSpot) (item : BlockSpot) → OnOk r (q ≡ new) → IfErr r (λ x. (x ≡ item) × (q ≡ old)) → (q ≡ new) ⊎ (q ≡ old)
pushed (Ok x) q old new item ok err = inl ok
pushed (Err x) q old new item ok err = inr err.1

pub pushed_surely : (r : Result (Unit {0}) BlockSpot) (q new : Buffer BlockSpot) → IsOk r → OnOk r (q ≡ new) → q ≡ new
pushed_surely (Ok x) q new is ok = ok
pushed_surely (Err x) q new is ok = cc

-- comparing two blocks with `!=`
pub differs : (r : Bool) (spot x : BlockSpot) → r ≡ not (bytes_eq spot.name x.name && eqb spot.block x.block) → r ≡ true → same_block x spot ≡ false
differs r spot x e t = sym (test_is spot x) ∙ is_false (bytes_eq spot.name x.name && eqb spot.block x.block) (sym e ∙ t)
  where
    is_false : (b : Bool) → not b ≡ true → b ≡ false
    is_false true h = cc
    is_false false h = refl

pub agrees : (r : Bool) (spot x : BlockSpot) → r ≡ not (bytes_eq spot.name x.name && eqb spot.block x.block) → r ≡ false → same_block x spot ≡ true
agrees r spot x e f = sym (test_is spot x) ∙ is_true (bytes_eq spot.name x.name && eqb spot.block x.block) (sym e ∙ f)
  where
    is_true : (b : Bool) → not b ≡ false → b ≡ true
    is_true true h = refl
    is_true false h = cc

length-without : (xs : List BlockSpot) (s : BlockSpot) → length (without xs s) ≤ length xs
length-without [] s = omega arith
length-without (x ∷ xs) s = let on = length-without xs s in grind (arith, on)

module _ (old items : List BlockSpot) (i : ℕ) (spot x : BlockSpot) (inv : items ≡ drop i old ++ without (take i old) spot) (within : i < length old) where
  ahead : items ≡ get_or old i x ∷ (drop (i + 1) old ++ without (take i old) spot)
  ahead = inv ∙ ap (λ xs. xs ++ without (take i old) spot) (drop_more old i x within)

  pub never_empty : None ≡ slice_get items 0 → ⊥
  never_empty none = let some = none ∙ ap (λ xs. slice_get xs 0) ahead in cc

  pub rest_is : drop 1 items ≡ drop (i + 1) old ++ without (take i old) spot
  rest_is = ap (drop 1) ahead

  pub rest_short : length (drop 1 items) < length old
  rest_short =
      let short = length-without (take i old) spot in
      omega (arith, ap length rest_is, length-append (drop (i + 1) old) (without (take i old) spot), length-drop (i + 1) old, length-take i old, short)

  module _ (first : Some x ≡ slice_get items 0) where
    is_first : get_or old i x ≡ x
    is_first = let some = first ∙ ap (λ xs. slice_get xs 0) ahead in sym (some_same x (get_or old i x) some)
      where
        some_same : (a b : BlockSpot) → Some a ≡ Some b → a ≡ b
        some_same a b e = cc

    one_more : without (take (i + 1) old) spot ≡ without (take i old) spot ++ without (x ∷ []) spot
    one_more =
        ap (λ xs. without xs spot) (take_more old i x within ∙ ap (λ y. take i old ++ y ∷ []) is_first)
        ∙ filter-append (λ y. not (same_block y spot)) (take i old) (x ∷ [])

    pub goes_back : same_block x spot ≡ false → drop 1 items ++ x ∷ [] ≡ drop (i + 1) old ++ without (take (i + 1) old) spot
    goes_back apart =
        let alone : without (x ∷ []) spot ≡ x ∷ [] = rw apart refl in
        ap (λ xs. xs ++ x ∷ []) rest_is
        ∙ append_assoc (drop (i + 1) old) (without (take i old) spot) (x ∷ [])
        ∙ ap (λ ys. drop (i + 1) old ++ ys) (sym (one_more ∙ ap (λ ys. without (take i old) spot ++ ys) alone))

    pub goes_away : same_block x spot ≡ true → drop 1 items ≡ drop (i + 1) old ++ without (take (i + 1) old) spot
    goes_away same =
        let gone : without (x ∷ []) spot ≡ [] = rw same refl in
        rest_is
        ∙ ap (λ ys. drop (i + 1) old ++ ys)
        (sym (one_more ∙ ap (λ ys. without (take i old) spot ++ ys) gone ∙ append-nil (without (take i old) spot)))
