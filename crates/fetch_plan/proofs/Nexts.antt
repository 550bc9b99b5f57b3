-- The next needs are noted from the last need to the first.
use Rattle.std.proofs.Common.{◌≡◌, ◌≢◌, ℕ, ◌+◌, ◌<◌, ◌≤◌, List, ◌∷◌, length, drop, get_or, set, Option, Some, sym, ◌∙◌, ap, inl, inr, arith, drop-cons, add-one}
use Rattle.std.specs.Prelude.{unwrap_or}
use Rattle.std.proofs.lemmas.Bool.{cases_eq}
use Rattle.std.proofs.lemmas.List.{get_or-set_same, get_or-set_other}
use Rattle.fetch_plan.specs.Plans.{distance}
use Rattle.fetch_plan.proofs.Keeping.{distance-same, distance-apart}

module _ (needs : List ℕ) (place p : ℕ) (is : place ≡ p + 1) (within : p < length needs) where
  split : drop p needs ≡ get_or needs p 0 ∷ drop place needs
  split = drop-cons needs p 0 within ∙ ap (λ k. get_or needs p 0 ∷ drop k needs) (sym (add-one p) ∙ sym is)

  -- the block of the need is noted at its place, and the others stay
  pub nexts_noted : (old new : ℕ → Option ℕ) → ((q : ℕ) → unwrap_or (old q) (length needs) ≡ place + distance (drop place needs) q) → new (get_or needs p 0) ≡ Some p → ((q : ℕ) → q ≢ get_or needs p 0 → new q ≡ old q) → (q : ℕ) → unwrap_or (new q) (length needs) ≡ p + distance (drop p needs) q
  nexts_noted old new before here others q =
      let d : distance (drop p needs) q ≡ distance (get_or needs p 0 ∷ drop place needs) q = ap (λ l. distance l q) split in
      elim (cases_eq (get_or needs p 0) q) [
        | inl same ↦
            let at : unwrap_or (new q) (length needs) ≡ p = ap (λ o. unwrap_or o (length needs)) (sym (ap new same) ∙ here) in
            omega (arith, distance-same (drop place needs) (get_or needs p 0) q same)
        | inr ne ↦
            let at : unwrap_or (new q) (length needs) ≡ unwrap_or (old q) (length needs) = ap (λ o. unwrap_or o (length needs)) (others q (λ e. ne (sym e))) in
            omega (arith, distance-apart (drop place needs) (get_or needs p 0) q ne, before q)
      ]

  -- the place of its next need is kept beside those of the later needs
  pub nexts_kept : (items : List ℕ) (v : ℕ) → length items ≡ length needs → v ≡ place + distance (drop place needs) (get_or needs p 0) → ((k : ℕ) → place ≤ k → k < length needs → get_or items k 0 ≡ k + 1 + distance (drop (k + 1) needs) (get_or needs k 0)) → (k : ℕ) → p ≤ k → k < length needs → get_or (set items p v) k 0 ≡ k + 1 + distance (drop (k + 1) needs) (get_or needs k 0)
  nexts_kept items v size next later k from below =
      elim (cases_eq k p) [
        | inl same ↦
            let here : get_or (set items p v) k 0 ≡ v = ap (λ j. get_or (set items p v) j 0) same ∙ get_or-set_same items p v 0 (omega arith) in
            let at : place ≡ k + 1 = omega arith in
            here ∙ next ∙ ap (λ j. j + distance (drop j needs) (get_or needs p 0)) at ∙ ap (λ j. k + 1 + distance (drop (k + 1) needs) (get_or needs j 0)) (sym same)
        | inr ne ↦ get_or-set_other items p k v 0 ne ∙ later k (omega arith) below
      ]
