-- Lemmas on cached blocks with something beside each: a frame, or bytes.
use Rattle.std.proofs.Common.{◌≡◌, Bool, false, cond, List, [], ◌∷◌, map, Some, is_some, option_map, refl, sym, ◌∙◌, ap, subst, inl, inr}
use Rattle.std.specs.Map.{lookup, lookup_entry, remove_entry}
use Rattle.std.proofs.lemmas.Bool.{cases_Bool}
use Rattle.spec_base.specs.declared.spot.BlockSpot.{BlockSpot}
use Rattle.program_model.specs.Cache.{same_block, holds, without}
use Rattle.cache_queue.specs.Orders.{AreApart}
use Rattle.cache_queue.proofs.Spots.{same_from_same_block, without-absent, holds-at}

-- whether an entry's block is this one
abbrev pub is_of : BlockSpot → BlockSpot → Bool
is_of spot x = same_block x spot

module _ {V : Type 0} where
  abbrev pub keys : List (BlockSpot × V) → List BlockSpot
  keys es = map (λ e. e.0) es

  -- ---- look-ups

  pub holds-keys : (spot : BlockSpot) (es : List (BlockSpot × V)) → holds (keys es) spot ≡ is_some (lookup (is_of spot) es)
  holds-keys spot [] = refl
  holds-keys spot (e ∷ es) =
      elim (cases_Bool (same_block e.0 spot)) [
        | inl same ↦ rw same refl
        | inr apart ↦ rw apart (holds-keys spot es)
      ]

  pub lookup-map : {W : Type 0} (f : V → W) (spot : BlockSpot) (es : List (BlockSpot × V)) → lookup (is_of spot) (map (λ e. (e.0, f e.1)) es) ≡ option_map f (lookup (is_of spot) es)
  lookup-map f spot [] = refl
  lookup-map f spot (e ∷ es) =
      elim (cases_Bool (same_block e.0 spot)) [
        | inl same ↦ rw same refl
        | inr apart ↦ rw apart (lookup-map f spot es)
      ]

  pub keys-map : {W : Type 0} (f : V → W) (es : List (BlockSpot × V)) → map (λ (e : BlockSpot × W). e.0) (map (λ e. (e.0, f e.1)) es) ≡ keys es
  keys-map f [] = refl
  keys-map f (e ∷ es) = ap (λ ks. e.0 ∷ ks) (keys-map f es)

  -- ---- an entry that is found goes to the front

  -- where a look-up finds a value, it finds an entry with it, of this block
  pub found_entry : (spot : BlockSpot) (es : List (BlockSpot × V)) (v : V) → lookup (is_of spot) es ≡ Some v → lookup_entry (is_of spot) es ≡ Some (spot, v)
  found_entry spot [] v found = cc
  found_entry spot (e ∷ es) v found =
      elim (cases_Bool (same_block e.0 spot)) [
        | inl same ↦
            let key : e.0 ≡ spot = same_from_same_block e.0 spot same in
            let value : e.1 ≡ v = some_same e.1 v (rw same at found) in
            rw same (λ i. Some (key i, value i))
        | inr apart ↦ rw apart (found_entry spot es v (rw apart at found))
      ]
    where
      some_same : (a b : V) → Some a ≡ Some b → a ≡ b
      some_same a b q = cc

  pub keys-remove : (spot : BlockSpot) (es : List (BlockSpot × V)) → AreApart (keys es) → keys (remove_entry (is_of spot) es) ≡ without (keys es) spot
  keys-remove spot [] apart = refl
  keys-remove spot (e ∷ es) apart =
      elim (cases_Bool (same_block e.0 spot)) [
        | inl same ↦
            let absent : holds (keys es) spot ≡ false = sym (holds-at (keys es) e.0 spot same) ∙ apart.0 in
            rw same (sym (without-absent (keys es) spot absent))
        | inr other ↦ rw other (ap (λ ks. e.0 ∷ ks) (keys-remove spot es apart.1))
      ]

  pub lookup-remove_other : (spot other : BlockSpot) (es : List (BlockSpot × V)) → same_block spot other ≡ false → lookup (is_of other) (remove_entry (is_of spot) es) ≡ lookup (is_of other) es
  lookup-remove_other spot other [] apart = refl
  lookup-remove_other spot other (e ∷ es) apart =
      elim (cases_Bool (same_block e.0 spot)) [
        | inl same ↦
            let differs : same_block e.0 other ≡ false = ap (λ s. same_block s other) (same_from_same_block e.0 spot same) ∙ apart in
            rw (same, differs) refl
        | inr past ↦ rw past (ap (cond (same_block e.0 other) (Some e.1)) (lookup-remove_other spot other es apart))
      ]

  pub lookup-front : (spot other : BlockSpot) (v : V) (es : List (BlockSpot × V)) → lookup (is_of spot) es ≡ Some v → lookup (is_of other) ((spot, v) ∷ remove_entry (is_of spot) es) ≡ lookup (is_of other) es
  lookup-front spot other v es found =
      elim (cases_Bool (same_block spot other)) [
        | inl same ↦ rw same (sym (subst (λ s. lookup (is_of s) es ≡ Some v) (same_from_same_block spot other same) found))
        | inr apart ↦ rw apart (lookup-remove_other spot other es apart)
      ]
