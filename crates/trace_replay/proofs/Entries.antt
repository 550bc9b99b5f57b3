-- The blocks of a table that keeps its entries in order.
use Rattle.std.proofs.Common.{◌≡◌, ℕ, zero, suc, ◌+◌, ◌-◌, ◌≤◌, ◌<◌, Bool, true, false, List, [], ◌∷◌, ◌++◌, map, take, drop, length, Option, Some, None, is_some, refl, sym, ◌∙◌, ap, inl, inr, arith}
use Rattle.std.specs.List.{slice_get}
use Rattle.std.specs.Option.{option_map_or}
use Rattle.std.specs.Map.{lookup, lookup_entry, remove_entry}
use Rattle.std.proofs.lemmas.Bool.{cases_Bool}
use Rattle.std.proofs.lemmas.List.{take-map}
use Rattle.lru.specs.LruCache.{LruCache, promoted, demoted, put_entries}
use Rattle.spec_base.specs.declared.spot.BlockSpot.{BlockSpot}
use Rattle.spec_base.specs.contracts.spot.BlockSpotPartialEq.TheImpl.{eq-value}
use Rattle.program_model.specs.Cache.{same_block, holds, without, first_of, rest_of}
use Rattle.cache_queue.specs.Orders.{AreApart}
use Rattle.cache_queue.proofs.Spots.{same_block-self}
use Rattle.cache_queue.proofs.Entries.{is_of, keys, holds-keys, found_entry, keys-remove}
use Rattle.cache_queue.proofs.Looks.{is_equal_to, is_equal_to-is}

module _ {V : Type 0} (spot : BlockSpot) where
  -- the table has the block exactly where its keys have
  pub found-holds : (es : List (BlockSpot × V)) → is_some (lookup (is_equal_to spot) es) ≡ holds (keys es) spot
  found-holds es = ap (λ test. is_some (lookup test es)) (is_equal_to-is spot) ∙ sym (holds-keys spot es)

  -- ---- a block that is there

  promoted-some : (es : List (BlockSpot × V)) (o : Option V) → lookup (is_of spot) es ≡ o → is_some o ≡ true → AreApart (keys es) → keys (promoted (is_of spot) es) ≡ spot ∷ without (keys es) spot
  promoted-some es None is some apart = cc
  promoted-some es (Some v) is some apart =
      ap (λ o. keys (option_map_or (λ e. e ∷ remove_entry (is_of spot) es) o es)) (found_entry spot es v is)
      ∙ ap (λ ks. spot ∷ ks) (keys-remove spot es apart)

  pub keys-promoted : (es : List (BlockSpot × V)) → AreApart (keys es) → holds (keys es) spot ≡ true → keys (promoted (is_equal_to spot) es) ≡ spot ∷ without (keys es) spot
  keys-promoted es apart here =
      ap (λ test. keys (promoted test es)) (is_equal_to-is spot)
      ∙ promoted-some es (lookup (is_of spot) es) refl (sym (holds-keys spot es) ∙ here) apart

  pub keys-removed : (es : List (BlockSpot × V)) → AreApart (keys es) → keys (remove_entry (is_equal_to spot) es) ≡ without (keys es) spot
  keys-removed es apart = ap (λ test. keys (remove_entry test es)) (is_equal_to-is spot) ∙ keys-remove spot es apart

  -- ---- a block that isn't there

  no_entry : (es : List (BlockSpot × V)) → holds (keys es) spot ≡ false → lookup_entry (is_of spot) es ≡ None
  no_entry [] absent = refl
  no_entry (e ∷ es) absent =
      elim (cases_Bool (same_block e.0 spot)) [
        | inl same ↦ absurd (let is = rw same at absent in cc)
        | inr apart ↦ rw apart (no_entry es (rw apart at absent))
      ]

  pub promoted-absent : (es : List (BlockSpot × V)) → holds (keys es) spot ≡ false → promoted (is_equal_to spot) es ≡ es
  promoted-absent es absent =
      ap (λ test. promoted test es) (is_equal_to-is spot)
      ∙ ap (λ o. option_map_or (λ e. e ∷ remove_entry (is_of spot) es) o es) (no_entry es absent)

  put-absent : (c : LruCache BlockSpot V) (v : V) → holds (keys c.entries) spot ≡ false → put_entries (eq-value).it c spot v ≡ (spot, v) ∷ take (c.cap - 1) c.entries
  put-absent c v absent =
      ap (λ o. option_map_or (λ e. (e.0, v) ∷ remove_entry (is_equal_to spot) c.entries) o ((spot, v) ∷ take (c.cap - 1) c.entries))
      (ap (λ test. lookup_entry test c.entries) (is_equal_to-is spot) ∙ no_entry c.entries absent)

  pub keys-put : (c : LruCache BlockSpot V) (v : V) → holds (keys c.entries) spot ≡ false → keys (put_entries (eq-value).it c spot v) ≡ spot ∷ take (c.cap - 1) (keys c.entries)
  keys-put c v absent =
      ap keys (put-absent c v absent)
      ∙ ap (λ ks. spot ∷ ks) (sym (take-map (λ (e : BlockSpot × V). e.0) (c.cap - 1) c.entries))

  -- ---- a block that is put behind the others

  pub keys-append : (es : List (BlockSpot × V)) (v : V) → keys (es ++ (spot, v) ∷ []) ≡ keys es ++ spot ∷ []
  keys-append [] v = refl
  keys-append (e ∷ es) v = ap (λ ks. e.0 ∷ ks) (keys-append es v)

  take-all : (n : ℕ) (es : List (BlockSpot × V)) → length es ≤ n → take n es ≡ es
  take-all zero [] few = refl
  take-all (suc n) [] few = refl
  take-all zero (e ∷ es) few = absurd (omega (arith, few))
  take-all (suc n) (e ∷ es) few = ap (λ all. e ∷ all) (take-all n es (omega (arith, few)))

  demoted-front : (es : List (BlockSpot × V)) (v : V) → demoted (is_equal_to spot) ((spot, v) ∷ es) ≡ es ++ (spot, v) ∷ []
  demoted-front es v = ap (λ test. demoted test ((spot, v) ∷ es)) (is_equal_to-is spot) ∙ rw (same_block-self spot) refl

  pub keys-behind : (c : LruCache BlockSpot V) (v : V) → length c.entries < c.cap → holds (keys c.entries) spot ≡ false → keys (demoted (is_equal_to spot) (put_entries (eq-value).it c spot v)) ≡ keys c.entries ++ spot ∷ []
  keys-behind c v room absent =
      let all : take (c.cap - 1) c.entries ≡ c.entries = take-all (c.cap - 1) c.entries (omega (arith, room)) in
      ap (λ es. keys (demoted (is_equal_to spot) es)) (put-absent c v absent ∙ ap (λ es. (spot, v) ∷ es) all)
      ∙ ap keys (demoted-front c.entries v)
      ∙ keys-append c.entries v

-- the first entry's block, and the others'
pub keys-first : {V : Type 0} (es : List (BlockSpot × V)) (o : Option (BlockSpot × V)) → slice_get es 0 ≡ o → first_of (keys es) ≡ option_map_or (λ e. Some e.0) o None
keys-first [] o is = ap (λ q. option_map_or (λ e. Some e.0) q None) is
keys-first (e ∷ es) o is = ap (λ q. option_map_or (λ f. Some f.0) q None) is

pub keys-rest : {V : Type 0} (es : List (BlockSpot × V)) → keys (drop 1 es) ≡ rest_of (keys es)
keys-rest [] = refl
keys-rest (e ∷ es) = refl
