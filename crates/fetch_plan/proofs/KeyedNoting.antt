-- Blocks noted by small keys, by names that have numbers.
use Rattle.std.proofs.Common.{◌≡◌, ℕ, ◌+◌, Bool, true, false, not, ◌||◌, cond, List, [], ◌∷◌, ◌++◌, map, refl, sym, ◌∙◌, ap, subst}
use Rattle.std.specs.List.{list_any, position_or_len, AllByRecursion}
use Rattle.std.proofs.lemmas.List.{map-append}
use Rattle.spec_base.specs.Files.{Name}
use Rattle.spec_base.specs.declared.spot.BlockSpot.{BlockSpot}
use Rattle.small_spots.specs.declared.small_spot.SmallSpot.{SmallSpot}
use Rattle.small_spots.specs.contracts.small_spot.SmallSpotPartialEq.TheImpl.{eq-value as small-eq}
use Rattle.small_spots.specs.SmallSpots.{spot_of, IsKnown, AreNamesApart, StaysKnown}
use Rattle.small_spots.proofs.Numbers.{keys-tell, spots-stay, known-stay}
use Rattle.fetch_plan.specs.Needs.{Numbers, noted}
use Rattle.fetch_plan.specs.Fields.{numbers_by}
use Rattle.fetch_plan.proofs.Noting.{is_of, noted_is}

-- the table's own test of a key
abbrev is_key : SmallSpot → SmallSpot → Bool
is_key key = (small-eq).it key

known-added : (names : List Name) (some : Bool) (keys : List SmallSpot) (key : SmallSpot) → IsKnown names key → AllByRecursion (IsKnown names) keys → AllByRecursion (IsKnown names) (cond some keys (keys ++ key ∷ []))
known-added names true keys key here all = all
known-added names false keys key here all = behind keys all
  where
    behind : (ks : List SmallSpot) → AllByRecursion (IsKnown names) ks → AllByRecursion (IsKnown names) (ks ++ key ∷ [])
    behind [] all = (here, tt)
    behind (k ∷ ks) all = (all.0, behind ks all.1)

map-added : (names : List Name) (some : Bool) (keys : List SmallSpot) (key : SmallSpot) → map (spot_of names) (cond some keys (keys ++ key ∷ [])) ≡ cond some (map (spot_of names) keys) (map (spot_of names) keys ++ spot_of names key ∷ [])
map-added names true keys key = refl
map-added names false keys key = map-append (spot_of names) keys (key ∷ [])

module _ (names : List Name) (apart : AreNamesApart names) (key : SmallSpot) (known : IsKnown names key) where
  any-named : (keys : List SmallSpot) → AllByRecursion (IsKnown names) keys → list_any (is_key key) keys ≡ list_any (is_of (spot_of names key)) (map (spot_of names) keys)
  any-named [] all = refl
  any-named (k ∷ ks) all =
      let first = keys-tell names key k apart known all.0 in
      let rest = any-named ks all.1 in
      λ i. first i || rest i

  position-named : (keys : List SmallSpot) → AllByRecursion (IsKnown names) keys → position_or_len (is_key key) keys ≡ position_or_len (is_of (spot_of names key)) (map (spot_of names) keys)
  position-named [] all = refl
  position-named (k ∷ ks) all =
      let first = keys-tell names key k apart known all.0 in
      let rest = position-named ks all.1 in
      λ i. cond (not (first i)) (1 + rest i) 0

-- the key of one more need
module _ (old names : List Name) (stays : StaysKnown old names) (apart : AreNamesApart names) (key : SmallSpot) (known : IsKnown names key) (keys new : List SmallSpot) (all : AllByRecursion (IsKnown old) keys) (e : new ≡ cond (list_any (is_key key) keys) keys (keys ++ key ∷ [])) where
  pub known-noted : AllByRecursion (IsKnown names) new
  known-noted = subst (AllByRecursion (IsKnown names)) (sym e) (known-added names (list_any (is_key key) keys) keys key known (known-stay old names stays keys all))

  pub noted_by_key : (spot : BlockSpot) (number : ℕ) (numbers before : List ℕ) → spot_of names key ≡ spot → number ≡ position_or_len (is_key key) keys → numbers ≡ before ++ number ∷ [] → numbers_by names new numbers ≡ noted (numbers_by old keys before) spot
  noted_by_key spot number numbers before is n ns =
      let same = known-stay old names stays keys all in
      let seen = map (spot_of names) keys in
      let now : numbers_by names new numbers ≡ noted (numbers_by names keys before) (spot_of names key) =
      noted_is (numbers_by names keys before) (spot_of names key) number (map (spot_of names) new) numbers
      (ap (map (spot_of names)) e
      ∙ map-added names (list_any (is_key key) keys) keys key
      ∙ ap (λ b. cond b seen (seen ++ spot_of names key ∷ [])) (any-named names apart key known keys same))
      (n ∙ position-named names apart key known keys same)
      ns in
      now
      ∙ ap (λ s. noted (numbers_by names keys before) s) is
      ∙ ap (λ ks. noted (record { seen = ks; numbers = before }) spot) (spots-stay old names stays keys all)
