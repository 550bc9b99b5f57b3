-- Keys of names that have numbers.
use Rattle.std.proofs.Common.{◌≡◌, ℕ, ◌<◌, Bool, true, false, ◌&&◌, List, [], ◌∷◌, ◌++◌, length, map, get_or, Some, refl, sym, ◌∙◌, ap, subst, inl, inr, arith, eqb, cond, length-append}
use Rattle.std.specs.Str.{bytes_eq}
use Rattle.std.specs.List.{AllByRecursion, list_any}
use Rattle.std.proofs.lemmas.Bool.{cases_Bool, cases_lt}
use Rattle.std.proofs.lemmas.Bool.Decides.{Decides-eqb, same_from_decides}
use Rattle.std.proofs.lemmas.Slice.Eq.{bytes_eq-Decides}
use Rattle.std.proofs.lemmas.Map.Keys.{apart_from_distinct}
use Rattle.std.proofs.lemmas.List.{get_or_append_left}
use Rattle.spec_base.specs.Files.{Name}
use Rattle.spec_base.specs.declared.spot.BlockSpot.{BlockSpot}
use Rattle.spec_base.specs.contracts.spot.BlockSpotPartialEq.TheImpl.{eq-value as spot-eq}
use Rattle.small_spots.specs.declared.small_spot.SmallSpot.{SmallSpot}
use Rattle.small_spots.specs.contracts.small_spot.SmallSpotPartialEq.TheImpl.{eq-value as small-eq}
use Rattle.small_spots.specs.SmallSpots.{spot_of, IsKnown, AreNamesApart, StaysKnown}

-- ---- a name has one number

differ : (names : List Name) (i j : ℕ) → AreNamesApart names → i < j → j < length names → bytes_eq (get_or names i []) (get_or names j []) ≡ true → ⊥
differ names i j apart lt within same = let no = apart_from_distinct bytes_eq names i j [] apart lt within in cc

same_number : (names : List Name) (i j : ℕ) → AreNamesApart names → i < length names → j < length names → bytes_eq (get_or names i []) (get_or names j []) ≡ true → i ≡ j
same_number names i j apart wi wj same =
    let is : get_or names i [] ≡ get_or names j [] = (bytes_eq-Decides (get_or names i []) (get_or names j [])).0 same in
    elim (cases_lt i j) [
      | inl lt ↦ absurd (differ names i j apart lt wj same)
      | inr ge ↦
          elim (cases_lt j i) [
            | inl lt ↦ absurd (differ names j i apart lt wi ((bytes_eq-Decides (get_or names j []) (get_or names i [])).1 (sym is)))
            | inr le ↦ omega (arith, ge, le)
          ]
    ]

-- numbers are equal as the names are
pub numbers-tell : (names : List Name) (i j : ℕ) → AreNamesApart names → i < length names → j < length names → eqb i j ≡ bytes_eq (get_or names i []) (get_or names j [])
numbers-tell names i j apart wi wj =
    same_from_decides (eqb i j) (bytes_eq (get_or names i []) (get_or names j [])) (Decides-eqb i j) (
      λ same. same_number names i j apart wi wj same,
      λ e. (bytes_eq-Decides (get_or names i []) (get_or names j [])).1 (ap (λ k. get_or names k []) e),
    )

-- the tables' test of a key is that of its block
pub keys-tell : (names : List Name) (a b : SmallSpot) → AreNamesApart names → IsKnown names a → IsKnown names b → (small-eq).it a b ≡ (spot-eq).it (spot_of names a) (spot_of names b)
keys-tell names a b apart ka kb = ap (λ t. t && eqb a.block b.block) (numbers-tell names a.name b.name apart ka kb)

-- ---- names that come behind

-- the keys stay as one more name comes, or none
pub stays-behind : (old : List Name) (name : Name) (some : Bool) → StaysKnown old (cond some old (old ++ name ∷ []))
stays-behind old name true = λ key known. (known, refl)
stays-behind old name false = λ key known.
    let is = get_or_append_left old (name ∷ []) [] key.name known in (
      omega (arith, known, length-append old (name ∷ [])),
      λ i. record { name = is i; block = key.block },
    )

-- the blocks of keys stay
pub spots-stay : (old new : List Name) → StaysKnown old new → (keys : List SmallSpot) → AllByRecursion (IsKnown old) keys → map (spot_of new) keys ≡ map (spot_of old) keys
spots-stay old new stays [] known = refl
spots-stay old new stays (key ∷ keys) known =
    let first = (stays key known.0).1 in
    let rest = spots-stay old new stays keys known.1 in
    λ i. first i ∷ rest i

pub known-stay : (old new : List Name) → StaysKnown old new → (keys : List SmallSpot) → AllByRecursion (IsKnown old) keys → AllByRecursion (IsKnown new) keys
known-stay old new stays [] known = tt
known-stay old new stays (key ∷ keys) known = ((stays key known.0).0, known-stay old new stays keys known.1)
