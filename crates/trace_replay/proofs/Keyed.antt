-- Tables of small keys beside the tables of their blocks: what one does the other does.
use Rattle.std.proofs.Common.{◌≡◌, ℕ, zero, suc, ◌-◌, Bool, true, false, cond, List, [], ◌∷◌, ◌++◌, take, drop, map, Option, Some, None, is_some, option_map, refl, sym, ◌∙◌, ap, subst}
use Rattle.std.specs.List.{slice_get}
use Rattle.std.specs.Option.{option_map_or}
use Rattle.std.specs.Map.{lookup, lookup_entry, remove_entry}
use Rattle.std.proofs.lemmas.List.{take-map, map-append}
use Rattle.lru.specs.LruCache.{LruCache, lru_cache, promoted, demoted, put_entries}
use Rattle.spec_base.specs.Files.{Name}
use Rattle.spec_base.specs.declared.spot.BlockSpot.{BlockSpot}
use Rattle.spec_base.specs.contracts.spot.BlockSpotPartialEq.TheImpl.{eq-value}
use Rattle.program_model.specs.Cache.{holds}
use Rattle.cache_queue.proofs.Entries.{keys}
use Rattle.cache_queue.proofs.Looks.{is_equal_to}
use Rattle.small_spots.specs.declared.small_spot.SmallSpot.{SmallSpot}
use Rattle.small_spots.specs.contracts.small_spot.SmallSpotPartialEq.TheImpl.{eq-value as small-eq}
use Rattle.small_spots.specs.SmallSpots.{spot_of, IsKnown, AreNamesApart, StaysKnown}
use Rattle.small_spots.proofs.Numbers.{keys-tell}
use Rattle.trace_replay.specs.Keyed.{entry_of, named, AreKnown}
use Rattle.trace_replay.proofs.Entries.{found-holds}

-- the tables' own test of a key
abbrev pub is_key : SmallSpot → SmallSpot → Bool
is_key key = (small-eq).it key

-- ---- names that come behind

pub named-stays : {V : Type 0} (old new : List Name) → StaysKnown old new → (es : List (SmallSpot × V)) → AreKnown old es → map (entry_of new) es ≡ map (entry_of old) es
named-stays old new stays [] known = refl
named-stays old new stays (e ∷ es) known =
    let first = (stays e.0 known.0).1 in
    let rest = named-stays old new stays es known.1 in
    λ i. (first i, e.1) ∷ rest i

pub AreKnown-stay : {V : Type 0} (old new : List Name) → StaysKnown old new → (es : List (SmallSpot × V)) → AreKnown old es → AreKnown new es
AreKnown-stay old new stays [] known = tt
AreKnown-stay old new stays (e ∷ es) known = ((stays e.0 known.0).0, AreKnown-stay old new stays es known.1)

module _ {V : Type 0} (names : List Name) where
  -- ---- choices

  value-chosen : (b : Bool) (v : V) (x y : Option V) → x ≡ y → cond b (Some v) x ≡ cond b (Some v) y
  value-chosen true v x y rest = refl
  value-chosen false v x y rest = rest

  entry-chosen : (b : Bool) (e : SmallSpot × V) (x : Option (BlockSpot × V)) (y : Option (SmallSpot × V)) → x ≡ option_map (entry_of names) y → cond b (Some (entry_of names e)) x ≡ option_map (entry_of names) (cond b (Some e) y)
  entry-chosen true e x y rest = refl
  entry-chosen false e x y rest = rest

  rest-chosen : (b : Bool) (e : SmallSpot × V) (es y : List (SmallSpot × V)) (x : List (BlockSpot × V)) → x ≡ map (entry_of names) y → cond b (map (entry_of names) es) (entry_of names e ∷ x) ≡ map (entry_of names) (cond b es (e ∷ y))
  rest-chosen true e es y x rest = refl
  rest-chosen false e es y x rest = ap (λ ys. entry_of names e ∷ ys) rest

  found-or : (F : BlockSpot × V → List (BlockSpot × V)) (G : SmallSpot × V → List (SmallSpot × V)) (d : List (SmallSpot × V)) → ((e : SmallSpot × V) → F (entry_of names e) ≡ map (entry_of names) (G e)) → (o : Option (SmallSpot × V)) → option_map_or F (option_map (entry_of names) o) (map (entry_of names) d) ≡ map (entry_of names) (option_map_or G o d)
  found-or F G d same None = refl
  found-or F G d same (Some e) = same e

  -- the names of a table's keys have numbers
  abbrev HasKnown : LruCache SmallSpot V → Type 0
  HasKnown c = AreKnown names c.entries

  -- the name of an entry's key has a number, if there is an entry
  abbrev IsKnownEntry : Option (SmallSpot × V) → Type 0
  IsKnownEntry None = Unit {0}
  IsKnownEntry (Some e) = IsKnown names e.0

  known-chosen : (b : Bool) (e : SmallSpot × V) (o : Option (SmallSpot × V)) → IsKnown names e.0 → IsKnownEntry o → IsKnownEntry (cond b (Some e) o)
  known-chosen true e o here there = here
  known-chosen false e o here there = there

  known-rest : (b : Bool) (e : SmallSpot × V) (es xs : List (SmallSpot × V)) → IsKnown names e.0 → AreKnown names es → AreKnown names xs → AreKnown names (cond b es (e ∷ xs))
  known-rest true e es xs here known rest = known
  known-rest false e es xs here known rest = (here, rest)

  known-or : (G : SmallSpot × V → List (SmallSpot × V)) (d : List (SmallSpot × V)) → ((e : SmallSpot × V) → IsKnown names e.0 → AreKnown names (G e)) → AreKnown names d → (o : Option (SmallSpot × V)) → IsKnownEntry o → AreKnown names (option_map_or G o d)
  known-or G d step known None h = known
  known-or G d step known (Some e) h = step e h

  known-take : (n : ℕ) (es : List (SmallSpot × V)) → AreKnown names es → AreKnown names (take n es)
  known-take zero es known = tt
  known-take (suc n) [] known = tt
  known-take (suc n) (e ∷ es) known = (known.0, known-take n es known.1)

  known-behind : (es : List (SmallSpot × V)) (e : SmallSpot × V) → AreKnown names es → IsKnown names e.0 → AreKnown names (es ++ e ∷ [])
  known-behind [] e known here = (here, tt)
  known-behind (x ∷ es) e known here = (known.0, known-behind es e known.1 here)

  -- ---- a table by one key

  module _ (apart : AreNamesApart names) (key : SmallSpot) (known : IsKnown names key) where
    pub lookup-named : (es : List (SmallSpot × V)) → AreKnown names es → lookup (is_key key) es ≡ lookup (is_equal_to (spot_of names key)) (map (entry_of names) es)
    lookup-named [] all = refl
    lookup-named (e ∷ es) all =
        ap (λ b. cond b (Some e.1) (lookup (is_key key) es)) (keys-tell names key e.0 apart known all.0)
        ∙ value-chosen (is_equal_to (spot_of names key) (spot_of names e.0)) e.1 _ _ (lookup-named es all.1)

    pub holds-named : (es : List (SmallSpot × V)) → AreKnown names es → is_some (lookup (is_key key) es) ≡ holds (keys (map (entry_of names) es)) (spot_of names key)
    holds-named es all = ap is_some (lookup-named es all) ∙ found-holds (spot_of names key) (map (entry_of names) es)

    entry-named : (es : List (SmallSpot × V)) → AreKnown names es → lookup_entry (is_equal_to (spot_of names key)) (map (entry_of names) es) ≡ option_map (entry_of names) (lookup_entry (is_key key) es)
    entry-named [] all = refl
    entry-named (e ∷ es) all =
        ap (λ b. cond b (Some (entry_of names e)) (lookup_entry (is_equal_to (spot_of names key)) (map (entry_of names) es))) (sym (keys-tell names key e.0 apart known all.0))
        ∙ entry-chosen (is_key key e.0) e _ _ (entry-named es all.1)

    pub removed-named : (es : List (SmallSpot × V)) → AreKnown names es → remove_entry (is_equal_to (spot_of names key)) (map (entry_of names) es) ≡ map (entry_of names) (remove_entry (is_key key) es)
    removed-named [] all = refl
    removed-named (e ∷ es) all =
        ap (λ b. cond b (map (entry_of names) es) (entry_of names e ∷ remove_entry (is_equal_to (spot_of names key)) (map (entry_of names) es))) (sym (keys-tell names key e.0 apart known all.0))
        ∙ rest-chosen (is_key key e.0) e es _ _ (removed-named es all.1)

    promoted-named : (es : List (SmallSpot × V)) → AreKnown names es → promoted (is_equal_to (spot_of names key)) (map (entry_of names) es) ≡ map (entry_of names) (promoted (is_key key) es)
    promoted-named es all =
        let entry = entry-named es all in
        let rest = removed-named es all in
        (λ i. option_map_or (λ e. e ∷ rest i) (entry i) (map (entry_of names) es))
        ∙ found-or (λ e. e ∷ map (entry_of names) (remove_entry (is_key key) es)) (λ e. e ∷ remove_entry (is_key key) es) es (λ e. refl) (lookup_entry (is_key key) es)

    demoted-named : (es : List (SmallSpot × V)) → AreKnown names es → demoted (is_equal_to (spot_of names key)) (map (entry_of names) es) ≡ map (entry_of names) (demoted (is_key key) es)
    demoted-named es all =
        let entry = entry-named es all in
        let rest = removed-named es all in
        let left = remove_entry (is_key key) es in
        (λ i. option_map_or (λ e. rest i ++ e ∷ []) (entry i) (map (entry_of names) es))
        ∙ found-or (λ e. map (entry_of names) left ++ e ∷ []) (λ e. left ++ e ∷ []) es (λ e. sym (map-append (entry_of names) left (e ∷ []))) (lookup_entry (is_key key) es)

    put-named : (c : LruCache SmallSpot V) (v : V) → AreKnown names c.entries → put_entries (eq-value).it (named names c) (spot_of names key) v ≡ map (entry_of names) (put_entries (small-eq).it c key v)
    put-named c v all =
        let entry = entry-named c.entries all in
        let rest = removed-named c.entries all in
        let left = remove_entry (is_key key) c.entries in
        let kept = take-map (entry_of names) (c.cap - 1) c.entries in
        (λ i. option_map_or (λ e. (e.0, v) ∷ rest i) (entry i) (((spot_of names key), v) ∷ kept i))
        ∙ found-or (λ e. (e.0, v) ∷ map (entry_of names) left) (λ e. (e.0, v) ∷ left) ((key, v) ∷ take (c.cap - 1) c.entries) (λ e. refl) (lookup_entry (is_key key) c.entries)

    -- ---- the names stay known

    known-entry : (es : List (SmallSpot × V)) → AreKnown names es → IsKnownEntry (lookup_entry (is_key key) es)
    known-entry [] all = tt
    known-entry (e ∷ es) all = known-chosen (is_key key e.0) e (lookup_entry (is_key key) es) all.0 (known-entry es all.1)

    left-known : (es : List (SmallSpot × V)) → AreKnown names es → AreKnown names (remove_entry (is_key key) es)
    left-known [] all = tt
    left-known (e ∷ es) all = known-rest (is_key key e.0) e es (remove_entry (is_key key) es) all.0 all.1 (left-known es all.1)

    pub known-removed : (c new : LruCache SmallSpot V) → AreKnown names c.entries → new ≡ lru_cache (remove_entry (is_key key) c.entries) c.cap → AreKnown names new.entries
    known-removed c new all e = subst HasKnown (sym e) (left-known c.entries all)

    pub known-promoted : (c new : LruCache SmallSpot V) → AreKnown names c.entries → new ≡ lru_cache (promoted (is_key key) c.entries) c.cap → AreKnown names new.entries
    known-promoted c new all e =
        let left = remove_entry (is_key key) c.entries in
        subst HasKnown (sym e) (known-or (λ x. x ∷ left) c.entries (λ x here. (here, left-known c.entries all)) all (lookup_entry (is_key key) c.entries) (known-entry c.entries all))

    pub known-demoted : (c new : LruCache SmallSpot V) → AreKnown names c.entries → new ≡ lru_cache (demoted (is_key key) c.entries) c.cap → AreKnown names new.entries
    known-demoted c new all e =
        let left = remove_entry (is_key key) c.entries in
        subst HasKnown (sym e) (known-or (λ x. left ++ x ∷ []) c.entries (λ x here. known-behind left x (left-known c.entries all) here) all (lookup_entry (is_key key) c.entries) (known-entry c.entries all))

    pub known-put : (c new : LruCache SmallSpot V) (v : V) → AreKnown names c.entries → new ≡ lru_cache (put_entries (small-eq).it c key v) c.cap → AreKnown names new.entries
    known-put c new v all e =
        let left = remove_entry (is_key key) c.entries in
        let kept = take (c.cap - 1) c.entries in
        subst HasKnown (sym e) (known-or (λ x. (x.0, v) ∷ left) ((key, v) ∷ kept) (λ x here. (here, left-known c.entries all)) (known, known-take (c.cap - 1) c.entries all) (lookup_entry (is_key key) c.entries) (known-entry c.entries all))

    -- ---- the table of blocks after a change of the table of keys

    pub promoted-is : (c new : LruCache SmallSpot V) → AreKnown names c.entries → new ≡ lru_cache (promoted (is_key key) c.entries) c.cap → named names new ≡ lru_cache (promoted (is_equal_to (spot_of names key)) (named names c).entries) (named names c).cap
    promoted-is c new all e = ap (named names) e ∙ ap (λ es. lru_cache es c.cap) (sym (promoted-named c.entries all))

    pub removed-is : (c new : LruCache SmallSpot V) → AreKnown names c.entries → new ≡ lru_cache (remove_entry (is_key key) c.entries) c.cap → named names new ≡ lru_cache (remove_entry (is_equal_to (spot_of names key)) (named names c).entries) (named names c).cap
    removed-is c new all e = ap (named names) e ∙ ap (λ es. lru_cache es c.cap) (sym (removed-named c.entries all))

    pub demoted-is : (c new : LruCache SmallSpot V) → AreKnown names c.entries → new ≡ lru_cache (demoted (is_key key) c.entries) c.cap → named names new ≡ lru_cache (demoted (is_equal_to (spot_of names key)) (named names c).entries) (named names c).cap
    demoted-is c new all e = ap (named names) e ∙ ap (λ es. lru_cache es c.cap) (sym (demoted-named c.entries all))

    pub put-is : (c new : LruCache SmallSpot V) (v : V) → AreKnown names c.entries → new ≡ lru_cache (put_entries (small-eq).it c key v) c.cap → named names new ≡ lru_cache (put_entries (eq-value).it (named names c) (spot_of names key) v) (named names c).cap
    put-is c new v all e = ap (named names) e ∙ ap (λ es. lru_cache es c.cap) (sym (put-named c v all))

  -- ---- the first entry

  pub first-named : (es : List (SmallSpot × V)) (o : Option (SmallSpot × V)) → slice_get es 0 ≡ o → slice_get (map (entry_of names) es) 0 ≡ option_map (entry_of names) o
  first-named [] o is = ap (option_map (entry_of names)) is
  first-named (e ∷ es) o is = ap (option_map (entry_of names)) is

  pub first-known : (es : List (SmallSpot × V)) (key : SmallSpot) (v : V) → AreKnown names es → slice_get es 0 ≡ Some (key, v) → IsKnown names key
  first-known [] key v all is = cc
  first-known (e ∷ es) key v all is =
      let same : e ≡ (key, v) = cc in
      subst (λ (x : SmallSpot × V). IsKnown names x.0) same all.0

  pub rest-is : (c new : LruCache SmallSpot V) → new ≡ lru_cache (drop 1 c.entries) c.cap → named names new ≡ lru_cache (drop 1 (named names c).entries) (named names c).cap
  rest-is c new e = ap (named names) e ∙ ap (λ es. lru_cache es c.cap) (drop-named c.entries)
    where
      drop-named : (es : List (SmallSpot × V)) → map (entry_of names) (drop 1 es) ≡ drop 1 (map (entry_of names) es)
      drop-named [] = refl
      drop-named (e ∷ es) = refl

  pub known-left : (c new : LruCache SmallSpot V) → AreKnown names c.entries → new ≡ lru_cache (drop 1 c.entries) c.cap → AreKnown names new.entries
  known-left c new all e = subst HasKnown (sym e) (left c.entries all)
    where
      left : (es : List (SmallSpot × V)) → AreKnown names es → AreKnown names (drop 1 es)
      left [] all = tt
      left (x ∷ es) all = all.1

-- with no first entry there is no entry to leave
pub none-left : {V : Type 0} (c new : LruCache SmallSpot V) → slice_get c.entries 0 ≡ None → new ≡ lru_cache (drop 1 c.entries) c.cap → new ≡ c
none-left {V} c new none e = e ∙ ap (λ es. lru_cache es c.cap) (empty c.entries none)
  where
    empty : (es : List (SmallSpot × V)) → slice_get es 0 ≡ None → drop 1 es ≡ es
    empty [] n = refl
    empty (x ∷ es) n = cc
