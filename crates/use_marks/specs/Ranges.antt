-- Ranges of addresses, each from its first address to its last (this project's own).
use Rattle.std.specs.Prelude.{ℕ, ◌+◌, ◌≡◌, ◌≢◌, ◌≤◌, ◌<◌, ◌-◌, ◌^◌, ◌⊎◌, Bool, true, false, ◌&&◌, List, nat_le, Option, Some, None}
use Rattle.std.specs.List.{list_any}
use Rattle.rv_model.specs.Memory.{is_within}

-- an address lies in a range
abbrev pub is_between : ℕ → ℕ → ℕ → Bool
is_between first last a = nat_le first a && nat_le a last

-- an address lies in one of these ranges
unfoldable pub in_ranges : List (ℕ × ℕ) → ℕ → Bool
in_ranges ranges a = list_any (λ e. is_between e.0 e.1 a) ranges

-- an address lies in a stretch where it is marked, or is marked outside it
abbrev pub with_range : (ℕ → Bool) → ℕ → ℕ → Bool → ℕ → Bool
with_range bytes base n marked a = elim (is_within base n a) [ true ↦ marked | false ↦ bytes a ]

-- each address in these ranges lies between two, and is below 2^64
abbrev pub AreBounded : List (ℕ × ℕ) → ℕ → ℕ → Type 0
AreBounded ranges least most = (a : ℕ) → in_ranges ranges a ≡ true → (least ≤ a) × (a ≤ most) × (a < 2 ^ 64)

-- n addresses from one on end below 2^64
abbrev pub Fits : ℕ → ℕ → Type 0
Fits a n = 0 < n → a + n ≤ 2 ^ 64

-- ---- by the ranges' first addresses: what a map has at each

-- a range has an address
pub record Covers (at : ℕ → Option ℕ) (a : ℕ) : Type 0 where
  pub first : ℕ
  pub last : ℕ
  pub found : at first ≡ Some last
  pub from : first ≤ a
  pub to : a ≤ last

-- each range has an address
abbrev pub IsForward : (ℕ → Option ℕ) → Type 0
IsForward at = (first last : ℕ) → at first ≡ Some last → first ≤ last

-- each range ends below 2^64
abbrev pub AreAddresses : (ℕ → Option ℕ) → Type 0
AreAddresses at = (first last : ℕ) → at first ≡ Some last → last < 2 ^ 64

-- an address that is in no range lies between each range and the next, but for the one that begins here
abbrev pub IsApartBut : ℕ → (ℕ → Option ℕ) → Type 0
IsApartBut but at = (first last next end : ℕ) → first ≢ but → at first ≡ Some last → at next ≡ Some end → first < next → last + 1 < next

-- an address that is in no range lies between each range and the next: what touches is one range
abbrev pub IsApart : (ℕ → Option ℕ) → Type 0
IsApart at = (first last next end : ℕ) → at first ≡ Some last → at next ≡ Some end → first < next → last + 1 < next

-- a range is the one that begins last of those that begin up to here
pub record IsBefore (at : ℕ → Option ℕ) (here first last : ℕ) : Type 0 where
  pub found : at first ≡ Some last
  pub up_to : first ≤ here
  pub latest : (next end : ℕ) → at next ≡ Some end → next ≤ here → next ≤ first

-- a range begins between these
pub record IsBegun (at : ℕ → Option ℕ) (low high first last : ℕ) : Type 0 where
  pub found : at first ≡ Some last
  pub from : low ≤ first
  pub to : first ≤ high

-- the addresses of a range, beside those of these
pub record Adds (old : ℕ → Option ℕ) (first last : ℕ) (new : ℕ → Option ℕ) : Type 0 where
  pub kept : (a : ℕ) → Covers old a → Covers new a
  pub added : (a : ℕ) → first ≤ a → a ≤ last → Covers new a
  pub back : (a : ℕ) → Covers new a → Covers old a ⊎ ((first ≤ a) × (a ≤ last))

-- the addresses of these without those of a range
pub record Takes (old : ℕ → Option ℕ) (first last : ℕ) (new : ℕ → Option ℕ) : Type 0 where
  pub kept : (a : ℕ) → Covers old a → (a < first) ⊎ (last < a) → Covers new a
  pub taken : (a : ℕ) → Covers new a → (a < first) ⊎ (last < a)
  pub back : (a : ℕ) → Covers new a → Covers old a

-- ranges that may be absorbed by the one that begins here
pub record IsReady (at : ℕ → Option ℕ) (first last : ℕ) : Type 0 where
  pub here : at first ≡ Some last
  pub addresses : AreAddresses at
  pub forward : IsForward at
  pub apart : IsApartBut first at

-- ranges as they are kept: neither overlapping nor touching
pub record IsKept (at : ℕ → Option ℕ) : Type 0 where
  pub addresses : AreAddresses at
  pub forward : IsForward at
  pub apart : IsApart at

-- a range that goes on past an address was split behind it
pub record IsSplit (old new : ℕ → Option ℕ) (last : ℕ) : Type 0 where
  pub same : (q : ℕ) → q ≢ last + 1 → new q ≡ old q
  pub kept : (end : ℕ) → old (last + 1) ≡ Some end → new (last + 1) ≡ Some end
  pub split : (q end : ℕ) → old q ≡ Some end → q ≤ last → last < end → new (last + 1) ≡ Some end
  pub back : (end : ℕ) → new (last + 1) ≡ Some end → (old (last + 1) ≡ Some end) ⊎ ((q : ℕ) × (old q ≡ Some end) × (q ≤ last) × (last < end))

-- no range begins between these, and the others are as before
pub record IsRid (old new : ℕ → Option ℕ) (first last : ℕ) : Type 0 where
  pub gone : (q : ℕ) → first ≤ q → q ≤ last → new q ≡ None
  pub below : (q : ℕ) → q < first → new q ≡ old q
  pub above : (q : ℕ) → last < q → new q ≡ old q

-- what begins before an address ends before it
pub record IsCut (old new : ℕ → Option ℕ) (first : ℕ) : Type 0 where
  pub above : (q : ℕ) → first ≤ q → new q ≡ old q
  pub short : (q end : ℕ) → old q ≡ Some end → end < first → new q ≡ Some end
  pub cut : (q end : ℕ) → q < first → old q ≡ Some end → first ≤ end → new q ≡ Some (first - 1)
  pub back : (q end : ℕ) → q < first → new q ≡ Some end → (end < first) × ((to : ℕ) × (old q ≡ Some to) × (end ≤ to) × ((end ≡ to) ⊎ (end + 1 ≡ first)))

-- the same addresses lie in ranges
pub record SameCover (old new : ℕ → Option ℕ) : Type 0 where
  pub forth : (a : ℕ) → Covers old a → Covers new a
  pub back : (a : ℕ) → Covers new a → Covers old a

-- the range that begins here has taken in others up to an end
pub record IsAbsorbing (old now : ℕ → Option ℕ) (first last end : ℕ) : Type 0 where
  pub here : now first ≡ Some last
  pub addresses : AreAddresses now
  pub forward : IsForward now
  pub apart : IsApartBut first now
  pub grown : last ≤ end
  pub kept : (a : ℕ) → Covers old a → Covers now a ⊎ ((first ≤ a) × (a ≤ end))
  pub back : (a : ℕ) → Covers now a → Covers old a
  pub filled : (a : ℕ) → first ≤ a → a ≤ end → Covers old a
