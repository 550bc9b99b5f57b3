-- What holds of the fields of a numbering.
use Rattle.std.specs.Prelude.{ℕ, ◌≤◌, List, length, map}
use Rattle.std.specs.List.{AllByRecursion}
use Rattle.small_spots.specs.declared.small_spot.SmallSpot.{SmallSpot}
use Rattle.spec_base.specs.Files.{Name}
use Rattle.small_spots.specs.SmallSpots.{spot_of, IsKnown}
use Rattle.fetch_plan.specs.Needs.{Numbers}
use Rattle.fetch_plan.specs.Numbering.{Noted}
use Rattle.fetch_plan.specs.declared.numbering.Numbering.TheInside.{Inside}

-- keys and numbers, by names that have numbers
abbrev pub numbers_by : List Name → List SmallSpot → List ℕ → Numbers
numbers_by names keys numbers = record { seen = map (spot_of names) keys; numbers = numbers }

abbrev pub noted_of : Inside → Noted
noted_of n = record { numbers = numbers_by n.names n.seen.keys n.numbers.items; full = n.full }

-- there are not too many numbers, and the names of all keys have numbers
pub record IsWithin (n : Inside) : Type 0 where
  pub few : length n.numbers.items ≤ 4_000_000
  pub known : AllByRecursion (IsKnown n.names) n.seen.keys
