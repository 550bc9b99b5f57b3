-- Blocks of files by small keys, where each name has a number (this project's own).
use Rattle.std.specs.Prelude.{◌≡◌, ◌<◌, List, [], length, bytes_eq}
use Rattle.std.specs.List.{slice_index_or, IsDistinct}
use Rattle.spec_base.specs.Files.{Name}
use Rattle.spec_base.specs.declared.spot.BlockSpot.{BlockSpot}
use Rattle.small_spots.specs.declared.small_spot.SmallSpot.{SmallSpot}

-- the block of a key, where names have these numbers
abbrev pub spot_of : List Name → SmallSpot → BlockSpot
spot_of names key = record { name = slice_index_or names key.name []; block = key.block }

-- some name has the key's number
abbrev pub IsKnown : List Name → SmallSpot → Type 0
IsKnown names key = key.name < length names

-- no name has two numbers
abbrev pub AreNamesApart : List Name → Type 0
AreNamesApart names = IsDistinct bytes_eq names

-- a key that was known still is, and its block is the same
abbrev pub StaysKnown : List Name → List Name → Type 0
StaysKnown old new = (key : SmallSpot) → IsKnown old key → IsKnown new key × (spot_of new key ≡ spot_of old key)
