-- What was noted of needs that come one after the other (this project's own).
use Rattle.std.specs.Prelude.{◌≡◌, ◌<◌, ◌≤◌, Bool, true, false, List, length}
use Rattle.spec_base.specs.declared.spot.BlockSpot.{BlockSpot}
use Rattle.fetch_plan.specs.Needs.{Numbers, no_numbers, all_noted}

-- the numbers, and whether there were more needs than may be
pub record Noted : Type 0 where
  pub numbers : Numbers
  pub full : Bool

abbrev pub HasIf : Bool → Numbers → List BlockSpot → Type 0
HasIf true n spots = 4_000_000 < length spots
HasIf false n spots = (n ≡ all_noted no_numbers spots) × (length spots ≤ 4_000_000)

-- the needs of these blocks were noted
abbrev pub Has : Noted → List BlockSpot → Type 0
Has n spots = HasIf n.full n.numbers spots
