-- What the tables and the count of the held blocks say of a list of blocks.
use Rattle.std.specs.Prelude.{◌≡◌, ℕ, ◌+◌, ◌≤◌, true, not, List, length}
use Rattle.fetch_plan.specs.declared.occupied.Occupied.{Occupied}
use Rattle.fetch_plan.specs.declared.occupied.Met.{Met}
use Rattle.fetch_plan.specs.Plans.{has, all_differ, leaving, after}
use Rattle.fetch_plan.specs.Kept.{except}
use Rattle.fetch_plan.specs.Tables.{Keeps}

-- the tables have exactly the blocks of the list, at most as many as there may be, before these needs
pub record Holds (o : Occupied) (place : ℕ) (needs held : List ℕ) : Type 0 where
  pub kept : Keeps o.held place needs (has held)
  pub count : o.count ≡ length held
  pub few : length held ≤ o.blocks
  pub some : 1 ≤ o.blocks
  pub differ : all_differ held ≡ true

-- a need was met by the rule
pub record IsMet (old new : Occupied) (place block : ℕ) (needs held : List ℕ) (met : Met) : Type 0 where
  pub leaves : met.leaves ≡ leaving old.blocks held block needs
  pub fetched : met.fetched ≡ not (has held block)
  pub holds : Holds new (place + 1) needs (after held block (leaving old.blocks held block needs))

-- the same, before the block has its place in the tables
pub record IsReady (old new : Occupied) (place block : ℕ) (needs held : List ℕ) (met : Met) : Type 0 where
  pub leaves : met.leaves ≡ leaving old.blocks held block needs
  pub fetched : met.fetched ≡ not (has held block)
  pub kept : Keeps new.held (place + 1) needs (except (has (after held block (leaving old.blocks held block needs))) block)
  pub count : new.count ≡ length (after held block (leaving old.blocks held block needs))
