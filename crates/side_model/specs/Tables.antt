-- A shared memory's region table and region list, as a row of the shadow's words knows them (this project's own).
use Rattle.std.specs.Prelude.{ℕ, ◌≡◌, ◌<◌, cond, ◌==◌}
use Rattle.spec_base.specs.declared.layout.Layout.{Layout}
use Rattle.rv_model.specs.Memory.{Memory, loaded}
use Rattle.code_model.specs.Regions.{entry_of, slots_in_use, listed_address}
use Rattle.code_model.specs.Tables.{Tabs, all_regions}

-- the shared memory has this table and this list
pub record HasTabs (l : Layout) (shared : Memory) (t : Tabs) : Type 0 where
  pub entry : (region : ℕ) → region < all_regions l → entry_of shared region ≡ t.entry region
  pub count : slots_in_use shared ≡ t.count
  pub listed : (slot : ℕ) → slot < l.regions → loaded shared (listed_address slot) 4 ≡ t.listed slot

-- a word that changes neither the tables nor the memory
pub record IsUnchanged (t : Tabs) (m : Memory) (t' : Tabs) (m' : Memory) : Type 0 where
  pub tables : t' ≡ t
  pub memory : m' ≡ m

-- a function with another value at one number
abbrev pub with_value : ℕ → ℕ → (ℕ → ℕ) → ℕ → ℕ
with_value n v f k = cond (k == n) v (f k)
