-- The region table and the region list, and what is so of them between any two words (this project's own).
use Rattle.std.specs.Prelude.{ℕ, ◌-◌, ◌/◌, ◌≡◌, ◌≤◌, ◌<◌}
use Rattle.spec_base.specs.Layout.{range_end}
use Rattle.spec_base.specs.declared.layout.Layout.{Layout}
use Rattle.rv_model.specs.Memory.{Memory, loaded}
use Rattle.code_model.specs.Regions.{entry_address, entry_of, slots_in_use, listed_address}

-- the entries of the table, the count of slots in use, and the list's word of each slot, counted from 0
pub record Tabs : Type 0 where
  pub entry : ℕ → ℕ
  pub count : ℕ
  pub listed : ℕ → ℕ

-- those of a shared memory
abbrev pub tabs_of : Memory → Tabs
tabs_of shared = record { entry = entry_of shared; count = slots_in_use shared; listed = λ slot. loaded shared (listed_address slot) 4 }

-- how many regions the program range has
abbrev pub all_regions : Layout → ℕ
all_regions l = range_end l.version / 256

-- the count is at most the regions of the layout; each word of the list up to the count is the address of an entry; an entry that isn't 0 is the number of a slot, counted from 1, whose word of the list is the entry's address
pub record TableOk (l : Layout) (t : Tabs) : Type 0 where
  pub count : t.count ≤ l.regions
  pub listed : (slot : ℕ) → slot < t.count → (region : ℕ) × (region < all_regions l) × (t.listed slot ≡ entry_address region)
  pub entry : (region : ℕ) → region < all_regions l → 0 < t.entry region → (t.entry region ≤ t.count) × (t.listed (t.entry region - 1) ≡ entry_address region)

-- table and list of a shared memory are so
abbrev pub AreConsistent : Layout → Memory → Type 0
AreConsistent l shared = TableOk l (tabs_of shared)
