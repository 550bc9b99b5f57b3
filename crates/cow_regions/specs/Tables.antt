-- The slots of regions in the table of a shared memory (this project's own).
use Rattle.std.specs.Prelude.{ℕ, zero, suc, ◌+◌, ◌%◌, ◌≡◌, ◌≤◌, ◌<◌, IsTrue, Option, Some, None}
use Rattle.spec_base.specs.Layout.{link_start, private_start}
use Rattle.spec_base.specs.declared.layout.Layout.{Layout}
use Rattle.rv_model.specs.Memory.{Memory, all_from}
use Rattle.rv_model.specs.Rights.{in_shared}
use Rattle.code_model.specs.Regions.{entry_of}
use Rattle.code_model.specs.Tables.{all_regions}

-- the slot of an entry, counted from 1, where it isn't 0
abbrev pub slot_by_entry : ℕ → Option ℕ
slot_by_entry zero = None
slot_by_entry (suc slot) = Some (suc slot)

-- the slot of a region that has a copy
abbrev pub slot_in : Memory → ℕ → Option ℕ
slot_in shared region = slot_by_entry (entry_of shared region)

-- each region that had a copy has it in the same slot
abbrev pub KeepsSlots : Layout → Memory → Memory → Type 0
KeepsSlots l old new = (region : ℕ) → region < all_regions l → 0 < entry_of old region → entry_of new region ≡ entry_of old region

-- n bytes from an address on are an aligned number of the parts that the shadow shares with the stub
pub record IsNumber (l : Layout) (a n : ℕ) : Type 0 where
  pub aligned : a % n ≡ 0
  pub inside : IsTrue (all_from (in_shared l) a n)
  pub above : link_start ≤ a
  pub below : a + n ≤ private_start
