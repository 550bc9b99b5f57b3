-- Regions of 256 bytes, and the copies that a shadow has of some of them (this project's own).
use Rattle.std.specs.Prelude.{ℕ, zero, suc, ◌+◌, ◌-◌, ◌*◌, ◌/◌, ◌%◌, Bool, true, false, List, [], ◌∷◌, length, ◌==◌}
use Rattle.spec_base.specs.Layout.{table_start, list_start, copies_start}
use Rattle.spec_base.specs.declared.layout.Layout.{Layout}
use Rattle.rv_model.specs.Memory.{Memory, patched, stored, loaded}
use Rattle.rv_model.specs.Space.{program_byte}

-- ---- table, list and copies

-- where a region has its entry of 4 bytes in the table
abbrev pub entry_address : ℕ → ℕ
entry_address region = table_start + 4 * region

-- the entry: 0, or the number of the region's slot, counted from 1
abbrev pub entry_of : Memory → ℕ → ℕ
entry_of shared region = loaded shared (entry_address region) 4

-- how many slots are in use: the first 8 bytes of the list
abbrev pub slots_in_use : Memory → ℕ
slots_in_use shared = loaded shared list_start 8

-- where a slot, counted from 0, has its word of the list
abbrev pub listed_address : ℕ → ℕ
listed_address slot = list_start + 8 + 4 * slot

-- where a slot, counted from 0, has its 256 bytes
abbrev pub slot_address : ℕ → ℕ
slot_address slot = copies_start + 256 * slot

-- ---- what the shadow has in place of the program's memory

-- where a byte stands by its region's entry, in the copies or in the program
abbrev pub byte_by_entry : ℕ → Memory → Memory → ℕ → ℕ
byte_by_entry zero shared program a = program a
byte_by_entry (suc slot) shared program a = shared (slot_address slot + a % 256)

-- the byte of the copy where the region has one, else the program's
unfoldable pub shadowed : Memory → Memory → Memory
shadowed shared program a = byte_by_entry (entry_of shared (a / 256)) shared program a

-- ---- a copy is made: the region's bytes, its word of the list, the count, its entry

-- a copy of a region in a slot
abbrev pub with_copy_at : ℕ → Layout → List ℕ → Memory → Memory → ℕ → Memory
with_copy_at slot l words program shared region =
    stored (stored (stored (patched shared (slot_address slot) 256 (λ i. program_byte l words program (256 * region + i)))
    (listed_address slot) 4 (entry_address region)) list_start 8 (slot + 1)) (entry_address region) 4 (slot + 1)

-- the next free slot becomes the region's
abbrev pub with_copy : Layout → List ℕ → Memory → Memory → ℕ → Memory
with_copy l words program shared region = with_copy_at (slots_in_use shared) l words program shared region

-- regions get copies in order
unfoldable pub with_copies : Layout → List ℕ → Memory → Memory → List ℕ → Memory
with_copies l words program shared [] = shared
with_copies l words program shared (region ∷ regions) = with_copies l words program (with_copy l words program shared region) regions

-- ---- bytes are set in the copies

-- the place of a byte in its region's copy
abbrev pub copy_place : ℕ → ℕ → ℕ
copy_place entry a = slot_address (entry - 1) + a % 256

-- each byte's region has a copy
unfoldable pub set_in_copies : Memory → ℕ → List ℕ → Memory
set_in_copies shared a [] = shared
set_in_copies shared a (byte ∷ bytes) = set_in_copies (patched shared (copy_place (entry_of shared (a / 256)) a) 1 (λ i. byte)) (a + 1) bytes

-- the regions without a copy among n from one on, ascending
unfoldable pub uncopied : Memory → ℕ → ℕ → List ℕ
uncopied shared region zero = []
uncopied shared region (suc n) = elim (entry_of shared region == 0) [ true ↦ region ∷ uncopied shared (region + 1) n | false ↦ uncopied shared (region + 1) n ]

-- the regions without a copy among those of n + 1 bytes from a on
abbrev pub new_regions : Memory → ℕ → ℕ → List ℕ
new_regions shared a n = uncopied shared (a / 256) ((a + n) / 256 - a / 256 + 1)
