-- What a read that the shadow assumes leaves of what it shares: table, list and copies, where it is filled and where it isn't (this project's own).
use Rattle.std.specs.Prelude.{ℕ, ◌+◌, ◌/◌, ◌≡◌, ◌≤◌, ◌<◌, Bool, true, false, List, [], length, IsTrue}
use Rattle.spec_base.specs.Layout.{is_lawful}
use Rattle.spec_base.specs.declared.layout.Layout.{Layout}
use Rattle.spec_base.specs.declared.spot.ReadSpot.{ReadSpot}
use Rattle.rv_model.specs.Memory.{Memory, written}
use Rattle.rv_model.specs.Space.{program_byte}
use Rattle.program_model.specs.Calls.{Read, bytes_read}
use Rattle.code_model.specs.Regions.{byte_by_entry}
use Rattle.run_model.specs.Run.{World, Run, rewritten_words}
use Rattle.run_model.specs.ShadowMoves.{fill, is_filled, hint_given, shadow_plan}
use Rattle.code_model.specs.Tables.{Tabs, TableOk, all_regions}
use Rattle.side_model.specs.Tables.{HasTabs}

-- the bytes that the shadow has in place of the program's memory, by the table
abbrev pub seen : Tabs → Memory → Memory → Memory
seen t shared program x = byte_by_entry (t.entry (x / 256)) shared program x

-- the bytes that a read sets in the copies: all that it reads where it is filled, else none
abbrev pub bytes_set : Bool → List ℕ → List ℕ
bytes_set true bytes = bytes
bytes_set false bytes = []

-- the shadow's memory behind a read of these bytes to a: consistent tables, in which each region that had a copy has the same one, and those of the bytes have one, and the bytes in place of what was there
pub record IsFilled (l : Layout) (program : Memory) (t : Tabs) (old : Memory) (a : ℕ) (bytes : List ℕ) (new : Memory) : Type 0 where
  pub tables : Tabs
  pub has : HasTabs l new tables
  pub ok : TableOk l tables
  pub copies : (region : ℕ) → 0 < t.entry region → tables.entry region ≡ t.entry region
  pub copied : (x : ℕ) → a ≤ x → x < a + length bytes → 0 < tables.entry (x / 256)
  pub view : (x : ℕ) → x / 256 < all_regions l → seen tables new program x ≡ written (seen t old program) a bytes x

-- A read that the shadow assumes keeps the region table and the region list consistent, and each copy
-- where it is. Where the read is filled, all its regions have copies, and what the shadow has in place
-- of the program's memory is what it had, but for the bytes that were read; else that stays.

-- a read that is planned sets its bytes where it is filled
abbrev pub FillsKeepTables : Type 0
FillsKeepTables =
    (w : World) (r : Run) (t : Tabs) (d : ℕ) (spot : ReadSpot) (a : ℕ) (unhinted : Bool) → IsTrue (is_lawful w.image.layout) → shadow_plan w r ≡ Read d spot a
    → HasTabs w.image.layout r.shared t → TableOk w.image.layout t → let hinted = hint_given unhinted spot r in
    IsFilled w.image.layout (program_byte w.image.layout (rewritten_words w) r.own.memory) t r.shared a (bytes_set (is_filled w hinted spot a spot.count) (bytes_read w.files spot))
    (fill w spot a hinted).shared
