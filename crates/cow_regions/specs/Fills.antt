-- Bytes that are filled into copies (this project's own).
use Rattle.std.specs.Prelude.{ℕ, ◌≡◌, ◌+◌, ◌-◌, ◌/◌, ◌<◌, ◌≤◌, Bool, true, false, List, length, nat_le, IsTrue}
use Rattle.rv_model.specs.Memory.{Memory, written}
use Rattle.rv_model.specs.Rights.{is_data}
use Rattle.rv_model.specs.Space.{Space}
use Rattle.code_model.specs.Regions.{entry_of, shadowed, slots_in_use, new_regions, with_copies, set_in_copies}
use Rattle.code_model.specs.Tables.{AreConsistent}
use Rattle.cow_regions.specs.Tables.{KeepsSlots}
use Rattle.cow_regions.specs.declared.filling.Fitted.{Fitted}
use Rattle.cow_regions.specs.declared.filling.Fitted.TheVariants.{Done, Full}

-- whether the regions of n + 1 bytes that have no copy fit beside those in use
abbrev pub regions_fit : Space → ℕ → ℕ → Bool
regions_fit s a n = nat_le (slots_in_use s.shared + length (new_regions s.shared a n)) s.layout.regions

-- what is answered
abbrev pub fitted : Bool → Fitted
fitted true = Done
fitted false = Full

-- the regions of these bytes have copies, and the bytes are set in them
abbrev pub filled_space : Space → ℕ → List ℕ → Space
filled_space s a bytes = record s { shared = set_in_copies (with_copies s.layout s.text s.program s.shared (new_regions s.shared a (length bytes - 1))) a bytes }

-- of the data that the shadow sees all is as before but these bytes
abbrev pub ShadowedBut : Space → ℕ → List ℕ → Space → Type 0
ShadowedBut old a bytes new = (x : ℕ) → IsTrue (is_data old.layout x) → shadowed new.shared new.program x ≡ written (shadowed old.shared old.program) a bytes x

-- only what is shared has changed
abbrev pub SharesAlone : Space → Space → Type 0
SharesAlone old new = new ≡ record old { shared = new.shared }

-- ---- the second half of a fill: each region has a copy

-- each region of n bytes has a copy
abbrev pub HaveCopies : Memory → ℕ → ℕ → Type 0
HaveCopies shared a n = (x : ℕ) → a ≤ x → x < a + n → 0 < entry_of shared (x / 256)

-- these bytes are set in the copies, and table and list stay as they are
pub record IsSet (old : Space) (a : ℕ) (bytes : List ℕ) (new : Space) : Type 0 where
  pub space : new ≡ record old { shared = set_in_copies old.shared a bytes }
  pub consistent : AreConsistent old.layout new.shared
  pub kept : KeepsSlots old.layout old.shared new.shared
