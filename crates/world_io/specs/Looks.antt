-- What an answer to a look says (this project's own).
use Rattle.std.specs.Prelude.{◌≡◌, ℕ, ◌^◌, ◌<◌, Bool, true, false, List, length, Option, Some, None}
use Rattle.world_io.specs.declared.store.Look.{Look}
use Rattle.world_io.specs.declared.store.Look.TheVariants.{Found, Absent, Failed}

abbrev pub look_failed : Look → Bool
look_failed Failed = true
look_failed (Found size) = false
look_failed Absent = false

-- Found has the file's size, and Absent says that there is none
abbrev pub LookSays : Option (List ℕ) → Look → Type 0
LookSays (Some bytes) (Found size) = size ≡ length bytes
LookSays None (Found size) = ⊥
LookSays (Some bytes) Absent = ⊥
LookSays None Absent = Unit {0}
LookSays (Some bytes) Failed = Unit {0}
LookSays None Failed = Unit {0}

-- each size is below 2^56
abbrev pub LookFits : Look → Type 0
LookFits (Found size) = size < 2 ^ 56
LookFits Absent = Unit {0}
LookFits Failed = Unit {0}
