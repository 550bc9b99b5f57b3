-- Where the emitted code stands (this project's own).
use Rattle.std.specs.Prelude.{ℕ, ◌+◌, ◌-◌, ◌*◌}
use Rattle.spec_base.specs.Layout.{shadow_start}
use Rattle.spec_base.specs.declared.layout.Layout.{Layout}

-- the block of an instruction's address: 16 words for each word of the text
abbrev pub block_at : Layout → ℕ → ℕ
block_at l p = shadow_start + 16 * (p - l.text_start)

-- ---- helpers, as offsets from the first

-- finds the place of a load of 1 byte
abbrev pub LOAD1 : ℕ
LOAD1 = 0x000

-- of 2 bytes
abbrev pub LOAD2 : ℕ
LOAD2 = 0x040

-- of 4 bytes
abbrev pub LOAD4 : ℕ
LOAD4 = 0x080

-- of 8 bytes
abbrev pub LOAD8 : ℕ
LOAD8 = 0x0C0

-- finds the place of a store of 1 byte
abbrev pub STORE1 : ℕ
STORE1 = 0x100

-- of 2 bytes
abbrev pub STORE2 : ℕ
STORE2 = 0x140

-- of 4 bytes
abbrev pub STORE4 : ℕ
STORE4 = 0x180

-- of 8 bytes
abbrev pub STORE8 : ℕ
STORE8 = 0x1C0

-- jumps to the block of the address in ADR
abbrev pub JUMP : ℕ
JUMP = 0x200

-- ends a load helper
abbrev pub LTAIL : ℕ
LTAIL = 0x240

-- ends a store helper, with a new copy where the region has none
abbrev pub STAIL : ℕ
STAIL = 0x27C

-- appends a keyed read to the hint log
abbrev pub APPEND : ℕ
APPEND = 0x334

-- takes up the state in the restart box
abbrev pub RESTART : ℕ
RESTART = 0x394

-- parks: the instruction would trap
abbrev pub FAULT : ℕ
FAULT = 0x45C

-- parks: all regions are in use
abbrev pub FULL : ℕ
FULL = 0x460

-- parks: the hint log is full
abbrev pub LOGFULL : ℕ
LOGFULL = 0x464
