-- What an answer to a fetch says (this project's own).
use Rattle.std.specs.Prelude.{◌≡◌, ℕ, ◌*◌, ◌≤◌, Bool, true, false, List, [], length, take, drop, Option, Some, None}
use Rattle.world_io.specs.declared.store.Fetch.{Fetch}
use Rattle.world_io.specs.declared.store.Fetch.TheVariants.{Got, Failed}

abbrev pub fetch_failed : Fetch → Bool
fetch_failed Failed = true
fetch_failed (Got n) = false

-- the bytes of a block of a file, up to 4,096; none past its end, nor where there is no file
abbrev pub block_of : Option (List ℕ) → ℕ → List ℕ
block_of (Some bytes) block = take 4096 (drop (4096 * block) bytes)
block_of None block = []

-- n is the length of the block, whose bytes stand at the front of the buffer
abbrev pub HasBlock : Option (List ℕ) → ℕ → ℕ → List ℕ → Type 0
HasBlock file block n into = (n ≡ length (block_of file block)) × (take n into ≡ block_of file block)

-- Got has the block of the file
abbrev pub FetchSays : Option (List ℕ) → ℕ → Fetch → List ℕ → Type 0
FetchSays file block (Got n) into = HasBlock file block n into
FetchSays file block Failed into = Unit {0}

-- a block has at most 4,096 bytes
abbrev pub FetchFits : Fetch → Type 0
FetchFits (Got n) = n ≤ 4096
FetchFits Failed = Unit {0}
