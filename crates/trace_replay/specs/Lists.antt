-- The lists of a cache with their bounds, and what a need and a finish make of them (this project's own).
use Rattle.std.specs.Prelude.{ℕ, Bool, true, false, [], Option, Some, None}
use Rattle.spec_base.specs.declared.spot.BlockSpot.{BlockSpot}
use Rattle.program_model.specs.Cache.{Cache, empty_cache, landed, kept, used, awaited}

-- the lists, how many blocks may be cached, and how many may be queued
pub record BoundedCache : Type 0 where
  pub cache : Cache
  pub blocks : ℕ
  pub depth : ℕ

-- no block
abbrev pub no_blocks : ℕ → ℕ → BoundedCache
no_blocks blocks depth = record { cache = empty_cache; blocks = blocks; depth = depth }

-- a need of a cached block (true), or of another, which is fetched at once
abbrev pub after_need : Bool → ℕ → Cache → BlockSpot → Cache
after_need true blocks c spot = used c spot
after_need false blocks c spot = kept blocks (landed (awaited c spot)) spot

-- a finish, of the block in flight where there is one
abbrev pub after_finish : Option BlockSpot → ℕ → Cache → Cache
after_finish None blocks c = c
after_finish (Some spot) blocks c = kept blocks (landed c) spot
