-- A cache as contracts see it: the lists, and the bytes of each cached block (this project's own).
use Rattle.std.specs.Prelude.{◌≡◌, ℕ, ◌-◌, List, [], ◌∷◌, map, take, Option, None}
use Rattle.std.specs.Map.{lookup}
use Rattle.spec_base.specs.declared.spot.BlockSpot.{BlockSpot}
use Rattle.program_model.specs.Cache.{Cache, same_block}

-- ---- the cached blocks

-- the cached blocks with their bytes, the most recently used first, and how many there may be
pub record CachedBlocks : Type 0 where
  pub entries : List (BlockSpot × List ℕ)
  pub most : ℕ

abbrev pub keys_of : CachedBlocks → List BlockSpot
keys_of c = map (λ e. e.0) c.entries

-- the bytes of a block, where it is cached
abbrev pub bytes_of : CachedBlocks → BlockSpot → Option (List ℕ)
bytes_of c spot = lookup (λ x. same_block x spot) c.entries

-- a block in front of the others, whose last leaves where there was no place left
abbrev pub with_block : CachedBlocks → BlockSpot → List ℕ → CachedBlocks
with_block c spot bytes = record c { entries = (spot, bytes) ∷ take (c.most - 1) c.entries }

-- the bytes of each block are as before
abbrev pub SameBytes : CachedBlocks → CachedBlocks → Type 0
SameBytes old new = (spot : BlockSpot) → bytes_of new spot ≡ bytes_of old spot

-- ---- the cache

-- the cached blocks, the queued blocks with the oldest first, the demanded block, and how many may be queued
pub record CacheState : Type 0 where
  pub blocks : CachedBlocks
  pub queue : List BlockSpot
  pub demanded : Option BlockSpot
  pub depth : ℕ

-- its lists of blocks
abbrev pub lists : CacheState → Cache
lists c = record { cached = keys_of c.blocks; queue = c.queue; demanded = c.demanded }

-- a cache of nothing
abbrev pub no_blocks : ℕ → ℕ → CacheState
no_blocks most depth = record { blocks = record { entries = []; most = most }; queue = []; demanded = None; depth = depth }
