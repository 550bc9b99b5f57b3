-- What a finish of a fetch says (this project's own).
use Rattle.std.specs.Prelude.{◌≡◌, ℕ, ◌-◌, true, false, List, ◌++◌, length, replicate, Option, Some, None, IfSome}
use Rattle.spec_base.specs.declared.spot.BlockSpot.{BlockSpot}
use Rattle.spec_base.specs.Files.{Files}
use Rattle.world_io.specs.Outside.{StoreState, Rose, Counts}
use Rattle.world_io.specs.Fetches.{block_of}
use Rattle.program_model.specs.Cache.{Cache, in_flight, landed, kept}
use Rattle.cache_queue.specs.State.{CachedBlocks, CacheState, lists, bytes_of, with_block}
use Rattle.cache_queue.specs.declared.finish.Finished.{Finished}
use Rattle.cache_queue.specs.declared.finish.Finished.TheVariants.{Nothing, Put, Lost, Dropped, Fault}

-- the 4,096 bytes of a block of a file: zeros follow the end of the file
abbrev pub padded_block : Option (List ℕ) → ℕ → List ℕ
padded_block file block = block_of file block ++ replicate (4096 - length (block_of file block)) 0

-- ---- the lists and the blocks

-- which block was in flight, by the answer; a demanded one isn't dropped, and a queued one is no fault
abbrev pub IsOf : Cache → Finished → Type 0
IsOf c Nothing = in_flight c ≡ None
IsOf c (Put spot) = in_flight c ≡ Some spot
IsOf c (Lost spot) = in_flight c ≡ Some spot
IsOf c (Dropped spot) = (c.demanded ≡ None) × (in_flight c ≡ Some spot)
IsOf c (Fault spot) = c.demanded ≡ Some spot

-- the lists afterwards
abbrev pub finished : ℕ → Cache → Finished → Cache
finished most c Nothing = c
finished most c (Put spot) = kept most (landed c) spot
finished most c (Lost spot) = landed c
finished most c (Dropped spot) = landed c
finished most c (Fault spot) = landed c

-- the cached blocks afterwards, where the buffer has these bytes
abbrev pub with_finished : CachedBlocks → Finished → List ℕ → CachedBlocks
with_finished c (Put spot) bytes = with_block c spot bytes
with_finished c (Lost spot) bytes = c
with_finished c Nothing bytes = c
with_finished c (Dropped spot) bytes = c
with_finished c (Fault spot) bytes = c

-- a block that was fetched was cached, or lost
abbrev pub IsKept : CacheState → BlockSpot → List ℕ → Finished → CacheState → Type 0
IsKept old spot bytes (Put x) new = (x ≡ spot) × (lists new ≡ kept old.blocks.most (lists old) spot)
    × (new.blocks ≡ with_block old.blocks spot bytes) × (new.demanded ≡ old.demanded) × (new.depth ≡ old.depth)
IsKept old spot bytes (Lost x) new = (x ≡ spot) × (new ≡ old)
IsKept old spot bytes Nothing new = ⊥
IsKept old spot bytes (Dropped x) new = ⊥
IsKept old spot bytes (Fault x) new = ⊥

-- ---- the store

-- the bytes that were fetched are those of the file
abbrev pub FinishTells : Files → Finished → List ℕ → Type 0
FinishTells files Nothing bytes = Unit {0}
FinishTells files (Put spot) bytes = bytes ≡ padded_block (files spot.name) spot.block
FinishTells files (Lost spot) bytes = bytes ≡ padded_block (files spot.name) spot.block
FinishTells files (Dropped spot) bytes = Unit {0}
FinishTells files (Fault spot) bytes = Unit {0}

-- a fetch failed only where the store's count of faults rose
abbrev pub FinishFails : ℕ → Finished → ℕ → Type 0
FinishFails before (Dropped spot) now = Rose before now
FinishFails before (Fault spot) now = Rose before now
FinishFails before Nothing now = Unit {0}
FinishFails before (Put spot) now = Unit {0}
FinishFails before (Lost spot) now = Unit {0}

-- one call of the store was made, if a block was in flight
abbrev pub FinishCounts : StoreState → Finished → StoreState → Type 0
FinishCounts old Nothing new = new ≡ old
FinishCounts old (Put spot) new = Counts old false new
FinishCounts old (Lost spot) new = Counts old false new
FinishCounts old (Dropped spot) new = Counts old true new
FinishCounts old (Fault spot) new = Counts old true new

-- ---- contents

-- each cached block has the bytes of the file
abbrev pub TrueTo : Files → CachedBlocks → Type 0
TrueTo files c = (spot : BlockSpot) → IfSome (bytes_of c spot) (λ bytes. bytes ≡ padded_block (files spot.name) spot.block)
