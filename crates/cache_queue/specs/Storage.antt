-- What holds of the fields of the cached blocks.
use Rattle.std.specs.Prelude.{◌≡◌, ◌+◌, ◌≤◌, ◌<◌, length, map}
use Rattle.cache_queue.specs.Frames.{shown, HaveFrames}
use Rattle.cache_queue.specs.Orders.{AreApart}
use Rattle.cache_queue.specs.State.{CachedBlocks}
use Rattle.cache_queue.specs.declared.blocks.Blocks.TheInside.{Inside}

-- each block has the bytes of its frame
abbrev pub cached_of : Inside → CachedBlocks
cached_of c = record { entries = shown c.pool c.frames.entries; most = c.frames.cap }

-- each block has a frame of its own and stands once; no other frame is in use, and one more than the blocks may be
pub record IsSound (c : Inside) : Type 0 where
  pub frames : HaveFrames c.pool c.frames.entries
  pub apart : AreApart (map (λ e. e.0) c.frames.entries)
  pub in_use : c.pool.in_use ≡ length c.frames.entries
  pub most : c.pool.most ≡ c.frames.cap + 1
  pub few : length c.frames.entries ≤ c.frames.cap
  pub some : 0 < c.frames.cap
