-- Tables of small keys as lists of blocks, by names that have numbers (this project's own).
use Rattle.std.specs.Prelude.{Bool, ◌||◌, ◌&&◌, ◌==◌, List, map, length, nat_le, None, is_some}
use Rattle.std.specs.List.{AllByRecursion}
use Rattle.std.specs.Map.{keys_of, lookup}
use Rattle.lru.specs.LruCache.{LruCache, lru_cache}
use Rattle.spec_base.specs.Files.{Name}
use Rattle.spec_base.specs.declared.spot.BlockSpot.{BlockSpot}
use Rattle.small_spots.specs.declared.small_spot.SmallSpot.{SmallSpot}
use Rattle.small_spots.specs.SmallSpots.{spot_of, IsKnown, AreNamesApart}
use Rattle.trace_replay.specs.Lists.{BoundedCache}
use Rattle.trace_replay.specs.Fits.{IsFitted}
use Rattle.trace_replay.specs.declared.keyed_lists.KeyedLists.{KeyedLists}

-- the lists of two tables, without what stands beside the blocks
abbrev pub lists_with : {V : Type 0} → LruCache BlockSpot V → LruCache BlockSpot V → BoundedCache
lists_with cached queue = record {
  cache = record { cached = keys_of cached.entries; queue = keys_of queue.entries; demanded = None };
  blocks = cached.cap;
  depth = queue.cap;
}

-- an entry with its block in the place of the key
abbrev pub entry_of : {V : Type 0} → List Name → SmallSpot × V → BlockSpot × V
entry_of names e = (spot_of names e.0, e.1)

-- a table of keys as a table of blocks
abbrev pub named : {V : Type 0} → List Name → LruCache SmallSpot V → LruCache BlockSpot V
named names c = lru_cache (map (entry_of names) c.entries) c.cap

-- the lists of blocks
abbrev pub lists_by : List Name → KeyedLists → BoundedCache
lists_by names l = lists_with (named names l.cached) (named names l.queue)

-- the names of all keys have numbers
abbrev pub AreKnown : {V : Type 0} → List Name → List (SmallSpot × V) → Type 0
AreKnown names es = AllByRecursion (λ e. IsKnown names e.0) es

-- the keys stand for lists of blocks that fit
pub record AreKeyed (names : List Name) (l : KeyedLists) : Type 0 where
  pub fit : IsFitted (lists_by names l)
  pub apart : AreNamesApart names
  pub cached : AreKnown names l.cached.entries
  pub queue : AreKnown names l.queue.entries

-- ---- by keys alone

abbrev pub same_key : SmallSpot → SmallSpot → Bool
same_key x y = (x.name == y.name) && (x.block == y.block)

-- whether a table has the key
abbrev pub has_key : {V : Type 0} → List (SmallSpot × V) → SmallSpot → Bool
has_key es key = is_some (lookup (same_key key) es)

-- whether a hint has no use: the key is cached or queued, or the queue is full
abbrev pub is_idle_key : KeyedLists → SmallSpot → Bool
is_idle_key l key = has_key l.cached.entries key || (has_key l.queue.entries key || nat_le l.queue.cap (length l.queue.entries))
