-- The lists of a cache that takes hints: the cached blocks with the most recently used first, the queue of fetches with the oldest first, and the demanded block (this project's own).
use Rattle.std.specs.Prelude.{ℕ, zero, suc, ◌+◌, ◌-◌, ◌/◌, Bool, true, false, not, ◌&&◌, ◌||◌, List, [], ◌∷◌, ◌++◌, length, take, filter, nat_le, ◌==◌, bytes_eq, Option, Some, None}
use Rattle.spec_base.specs.Files.{Name}
use Rattle.spec_base.specs.declared.spot.BlockSpot.{BlockSpot}
use Rattle.spec_base.specs.declared.spot.ReadSpot.{ReadSpot}

-- the three lists
pub record Cache : Type 0 where
  pub cached : List BlockSpot
  pub queue : List BlockSpot
  pub demanded : Option BlockSpot

-- a cache with nothing in it
abbrev pub empty_cache : Cache
empty_cache = record { cached = []; queue = []; demanded = None }

-- the same block of the same file
abbrev pub same_block : BlockSpot → BlockSpot → Bool
same_block x y = (x.block == y.block) && bytes_eq x.name y.name

-- whether a list has the block
abbrev pub holds : List BlockSpot → BlockSpot → Bool
holds [] spot = false
holds (x ∷ xs) spot = same_block x spot || holds xs spot

-- the list without the block
abbrev pub without : List BlockSpot → BlockSpot → List BlockSpot
without xs spot = filter (λ x. not (same_block x spot)) xs

-- whether the block is the demanded one
abbrev pub is_demanded : Option BlockSpot → BlockSpot → Bool
is_demanded None spot = false
is_demanded (Some x) spot = same_block x spot

-- ---- needs

-- a need of a cached block brings it to the front
abbrev pub used : Cache → BlockSpot → Cache
used c spot = record c { cached = spot ∷ without c.cached spot }

-- a need of another block takes it from the queue, if it is there, and demands it
abbrev pub awaited : Cache → BlockSpot → Cache
awaited c spot = record c { queue = without c.queue spot; demanded = Some spot }

-- a need of a cached block (true), or of another
abbrev pub need_if : Bool → Cache → BlockSpot → Cache
need_if true c spot = used c spot
need_if false c spot = awaited c spot

-- a block is needed
abbrev pub needed : Cache → BlockSpot → Cache
needed c spot = need_if (holds c.cached spot) c spot

-- ---- hints

-- a hint has no use where the block is cached, queued or demanded, or where the queue is full
abbrev pub is_idle_hint : ℕ → Cache → BlockSpot → Bool
is_idle_hint depth c spot = holds c.cached spot || (holds c.queue spot || (is_demanded c.demanded spot || nat_le depth (length c.queue)))

-- a hint of no use (true), or one that joins the queue
abbrev pub hint_if : Bool → Cache → BlockSpot → Cache
hint_if true c spot = c
hint_if false c spot = record c { queue = c.queue ++ spot ∷ [] }

-- a hint joins the queue, unless it has no use
abbrev pub hinted : ℕ → Cache → BlockSpot → Cache
hinted depth c spot = hint_if (is_idle_hint depth c spot) c spot

-- blocks are hinted in order
abbrev pub all_hinted : ℕ → Cache → List BlockSpot → Cache
all_hinted depth c [] = c
all_hinted depth c (spot ∷ spots) = all_hinted depth (hinted depth c spot) spots

-- ---- finishes

-- the oldest of a queue
abbrev pub first_of : List BlockSpot → Option BlockSpot
first_of [] = None
first_of (x ∷ xs) = Some x

-- the queue without it
abbrev pub rest_of : List BlockSpot → List BlockSpot
rest_of [] = []
rest_of (x ∷ xs) = xs

-- the demanded block, else the oldest queued one
abbrev pub flight_of : Option BlockSpot → List BlockSpot → Option BlockSpot
flight_of (Some x) queue = Some x
flight_of None queue = first_of queue

-- the block whose fetch finishes next: the demanded one, else the oldest queued one
abbrev pub in_flight : Cache → Option BlockSpot
in_flight c = flight_of c.demanded c.queue

-- the block in flight leaves the demand or the queue
abbrev pub landed_from : Option BlockSpot → Cache → Cache
landed_from (Some x) c = record c { demanded = None }
landed_from None c = record c { queue = rest_of c.queue }

-- the lists once that block has left them
abbrev pub landed : Cache → Cache
landed c = landed_from c.demanded c

-- the block in front of the cached ones, whose last leaves where all places were taken
abbrev pub kept : ℕ → Cache → BlockSpot → Cache
kept blocks c spot = record c { cached = spot ∷ take (blocks - 1) c.cached }

-- ---- the blocks of a read

-- n blocks of 4,096 bytes of a file, ascending
abbrev pub blocks_up : Name → ℕ → ℕ → List BlockSpot
blocks_up name first zero = []
blocks_up name first (suc n) = record { name = name; block = first } ∷ blocks_up name (first + 1) n

-- the blocks from one number to another
abbrev pub blocks_between : Name → ℕ → ℕ → List BlockSpot
blocks_between name first last = blocks_up name first (last - first + 1)

-- the blocks that hold a byte of a read of so many bytes; none for no bytes
abbrev pub blocks_touched : ReadSpot → ℕ → List BlockSpot
blocks_touched spot zero = []
blocks_touched spot (suc n) = blocks_between spot.name (spot.offset / 4096) ((spot.offset + n) / 4096)

-- the blocks that hold a byte of the read, ascending
abbrev pub blocks_of : ReadSpot → List BlockSpot
blocks_of spot = blocks_touched spot spot.count

-- ---- gathering a read's blocks

-- the lists, how many blocks were had, and whether the next must be fetched
pub record Gathered : Type 0 where
  pub cache : Cache
  pub had : ℕ
  pub waits : Bool

-- needs the blocks in order, up to the first that isn't cached
unfoldable pub gather : Cache → ℕ → List BlockSpot → Gathered
gather c had [] = record { cache = c; had = had; waits = false }
gather c had (spot ∷ spots) =
    elim (holds c.cached spot) [
      | true ↦ gather (needed c spot) (had + 1) spots
      | false ↦ record { cache = needed c spot; had = had; waits = true }
    ]
