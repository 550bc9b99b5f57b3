-- A cache run again from the lines of a trace (this project's own).
use Rattle.std.specs.Prelude.{ℕ, zero, suc, ◌+◌, ◌-◌, ◌/◌, ◌^◌, ◌<◌, ◌≤◌, Bool, true, false, List, [], ◌∷◌, Some, None, max}
use Rattle.spec_base.specs.declared.spot.BlockSpot.{BlockSpot}
use Rattle.spec_base.specs.declared.spot.ReadSpot.{ReadSpot}
use Rattle.spec_base.specs.declared.note.Note.{Note}
use Rattle.spec_base.specs.declared.note.Note.TheVariants as notes
use Rattle.trace_text.specs.declared.trace_line.TraceBody.{TraceBody}
use Rattle.trace_text.specs.declared.trace_line.TraceBody.TheVariants as bodies
use Rattle.trace_text.specs.declared.trace_line.TraceLine.{TraceLine}
use Rattle.program_model.specs.Cache.{Cache, empty_cache, holds, in_flight, landed, kept, used, awaited, all_hinted, blocks_of}

-- how many blocks may be cached, how many may be queued, and how many instructions of the program a fetch takes
pub record Settings : Type 0 where
  pub blocks : ℕ
  pub depth : ℕ
  pub every : ℕ

-- the lists of the cache, the clock, and the totals
pub record Replayed : Type 0 where
  pub cache : Cache
  pub clock : ℕ
  pub reads : ℕ
  pub needs : ℕ
  pub stalls : ℕ
  pub fetches : ℕ

-- nothing yet
abbrev pub fresh : Replayed
fresh = record { cache = empty_cache; clock = 0; reads = 0; needs = 0; stalls = 0; fetches = 0 }

-- with other lists
abbrev pub with_cache : Replayed → Cache → Replayed
with_cache r cache = record r { cache = cache }

module _ (s : Settings) where
  -- the fetch of the block in flight finishes
  abbrev pub fetched : Replayed → BlockSpot → Replayed
  fetched r spot = record r { cache = kept s.blocks (landed r.cache) spot; fetches = r.fetches + 1 }

  -- at most so many fetches finish, while something is in flight
  unfoldable pub finishes : ℕ → Replayed → Replayed
  finishes zero r = r
  finishes (suc n) r =
      elim (in_flight r.cache) [
        | None ↦ r
        | Some spot ↦ finishes n (fetched r spot)
      ]

  -- the clock comes to a number of instructions: fetches finish in the time that passes
  abbrev pub caught_up : Replayed → ℕ → Replayed
  caught_up r own = record (finishes (own / s.every - r.clock) r) { clock = max r.clock (own / s.every) }

  -- a need of a cached block (true), or of another, which is fetched at once
  abbrev pub needed_if : Bool → Replayed → BlockSpot → Replayed
  needed_if true r spot = record r { cache = used r.cache spot; needs = r.needs + 1 }
  needed_if false r spot = fetched (record r { cache = awaited r.cache spot; needs = r.needs + 1; stalls = r.stalls + 1 }) spot

  -- a block is needed
  abbrev pub needed : Replayed → BlockSpot → Replayed
  needed r spot = needed_if (holds r.cache.cached spot) r spot

  abbrev pub all_needed : Replayed → List BlockSpot → Replayed
  all_needed r [] = r
  all_needed r (spot ∷ spots) = all_needed (needed r spot) spots

  -- a read needs its blocks
  abbrev pub read_again : Replayed → ReadSpot → Replayed
  read_again r spot = all_needed (record r { reads = r.reads + 1 }) (blocks_of spot)

  -- a note
  abbrev pub noted_again : Replayed → Note → Replayed
  noted_again r (notes.Hint spot) = with_cache r (all_hinted s.depth r.cache (blocks_of spot))
  noted_again r (notes.Match spot) = read_again r spot
  noted_again r (notes.Restart spot) = read_again r spot
  noted_again r note = r

  -- what a line says
  abbrev pub body_again : Replayed → TraceBody → Replayed
  body_again r (bodies.Note note) = noted_again r note
  body_again r body = r

  -- a line
  abbrev pub line_again : Replayed → TraceLine → Replayed
  line_again r line = body_again (caught_up r line.own) line.body

  abbrev pub lines_again : Replayed → List TraceLine → Replayed
  lines_again r [] = r
  lines_again r (line ∷ lines) = lines_again (line_again r line) lines

  -- the cache run again from all lines
  abbrev pub replayed : List TraceLine → Replayed
  replayed lines = lines_again fresh lines
