-- The needs of a trace: the blocks that its reads need, numbered by first appearance (this project's own).
use Rattle.std.specs.Prelude.{ℕ, ◌+◌, List, [], ◌∷◌, ◌++◌, Option, Some, None, if◌then◌else◌}
use Rattle.spec_base.specs.declared.spot.BlockSpot.{BlockSpot}
use Rattle.spec_base.specs.declared.spot.ReadSpot.{ReadSpot}
use Rattle.spec_base.specs.declared.note.Note.{Note}
use Rattle.spec_base.specs.declared.note.Note.TheVariants as notes
use Rattle.trace_text.specs.declared.trace_line.TraceBody.{TraceBody}
use Rattle.trace_text.specs.declared.trace_line.TraceBody.TheVariants as bodies
use Rattle.trace_text.specs.declared.trace_line.TraceLine.{TraceLine}
use Rattle.program_model.specs.Cache.{same_block, holds, blocks_of}

-- the read of a note that needs blocks
abbrev pub read_noted : Note → Option ReadSpot
read_noted (notes.Match spot) = Some spot
read_noted (notes.Restart spot) = Some spot
read_noted note = None

-- the read of a line that needs blocks: that of a match or a restart
abbrev pub read_in : TraceBody → Option ReadSpot
read_in (bodies.Note note) = read_noted note
read_in body = None

-- its blocks, ascending
abbrev pub blocks_in : Option ReadSpot → List BlockSpot
blocks_in None = []
blocks_in (Some spot) = blocks_of spot

-- the blocks that the lines need, in order
abbrev pub needed_blocks : List TraceLine → List BlockSpot
needed_blocks [] = []
needed_blocks (line ∷ lines) = blocks_in (read_in line.body) ++ needed_blocks lines

-- the blocks seen so far, by first appearance, and the numbers of the needs so far
pub record Numbers : Type 0 where
  pub seen : List BlockSpot
  pub numbers : List ℕ

-- the place of a block in a list; its length where it isn't there
abbrev pub place_of : List BlockSpot → BlockSpot → ℕ
place_of [] spot = 0
place_of (x ∷ xs) spot = if same_block x spot then 0 else 1 + place_of xs spot

-- a list with the block at its end, if it wasn't there
abbrev pub with_seen : List BlockSpot → BlockSpot → List BlockSpot
with_seen seen spot = if holds seen spot then seen else seen ++ spot ∷ []

-- one more need: its number is its place
abbrev pub noted : Numbers → BlockSpot → Numbers
noted n spot = record { seen = with_seen n.seen spot; numbers = n.numbers ++ place_of (with_seen n.seen spot) spot ∷ [] }

abbrev pub all_noted : Numbers → List BlockSpot → Numbers
all_noted n [] = n
all_noted n (spot ∷ spots) = all_noted (noted n spot) spots

-- no need yet
abbrev pub no_numbers : Numbers
no_numbers = record { seen = []; numbers = [] }

-- the numbers of the needs, from 0 by first appearance
abbrev pub numbered : List BlockSpot → List ℕ
numbered spots = (all_noted no_numbers spots).numbers
