-- A row of lines, computed.
use Rattle.std.proofs.Common.{◌≡◌, ℕ, List, [], ◌∷◌, refl}
use Rattle.spec_base.specs.declared.note.Note.TheVariants as notes
use Rattle.trace_text.specs.declared.trace_line.TraceBody.TheVariants as bodies
use Rattle.trace_text.specs.declared.trace_line.TraceLine.{TraceLine}
use Rattle.trace_replay.specs.Replays.{Settings, finishes, replayed}

abbrev restart : ℕ → ℕ → TraceLine
restart own offset = record { own = own; shadow = 0; body = bodies.Note (notes.Restart (record { name = 97 ∷ []; offset = offset; count = 1 })) }

abbrev hint : ℕ → ℕ → TraceLine
hint own offset = record { own = own; shadow = 0; body = bodies.Note (notes.Hint (record { name = 97 ∷ []; offset = offset; count = 1 })) }

abbrev row : List TraceLine
row = restart 1 4096 ∷ restart 2 8192 ∷ restart 3 12288 ∷ restart 4 4096 ∷ restart 5 8192 ∷ []

abbrev two : Settings
two = record { blocks = 2; depth = 64; every = 1 }

five_stalls : (replayed two row).stalls ≡ 5
unfolding finishes
five_stalls = refl

five_fetches : (replayed two row).fetches ≡ 5
unfolding finishes
five_fetches = refl

-- the time of many instructions passes in few steps, and a hinted block that left before its need is fetched again
abbrev early : List TraceLine
early = hint 1 0 ∷ hint 1 4096 ∷ hint 1 8192 ∷ restart 1000000000000000 0 ∷ []

four_fetches : (replayed two early).fetches ≡ 4
unfolding finishes
four_fetches = refl
