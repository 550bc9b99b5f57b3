-- A worked trace: three reads, each of which restarts, since the shadow never moves.
use Rattle.std.proofs.Common.{◌≡◌, ℕ, List, [], ◌∷◌, pos, refl}
use Rattle.spec_base.specs.declared.note.Note.{Note}
use Rattle.spec_base.specs.declared.note.Note.TheVariants as note
use Rattle.spec_base.specs.declared.spot.ReadSpot.{ReadSpot}
use Rattle.spec_base.specs.declared.spot.BlockSpot.{BlockSpot}
use Rattle.rv_decode.specs.Instruction.{instr_of}
use Rattle.rv_model.specs.Memory.{patched, loaded, bytes_at, all_from}
use Rattle.program_model.specs.Calls.{name_from}
use Rattle.program_model.specs.Cache.{gather}
use Rattle.run_model.specs.Trace.{Told, trace, trace_from}
use Rattle.run_model.proofs.Samples.{name, reads_thrice, rounds}

abbrev read_of : ℕ → ℕ → ReadSpot
read_of offset count = record { name = name; offset = offset; count = count }

abbrev block : ℕ → BlockSpot
block n = record { name = name; block = n }

-- a note of a move that puts nothing
abbrev at : ℕ → Note → Told
at own n = record { own = own; shadow = 0; note = n; text = [] }

trace-reads_thrice :
    trace reads_thrice (rounds 300 0) ≡
    at 5 (note.Call 56 0 0x200000 0 (pos 3))
    ∷ at 10 (note.Restart (read_of 0 4096))
    ∷ at 10 (note.Stall (block 0))
    ∷ at 10 (note.Fetch (block 0))
    ∷ at 11 (note.Call 63 3 0x201000 4096 (pos 4096))
    ∷ at 12 (note.Restart (read_of 4096 904))
    ∷ at 12 (note.Stall (block 1))
    ∷ at 12 (note.Fetch (block 1))
    ∷ at 13 (note.Call 63 3 0x201000 4096 (pos 904))
    ∷ at 14 (note.Restart (read_of 5000 0))
    ∷ at 15 (note.Call 63 3 0x201000 4096 (pos 0))
    ∷ at 17 (note.Exit 0) ∷ []
unfolding trace_from instr_of patched loaded bytes_at all_from name_from gather
trace-reads_thrice = refl
