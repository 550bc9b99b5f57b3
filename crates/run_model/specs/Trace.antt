-- What a run tells, move by move (this project's own).
use Rattle.std.specs.Prelude.{ℕ, List, [], ◌∷◌, ◌++◌}
use Rattle.spec_base.specs.declared.note.Note.{Note}
use Rattle.run_model.specs.Run.{World, Run, opened_run}
use Rattle.run_model.specs.Moves.{Moves, step}

-- a note, with the completed own instructions and the shadow's arrivals after its move, and the bytes that the move put
pub record Told : Type 0 where
  pub own : ℕ
  pub shadow : ℕ
  pub note : Note
  pub text : List ℕ

-- the notes of the last move
abbrev pub told_by : Run → List Note → List Told
told_by r [] = []
told_by r (n ∷ ns) = record { own = r.own_done; shadow = r.since.shadow; note = n; text = r.text } ∷ told_by r ns

-- the notes of a list of moves from a run on
unfoldable pub trace_from : World → Run → Moves → List Told
trace_from w r [] = []
trace_from w r (m ∷ ms) = let next : Run = step w r m in told_by next next.notes ++ trace_from w next ms

-- the notes of a run
abbrev pub trace : World → Moves → List Told
trace w ms = trace_from w (opened_run w) ms
