-- The ranges of the reads that lines tell (this project's own).
use Rattle.std.specs.Prelude.{◌^◌, ◌<◌, ◌≤◌, ⊤}
use Rattle.spec_base.specs.declared.spot.ReadSpot.{ReadSpot}
use Rattle.spec_base.specs.declared.note.Note.{Note}
use Rattle.spec_base.specs.declared.note.Note.TheVariants as notes
use Rattle.trace_text.specs.declared.trace_line.TraceBody.{TraceBody}
use Rattle.trace_text.specs.declared.trace_line.TraceBody.TheVariants as bodies

-- a read of at most 65,536 bytes from below 2^56
pub record IsReadInRange (spot : ReadSpot) : Type 0 where
  pub offset : spot.offset < 2 ^ 56
  pub count : spot.count ≤ 65_536

-- the read of a note is in range
abbrev pub IsNoteInRange : Note → Type 0
IsNoteInRange (notes.Match spot) = IsReadInRange spot
IsNoteInRange (notes.Restart spot) = IsReadInRange spot
IsNoteInRange (notes.Hint spot) = IsReadInRange spot
IsNoteInRange (notes.Fill spot) = IsReadInRange spot
IsNoteInRange note = ⊤

-- the read that a line tells is in range
abbrev pub IsInRange : TraceBody → Type 0
IsInRange (bodies.Note note) = IsNoteInRange note
IsInRange body = ⊤
