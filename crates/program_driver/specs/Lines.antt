-- Lines, each of which is put by itself until it is whole (this project's own).
use Rattle.std.specs.Prelude.{◌≡◌, ℕ, Bool, true, false, List, [], ◌∷◌, ◌++◌, drop, map, Result, Ok, Err}
use Rattle.spec_base.specs.declared.note.Note.{Note}
use Rattle.trace_text.specs.Line.{line_of}
use Rattle.world_io.specs.Outside.{SinkState}
use Rattle.world_io.specs.Logs.{Offer, AreOffered}
use Rattle.world_io.specs.declared.sink.Put.TheVariants as put
use Rattle.plain_runner.specs.declared.ending.Ending.{Ending}
use Rattle.plain_runner.specs.declared.ending.Ending.TheVariants as ending
use Rattle.program_driver.specs.declared.lines.LineFault.{LineFault}
use Rattle.program_driver.specs.declared.lines.LineFault.TheVariants.{Sink, NoMemory}

-- the bytes of a line
abbrev pub Line : Type 0
Line = List ℕ

-- ---- puts

-- the puts of a line: each offers all that is left of it. The line is whole (true) where nothing is left; else the last put failed, and no other
abbrev pub AreOfLine : Line → List Offer → Bool → Type 0
AreOfLine line [] whole = (line ≡ []) × (whole ≡ true)
AreOfLine line ((bytes, put.Took k) ∷ offers) whole = (bytes ≡ line) × AreOfLine (drop k line) offers whole
AreOfLine line ((bytes, put.Failed) ∷ offers) whole = (bytes ≡ line) × (offers ≡ []) × (whole ≡ false)

-- a line was put: whole (true), or up to a put that failed, which is the last
pub record PutsLine (old : SinkState) (line : Line) (whole : Bool) (new : SinkState) : Type 0 where
  pub offers : List Offer
  pub of_line : AreOfLine line offers whole
  pub puts : AreOffered old offers new

-- these lines were put whole, one after the other
abbrev pub ArePut : SinkState → List Line → SinkState → Type 0
ArePut old [] new = new ≡ old
ArePut old (line ∷ lines) new = (between : SinkState) × PutsLine old line true between × ArePut between lines new

-- ---- lines that aren't all put

-- a put of a line failed, and nothing else was put; or there was no memory for it, and nothing was put
abbrev pub StopsAt : LineFault → SinkState → Line → SinkState → Type 0
StopsAt Sink old line new = PutsLine old line false new
StopsAt NoMemory old line new = new ≡ old

-- of these lines some were put whole, and it stopped at the next one
pub record PutsSome (fault : LineFault) (old : SinkState) (lines : List Line) (new : SinkState) : Type 0 where
  pub whole : List Line
  pub next : Line
  pub rest : List Line
  pub between : SinkState
  pub are : lines ≡ whole ++ next ∷ rest
  pub puts : ArePut old whole between
  pub stops : StopsAt fault between next new

-- all lines were put, or some
abbrev pub LinesTo : List Line → Result (Unit {0}) LineFault → SinkState → SinkState → Type 0
LinesTo lines (Ok done) old new = ArePut old lines new
LinesTo lines (Err fault) old new = PutsSome fault old lines new

-- the ending that it makes
abbrev pub fault_ending : LineFault → Ending
fault_ending Sink = ending.SinkFault
fault_ending NoMemory = ending.NoMemory

-- the ending of a run behind which lines were put, or some
abbrev pub ending_with : Ending → Result (Unit {0}) LineFault → Ending
ending_with ending (Ok done) = ending
ending_with ending (Err fault) = fault_ending fault

-- ---- the lines of notes

-- with the completed own instructions, the shadow's arrivals, and the bytes that the move put
abbrev pub note_lines : ℕ → ℕ → List Note → List ℕ → List Line
note_lines own shadow notes text = map (λ note. line_of own shadow note text) notes
