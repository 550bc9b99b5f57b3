-- What is printed is read again (this project's own).
use Rattle.std.specs.Prelude.{◌≡◌, ℕ, ◌^◌, ◌<◌, ◌≤◌, ◌⊎◌, ℤ, pos, negsuc, List, [], ◌∷◌, length, codes, decimal, Some, ⊤}
use Rattle.std.specs.List.{AllByRecursion}
use Rattle.spec_base.specs.declared.note.Note.{Note}
use Rattle.spec_base.specs.declared.note.Note.TheVariants as notes
use Rattle.spec_base.specs.declared.spot.ReadSpot.{ReadSpot}
use Rattle.spec_base.specs.declared.spot.BlockSpot.{BlockSpot}
use Rattle.trace_text.specs.declared.trace_line.TraceBody.{TraceBody}
use Rattle.trace_text.specs.declared.trace_line.TraceBody.TheVariants as bodies
use Rattle.trace_text.specs.declared.trace_line.TraceLine.{TraceLine}
use Rattle.trace_text.specs.Line.{note_words, line_with, line_of, turns_line_of, use_line_of}
use Rattle.trace_text.specs.Grammar.{line_at}

-- numbers below 2^64
abbrev pub IsWord64 : ℕ → Type 0
IsWord64 n = n < 2 ^ 64

-- numbers from -2^63 to 2^63 - 1
abbrev pub IsAnswer : ℤ → Type 0
IsAnswer (pos n) = n < 2 ^ 63
IsAnswer (negsuc n) = n < 2 ^ 63

abbrev pub AreBytes : List ℕ → Type 0
AreBytes bytes = AllByRecursion (λ b. b < 256) bytes

-- a file's name
pub record IsName (name : List ℕ) : Type 0 where
  pub some : 1 ≤ length name
  pub few : length name ≤ 255
  pub bytes : AreBytes name

pub record IsRead (spot : ReadSpot) : Type 0 where
  pub name : IsName spot.name
  pub offset : spot.offset < 2 ^ 56
  pub count : spot.count ≤ 65_536

pub record IsBlock (spot : BlockSpot) : Type 0 where
  pub name : IsName spot.name
  pub block : spot.block < 2 ^ 44

-- bytes that were put on standard output or standard error, with their count
pub record IsPut (to count : ℕ) (text : List ℕ) : Type 0 where
  pub output : (to ≡ 1) ⊎ (to ≡ 2)
  pub counted : count ≡ length text
  pub some : 1 ≤ length text
  pub bytes : AreBytes text

-- the notes that a line is read for; text is what the program put
abbrev pub HasLine : Note → List ℕ → Type 0
HasLine (notes.Call number a0 a1 a2 answer) text = IsWord64 number × IsWord64 a0 × IsWord64 a1 × IsWord64 a2 × IsAnswer answer
HasLine (notes.Text to count) text = IsPut to count text
HasLine (notes.Exit code) text = code ≤ 255
HasLine (notes.Trap trap pc) text = IsWord64 pc
HasLine (notes.Restart spot) text = IsRead spot
HasLine (notes.Match spot) text = IsRead spot
HasLine (notes.Hint spot) text = IsRead spot
HasLine (notes.Fill spot) text = IsRead spot
HasLine (notes.Park cause) text = ⊤
HasLine (notes.Stall spot) text = IsBlock spot
HasLine (notes.Fetch spot) text = IsBlock spot
HasLine (notes.Drop spot) text = IsBlock spot
HasLine (notes.Lost spot) text = IsBlock spot
HasLine notes.Fault text = ⊤

-- the line of a note says the two counts and the note
abbrev pub NoteLinesAreRead : Type 0
NoteLinesAreRead = (own shadow : ℕ) (note : Note) (text : List ℕ) → IsWord64 own → IsWord64 shadow → HasLine note text
    → line_at (line_of own shadow note text) ≡ Some (record { own = own; shadow = shadow; body = bodies.Note note })

abbrev pub TurnsLinesAreRead : Type 0
TurnsLinesAreRead = (own shadow : ℕ) → IsWord64 own → IsWord64 shadow
    → line_at (turns_line_of own shadow) ≡ Some (record { own = own; shadow = shadow; body = bodies.Turns })

abbrev pub UseLinesAreRead : Type 0
UseLinesAreRead = (own shadow number : ℕ) → IsWord64 own → IsWord64 shadow → IsWord64 number
    → line_at (use_line_of own shadow number) ≡ Some (record { own = own; shadow = shadow; body = bodies.Use number })

-- the words of what a line says, behind its counts
abbrev pub body_words : TraceBody → List ℕ → List (List ℕ)
body_words (bodies.Note note) text = note_words note text
body_words (bodies.Use number) text = codes "use" ∷ decimal number ∷ []
body_words bodies.Turns text = codes "turns" ∷ []

-- no bytes are read but the line that is printed of what they say
abbrev pub OnlyPrintedIsRead : Type 0
OnlyPrintedIsRead = (bytes : List ℕ) (l : TraceLine) → line_at bytes ≡ Some l
    → (text : List ℕ) × (bytes ≡ line_with l.own l.shadow (body_words l.body text))
