-- What putting bytes through a buffer does to a sink (this project's own).
use Rattle.std.specs.Prelude.{◌≡◌, ◌≢◌, ℕ, ◌+◌, ◌-◌, ◌%◌, Bool, true, false, List, [], ◌∷◌, ◌++◌, length, take, drop, Option, Some, None}
use Rattle.world_io.specs.Outside.{SinkState}
use Rattle.world_io.specs.Logs.{Piece, SinkLog, bytes_of}

-- ---- what the puts offered, in order: those that took these pieces, and then, where there is one, a put that failed

-- each was offered what was left of the text
abbrev pub AreRests : List ℕ → List Piece → Option (List ℕ) → Type 0
AreRests text [] None = Unit {0}
AreRests text [] (Some last) = last ≡ text
AreRests text (p ∷ ps) fault = (p.offered ≡ text) × AreRests (drop p.taken text) ps fault

-- a text is cut into buffers of `size` bytes, and `at` bytes of it are gone: each put was offered what was left of its buffer
abbrev pub AreBuffered : ℕ → ℕ → List ℕ → List Piece → Option (List ℕ) → Type 0
AreBuffered size at text [] None = Unit {0}
AreBuffered size at text [] (Some last) = last ≡ take (size - at % size) text
AreBuffered size at text (p ∷ ps) fault = (p.offered ≡ take (size - at % size) text) × AreBuffered size (at + p.taken) (drop p.taken text) ps fault

-- the same however the text goes on: each of these buffers was full
abbrev pub AreFull : ℕ → List ℕ → List Piece → Option (List ℕ) → Type 0
AreFull size text ps fault = (more : List ℕ) → AreBuffered size 0 (text ++ more) ps fault

-- and none of them is left in part
abbrev pub AreWholeBuffers : ℕ → List ℕ → List Piece → Option (List ℕ) → Type 0
AreWholeBuffers size text ps fault = AreFull size text ps fault × (length (bytes_of ps) % size ≡ 0)

-- ---- how far a text has come

-- these puts took it up to the rest, and none failed
pub record Came (Offers : List Piece → Option (List ℕ) → Type 0) (old : SinkState) (text rest : List ℕ) (new : SinkState) : Type 0 where
  pub pieces : List Piece
  pub log : SinkLog old pieces None new
  pub offers : Offers pieces None
  pub whole : bytes_of pieces ++ rest ≡ text

-- a put failed before its end, and was the last
pub record Stopped (Offers : List Piece → Option (List ℕ) → Type 0) (old new : SinkState) : Type 0 where
  pub pieces : List Piece
  pub last : List ℕ
  pub some : last ≢ []
  pub log : SinkLog old pieces (Some last) new
  pub offers : Offers pieces (Some last)

-- ---- what calls do

-- a text was put whole, each put offering what was left, or up to a put that failed
abbrev pub PutsRests : SinkState → List ℕ → Bool → SinkState → Type 0
PutsRests old text true new = Came (AreRests text) old text [] new
PutsRests old text false new = Stopped (AreRests text) old new

-- bytes joined those that were held back in a buffer of `size` bytes, and full buffers were put; or a put failed
abbrev pub Gives : ℕ → List ℕ → SinkState → List ℕ → Bool → List ℕ → SinkState → Type 0
Gives size held old bytes true now new = Came (AreWholeBuffers size (held ++ bytes)) old (held ++ bytes) now new
Gives size held old bytes false now new = Stopped (AreFull size (held ++ bytes)) old new

-- a text was put by buffers of `size` bytes, whole or up to a put that failed
abbrev pub PutsBuffered : ℕ → SinkState → List ℕ → Bool → SinkState → Type 0
PutsBuffered size old text true new = Came (AreBuffered size 0 text) old text [] new
PutsBuffered size old text false new = Stopped (AreBuffered size 0 text) old new
