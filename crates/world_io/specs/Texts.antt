-- What putting a text did to a sink (this project's own).
use Rattle.std.specs.Prelude.{◌≡◌, ◌≢◌, ℕ, Bool, true, false, List, [], ◌∷◌, ◌++◌, drop, Option, Some, None}
use Rattle.world_io.specs.Outside.{SinkState, Room}
use Rattle.world_io.specs.Puts.{Fits}
use Rattle.world_io.specs.Logs.{Piece, SinkLog}

-- at least one byte, and what a text begins with
abbrev pub IsFront : List ℕ → List ℕ → Type 0
IsFront bytes text = (bytes ≢ []) × ((rest : List ℕ) × (bytes ++ rest ≡ text))

-- the puts of a text: each offers a front of what is left of it. It is whole (true) where nothing is left; else the last put failed
abbrev pub AreOf : List ℕ → List Piece → Option (List ℕ) → Bool → Type 0
AreOf text [] None whole = (text ≡ []) × (whole ≡ true)
AreOf text [] (Some bytes) whole = IsFront bytes text × (whole ≡ false)
AreOf text (piece ∷ pieces) fault whole = IsFront piece.offered text × AreOf (drop piece.taken text) pieces fault whole

-- a text was put: whole (true), or up to a put that failed, which is the last
pub record PutsText (old : SinkState) (text : List ℕ) (whole : Bool) (new : SinkState) : Type 0 where
  pub pieces : List Piece
  pub fault : Option (List ℕ)
  pub of_text : AreOf text pieces fault whole
  pub log : SinkLog old pieces fault new

-- a text of n bytes within the sure room is put whole
abbrev pub IsPutSurely : Room → ℕ → Bool → Type 0
IsPutSurely room n whole = Fits room n → whole ≡ true
