-- What a run of several calls did to a store or a sink, as a log of the calls (this project's own).
use Rattle.spec_base.specs.Listed.{is_listed}
use Rattle.std.specs.Prelude.{◌≡◌, ℕ, ◌+◌, ◌-◌, ◌^◌, ◌≤◌, ◌<◌, Bool, true, false, List, [], ◌∷◌, length, take, min, Option, Some, None, IfSome}
use Rattle.std.specs.List.{flat_map}
use Rattle.world_io.specs.Outside.{StoreState, Numbers, SinkState, KeepsFiles}
use Rattle.world_io.specs.Puts.{PutSays, Fits}
use Rattle.world_io.specs.declared.sink.Put.{Put}
use Rattle.world_io.specs.declared.sink.Put.TheVariants.{Took, Failed}

-- ---- stores: for each call, newest first, whether it failed

-- each call failed exactly where its number is listed
abbrev pub AreListed : Numbers → List Bool → Type 0
AreListed start [] = Unit {0}
AreListed start (failed ∷ log) = (failed ≡ is_listed start.fails (start.calls + length log + 1)) × AreListed start log

-- the numbers after these calls
abbrev pub numbers_after : Numbers → List Bool → Numbers
numbers_after start log = record { calls = start.calls + length log; fails = start.fails }

-- how many of these calls failed
abbrev pub failures : List Bool → ℕ
failures [] = 0
failures (true ∷ log) = failures log + 1
failures (false ∷ log) = failures log

-- these calls, and no others, took the store from old to new
pub record StoreLog (old : StoreState) (log : List Bool) (new : StoreState) : Type 0 where
  pub keeps : KeepsFiles old new
  pub counted : min (old.faults + failures log) (2 ^ 64 - 1) ≤ new.faults
  pub numbers : IfSome old.numbers (λ n. n.calls + length log < 2 ^ 64
      → (new.numbers ≡ Some (numbers_after n log)) × AreListed n log)

-- ---- sinks: the puts, oldest first

-- a put that was made: the bytes that were offered, and the sink's answer
abbrev pub Offer : Type 0
Offer = List ℕ × Put

-- this put took the sink from old to new; within the sure room it is taken whole
pub record IsOffered (old : SinkState) (offer : Offer) (new : SinkState) : Type 0 where
  pub says : PutSays old offer.0 offer.1 new
  pub sure : Fits old.room (length offer.0) → offer.1 ≡ Took (length offer.0)

-- these puts, and no others, took the sink from old to new
abbrev pub AreOffered : SinkState → List Offer → SinkState → Type 0
AreOffered old [] new = new ≡ old
AreOffered old (offer ∷ offers) new = (between : SinkState) × IsOffered old offer between × AreOffered between offers new

-- a put that took some bytes: what it was offered, and how many bytes of that it took
pub record Piece : Type 0 where
  pub offered : List ℕ
  pub taken : ℕ

abbrev pub sizes : Piece → ℕ × ℕ
sizes piece = (length piece.offered, piece.taken)

-- the bytes that these puts took
abbrev pub bytes_of : List Piece → List ℕ
bytes_of pieces = flat_map (λ piece. take piece.taken piece.offered) pieces

-- puts that took these pieces, and then, where there is one, a put of these bytes that failed
abbrev pub offers_of : List Piece → Option (List ℕ) → List Offer
offers_of [] None = []
offers_of [] (Some bytes) = (bytes, Failed) ∷ []
offers_of (piece ∷ pieces) fault = (piece.offered, Took piece.taken) ∷ offers_of pieces fault

-- these pieces were taken, then, where there is one, a put of these bytes failed, and no other put was made
abbrev pub SinkLog : SinkState → List Piece → Option (List ℕ) → SinkState → Type 0
SinkLog old pieces fault new = AreOffered old (offers_of pieces fault) new

-- at least one byte of each piece was taken, and no more than it has
abbrev pub AreTaken : List Piece → Type 0
AreTaken [] = Unit {0}
AreTaken (piece ∷ pieces) = (0 < piece.taken) × (piece.taken ≤ length piece.offered) × AreTaken pieces
