-- The frames of cached blocks.
use Rattle.std.specs.Prelude.{◌≡◌, ◌≢◌, ℕ, ◌+◌, List, [], ◌∷◌, map, Some, None}
use Rattle.spec_base.specs.declared.spot.BlockSpot.{BlockSpot}
use Rattle.page_pool.specs.Frames.{Frames, frame_at, bytes_at, IsInUse, KeepsOthers}

-- the blocks with the bytes of their frames
abbrev pub shown : Frames → List (BlockSpot × ℕ) → List (BlockSpot × List ℕ)
shown pool entries = map (λ e. (e.0, bytes_at pool e.1)) entries

-- no block has this frame
abbrev pub Misses : List (BlockSpot × ℕ) → ℕ → Type 0
Misses [] frame = Unit {0}
Misses (e ∷ entries) frame = (e.1 ≢ frame) × Misses entries frame

-- each block has a frame of its own, which is in use
abbrev pub HaveFrames : Frames → List (BlockSpot × ℕ) → Type 0
HaveFrames pool [] = Unit {0}
HaveFrames pool (e ∷ entries) = IsInUse pool e.1 × Misses entries e.1 × HaveFrames pool entries

-- frame k, which wasn't in use, is in use with these bytes
pub record IsFilled (old new : Frames) (k : ℕ) (bytes : List ℕ) : Type 0 where
  pub was_free : frame_at old k ≡ None
  pub holds : frame_at new k ≡ Some bytes
  pub others : KeepsOthers old new k
  pub in_use : new.in_use ≡ old.in_use + 1
  pub most : new.most ≡ old.most
