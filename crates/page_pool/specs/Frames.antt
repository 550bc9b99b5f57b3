-- Frames: numbered pages of a pool (this project's own).
use Rattle.std.specs.Prelude.{◌≡◌, ◌≢◌, ℕ, ◌+◌, ◌≤◌, List, [], Option, Some, None, IsSome, unwrap_or, max, slice_index_or, slice_set}
use Rattle.page_pool.specs.Pages.{blank_page}

-- what a pool holds: the bytes of each frame in use, by its number, and how many frames are in use,
-- lie spare, and may be held at most
pub record Frames : Type 0 where
  pub frames : List (Option (List ℕ))
  pub in_use : ℕ
  pub spare : ℕ
  pub most : ℕ

-- the bytes of frame k, where it is in use
abbrev pub frame_at : Frames → ℕ → Option (List ℕ)
frame_at p k = slice_index_or p.frames k None

abbrev pub IsInUse : Frames → ℕ → Type 0
IsInUse p k = IsSome (frame_at p k)

-- the bytes of frame k
abbrev pub bytes_at : Frames → ℕ → List ℕ
bytes_at p k = unwrap_or (frame_at p k) []

-- a pool that may hold so many frames, and holds none
abbrev pub no_frames : ℕ → Frames
no_frames most = record { frames = []; in_use = 0; spare = 0; most = most }

-- the pool with so many spare frames at least
abbrev pub reserved : Frames → ℕ → Frames
reserved p n = record p { spare = max p.spare n }

-- the pool with other bytes in frame k, which is in use
abbrev pub with_bytes : Frames → ℕ → List ℕ → Frames
with_bytes p k bytes = record p { frames = slice_set p.frames k (Some bytes) }

-- every frame but k is as before
abbrev pub KeepsOthers : Frames → Frames → ℕ → Type 0
KeepsOthers old new k = (other : ℕ) → other ≢ k → frame_at new other ≡ frame_at old other

-- frame k is blank and in use, and was spare or not yet made
pub record IsTaken (old new : Frames) (k : ℕ) : Type 0 where
  pub was_free : frame_at old k ≡ None
  pub blank : frame_at new k ≡ Some blank_page
  pub others : KeepsOthers old new k
  pub in_use : new.in_use ≡ old.in_use + 1
  pub spare : new.spare + 1 ≡ old.spare
  pub most : new.most ≡ old.most

-- frame k is in use with these bytes, and was in use with others
pub record IsWritten (old new : Frames) (k : ℕ) (bytes : List ℕ) : Type 0 where
  pub holds : frame_at new k ≡ Some bytes
  pub others : KeepsOthers old new k
  pub in_use : new.in_use ≡ old.in_use
  pub spare : new.spare ≡ old.spare
  pub most : new.most ≡ old.most

-- frame k was in use, and no longer is
pub record IsGiven (old new : Frames) (k : ℕ) : Type 0 where
  pub free : frame_at new k ≡ None
  pub others : KeepsOthers old new k
  pub in_use : new.in_use + 1 ≡ old.in_use
  pub spare : new.spare ≡ old.spare + 1
  pub most : new.most ≡ old.most

-- there are never more frames than the pool may hold
abbrev pub IsWithin : Frames → Type 0
IsWithin p = p.in_use + p.spare ≤ p.most
