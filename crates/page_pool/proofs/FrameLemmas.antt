-- Lemmas on the frames of a pool, for its callers.
use Rattle.std.proofs.Common.{◌≡◌, ◌≢◌, ℕ, ◌<◌, List, length, [], Option, Some, None, IsSome, unwrap_or, refl, sym, subst, inl, inr}
use Rattle.std.proofs.lemmas.Bool.{cases_lt}
use Rattle.std.proofs.lemmas.List.{get_or_past, get_or-set_same, get_or-set_other}
use Rattle.page_pool.specs.Frames.{Frames, frame_at, bytes_at, with_bytes, IsInUse, KeepsOthers, IsTaken, IsWritten}

-- ── A frame in use ──

not_some : {A : Type 0} (o : Option A) → o ≡ None → IsSome o → ⊥
not_some o none some = cc

-- its number is below the length of the list
pub IsInUse-within : (p : Frames) (k : ℕ) → IsInUse p k → k < length p.frames
IsInUse-within p k used =
    elim (cases_lt k (length p.frames)) [
      | inl within ↦ within
      | inr past ↦ absurd (not_some (frame_at p k) (get_or_past p.frames k None past) used)
    ]

some_of : (o : Option (List ℕ)) → IsSome o → o ≡ Some (unwrap_or o [])
some_of None used = absurd (let none : Option (List ℕ) = None in not_some none refl used)
some_of (Some bytes) used = refl

-- and it has bytes
pub frame_at-IsInUse : (p : Frames) (k : ℕ) → IsInUse p k → frame_at p k ≡ Some (bytes_at p k)
frame_at-IsInUse p k used = some_of (frame_at p k) used

-- a frame that was in use isn't the one that was taken
pub IsTaken-apart : (old new : Frames) (k other : ℕ) → IsTaken old new k → IsInUse old other → other ≢ k
IsTaken-apart old new k other taken used e =
    not_some (frame_at old k) taken.was_free (subst (λ n. IsInUse old n) e used)

-- what holds of the other frames' being in use
pub KeepsOthers-IsInUse : (old new : Frames) (k other : ℕ) → KeepsOthers old new k → other ≢ k → IsInUse old other → IsInUse new other
KeepsOthers-IsInUse old new k other keeps apart used = subst IsSome (sym (keeps other apart)) used

-- ── Written through a reference ──

pub IsWritten-with_bytes : (p : Frames) (k : ℕ) (bytes : List ℕ) → IsInUse p k → IsWritten p (with_bytes p k bytes) k bytes
IsWritten-with_bytes p k bytes used =
    let within : k < length p.frames = IsInUse-within p k used in
    record {
      holds = get_or-set_same p.frames k (Some bytes) None within;
      others = λ other apart. get_or-set_other p.frames k other (Some bytes) None apart;
      in_use = refl;
      spare = refl;
      most = refl;
    }
