-- A sink that compares with a file (this project's own).
use Rattle.std.specs.Prelude.{◌≡◌, ◌≢◌, ℕ, ◌≤◌, ◌<◌, List, [], ◌∷◌, ◌++◌, length, take, slice_index, Option, Some, None}
use Rattle.world_io.specs.Outside.{SinkState, Sure}

-- the file, how many bytes were the file's, the one that was taken after them, and the count of faults
pub record MatchState : Type 0 where
  pub file : List ℕ
  pub at : ℕ
  pub other : Option ℕ
  pub faults : ℕ

-- that one, if it was taken
abbrev pub extra : Option ℕ → List ℕ
extra None = []
extra (Some x) = x ∷ []

-- the one that was taken isn't the file's, and before that no put fails
pub record IsMatch (file : List ℕ) (at : ℕ) (other : Option ℕ) (faults : ℕ) : Type 0 where
  pub inside : at ≤ length file
  pub differs : (x : ℕ) → other ≡ Some x → at < length file → slice_index file at ≢ x
  pub steady : other ≡ None → faults ≡ 0

-- it tells the bytes that it took, and that it was made with the file, which no put changes
abbrev pub told_of_match : MatchState → SinkState
told_of_match s = record {
  bytes = Some (take s.at s.file ++ extra s.other);
  puts = None;
  numbers = None;
  room = Sure 0;
  faults = s.faults;
  fixed = s.file;
}
