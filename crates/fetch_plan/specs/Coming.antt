-- The blocks that are held and needed again, each at the place of its next need: how the table of places is read and changed.
use Rattle.std.specs.Prelude.{◌≡◌, ◌≢◌, ℕ, List, length, Option, Some, None, MatchOption, slice_index_or}

-- the block at a place, if there is one
abbrev pub at_place : List (Option ℕ) → ℕ → Option ℕ
at_place coming place = slice_index_or coming place None

-- the block of a place was taken out
pub record IsEmptied (old new : List (Option ℕ)) (place block : ℕ) : Type 0 where
  pub had : at_place old place ≡ Some block
  pub gone : at_place new place ≡ None
  pub others : (q : ℕ) → q ≢ place → at_place new q ≡ at_place old q
  pub size : length new ≡ length old

-- if there was one, and nothing was changed otherwise
abbrev pub IsTakenAt : List (Option ℕ) → List (Option ℕ) → ℕ → Option ℕ → Type 0
IsTakenAt old new place taken = MatchOption taken ((at_place old place ≡ None) × (new ≡ old)) (IsEmptied old new place)
