-- What closing code does to its words, jump by jump (this project's own).
use Rattle.std.specs.Prelude.{◌≡◌, ◌≢◌, ℕ, ◌<◌, IsTrue, Option, Some, List, [], ◌∷◌, length, slice_index}
use Rattle.std.specs.List.{All}
use Rattle.rv_decode.specs.Encoding.{word_of}
use Rattle.rv_encode.specs.Code.{Code, place_of, reaches, distance, with_distance}
use Rattle.rv_encode.specs.declared.closing.Use.{Use}

-- the jump's label has a place that the jump reaches, and the word of the jump goes there
pub record IsResolved (places : List (Option ℕ)) (words : List ℕ) (u : Use) : Type 0 where
  pub place : ℕ
  pub bound : place_of places u.to ≡ Some place
  pub near : IsTrue (reaches u.instr u.at place)
  pub word : slice_index words u.at ≡ word_of (with_distance u.instr (distance u.at place))

-- each jump is resolved, and the other words are those that were pushed
pub record LabelsResolved (code : Code) (words : List ℕ) : Type 0 where
  pub as_many : length words ≡ length code.words
  pub jumps : All (IsResolved code.places words) code.uses
  pub others : (k : ℕ) → All (λ u. u.at ≢ k) code.uses → slice_index words k ≡ slice_index code.words k

-- the jumps come in the order of their words
abbrev pub Ascend : List Use → Type 0
Ascend [] = Unit {0}
Ascend (u ∷ us) = All (λ v. u.at < v.at) us × Ascend us
