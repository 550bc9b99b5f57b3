-- Schedules: a pattern of moves that is repeated (this project's own).
use Rattle.std.specs.Prelude.{ℕ, zero, suc, List, [], ◌∷◌, ◌++◌, replicate}
use Rattle.spec_base.specs.declared.note.Move.{Move}

-- a pattern is a list of items, each a move and how often it is made
abbrev pub Pattern : Type 0
Pattern = List (Move × ℕ)

-- the moves of one round
abbrev pub one_round : Pattern → List Move
one_round [] = []
one_round (item ∷ items) = replicate item.1 item.0 ++ one_round items

-- the first n moves of a list that goes on with rounds of a pattern
abbrev pub rounds : List Move → List Move → ℕ → List Move
rounds round moves zero = []
rounds round (m ∷ moves) (suc n) = m ∷ rounds round moves n
rounds [] [] (suc n) = []
rounds (m ∷ round) [] (suc n) = m ∷ rounds (m ∷ round) round n

-- the first n moves of a repeated pattern
abbrev pub pattern_moves : Pattern → ℕ → List Move
pattern_moves items n = rounds (one_round items) [] n
