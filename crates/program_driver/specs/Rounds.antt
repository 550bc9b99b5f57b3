-- The moves of a repeated pattern that are still to come (this project's own).
use Rattle.std.specs.Prelude.{◌≡◌, ℕ, zero, suc, ◌+◌, ◌≤◌, List, [], ◌∷◌, ◌++◌, length, All}
use Rattle.spec_base.specs.declared.note.Move.{Move}
use Rattle.spec_base.specs.declared.note.Move.TheVariants.{O, S, T, D}
use Rattle.run_model.specs.Patterns.{Pattern, one_round, rounds}

-- ---- the moves of the own hart

abbrev pub own_of : Move → ℕ
own_of O = 1
own_of S = 0
own_of T = 0
own_of D = 0

-- how many of these moves are the own hart's
abbrev pub owns : List Move → ℕ
owns [] = 0
owns (m ∷ moves) = own_of m + owns moves

-- of these moves a front was passed, of which so many are the own hart's
pub record Passes (own : ℕ) (old new : List Move) : Type 0 where
  pub front : List Move
  pub are : old ≡ front ++ new
  pub own_is : owns front ≡ own

-- ---- the moves that come next

-- the items that come next: those that are still to come in a round, or else those of the next round
abbrev pub items_or : Pattern → Pattern → Pattern
items_or pattern [] = pattern
items_or pattern (item ∷ items) = item ∷ items

-- the same behind so many moves of the own hart
abbrev pub items_from : Pattern → ℕ → Pattern → Pattern
items_from pattern zero items = items_or pattern items
items_from pattern (suc n) items = (O, suc n) ∷ items

-- the moves of these items, then rounds of a pattern: the first n of these moves
abbrev pub moves_from : Pattern → Pattern → ℕ → List Move
moves_from pattern items n = rounds (one_round pattern) (one_round items) n

-- each item is made at least once
abbrev pub HasMoves : Pattern → Type 0
HasMoves items = All (λ item. 1 ≤ item.1) items

-- a pattern with a move, items of it that are still to come, and how many moves a round has and how many of these are the own hart's
pub record IsRepeated (pattern items : Pattern) (moves own : ℕ) : Type 0 where
  pub some : 1 ≤ length pattern
  pub pattern_moves : HasMoves pattern
  pub item_moves : HasMoves items
  pub moves_are : moves ≡ length (one_round pattern)
  pub own_are : own ≡ owns (one_round pattern)
