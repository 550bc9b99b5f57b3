-- The lines of a trace's bytes, and what they say (this project's own).
use Rattle.std.specs.Prelude.{ℕ, ◌+◌, ◌==◌, if◌then◌else◌, List, [], ◌∷◌, Option, Some, None, Result, Ok, Err}
use Rattle.trace_text.specs.declared.trace_line.TraceLine.{TraceLine}
use Rattle.trace_text.specs.Grammar.{with_first, line_at}

-- the lines of a text: each ends with its newline, and bytes behind the last newline are a line without one
unfoldable pub lines_of : List ℕ → List (List ℕ)
lines_of [] = []
lines_of (c ∷ cs) = if c == 10 then (c ∷ []) ∷ lines_of cs else with_first c (lines_of cs)

-- line n says this, and the lines behind it that
abbrev pub said_with : ℕ → Option TraceLine → Result (List TraceLine) ℕ → Result (List TraceLine) ℕ
said_with n None rest = Err n
said_with n (Some line) (Ok lines) = Ok (line ∷ lines)
said_with n (Some line) (Err bad) = Err bad

-- what lines from number n on say, or the number of the first that is no line of a trace
abbrev pub said_from : ℕ → List (List ℕ) → Result (List TraceLine) ℕ
said_from n [] = Ok []
said_from n (line ∷ lines) = said_with n (line_at line) (said_from (n + 1) lines)

-- what all lines of a trace say, or the number of the first bad one, from 1
abbrev pub trace_in : List ℕ → Result (List TraceLine) ℕ
trace_in bytes = said_from 1 (lines_of bytes)
