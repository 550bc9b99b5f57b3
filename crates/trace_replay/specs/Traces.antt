-- The totals of a trace's bytes (this project's own).
use Rattle.std.specs.Prelude.{ℕ, List, Result, Ok, Err}
use Rattle.trace_text.specs.declared.trace_line.TraceLine.{TraceLine}
use Rattle.trace_text.specs.Lines.{trace_in}
use Rattle.trace_replay.specs.Replays.{Settings, Replayed, fresh, lines_again}
use Rattle.trace_replay.specs.Totals.{totals_of}
use Rattle.trace_replay.specs.declared.totals.Totals.{Totals}

-- the totals once what the lines say is fed too, or the number of the first bad line
abbrev pub totals_by : Settings → Replayed → Result (List TraceLine) ℕ → Result Totals ℕ
totals_by s r (Ok lines) = Ok (totals_of (lines_again s r lines))
totals_by s r (Err bad) = Err bad

-- the totals of all lines of a trace, or the number of the first bad one
abbrev pub trace_totals : Settings → List ℕ → Result Totals ℕ
trace_totals s bytes = totals_by s fresh (trace_in bytes)
