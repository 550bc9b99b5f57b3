use Rattle.std.proofs.Common.{sym}
use Rattle.trace_text.proofs.LineLaws.{line_in-short}
use Rattle.trace_text.proofs.reading.line_of_words.Goals as goal

pub returns-in_err-second-clause-value : goal.returns-in_err-second-clause-value
returns-in_err-second-clause-value c =
    rw (c.from_residual-in_err-second.ensures, c.in_ok-first.ensures, c.in_err-second.ensures) (sym (line_in-short _ _))
