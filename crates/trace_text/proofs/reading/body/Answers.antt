use Rattle.std.proofs.Common.{refl}
use Rattle.trace_text.proofs.LineLaws.{body_in-more}
use Rattle.trace_text.proofs.reading.body.Goals as goal

pub returns-in_err-keyword_named-in-Some-clause-value : goal.returns-in_err-keyword_named-in-Some-clause-value
returns-in_err-keyword_named-in-Some-clause-value c =
    rw (c.from_residual.ensures, c.in-Some.ensures, body_in-more, ← c.in_err-keyword_named-in-Some.ensures) refl

pub returns-in_ok-keyword_named-in-Some-clause-value : goal.returns-in_ok-keyword_named-in-Some-clause-value
returns-in_ok-keyword_named-in-Some-clause-value c =
    rw (c.in-Some.ensures, body_in-more, ← c.in_ok-keyword_named-in-Some.ensures) c.body_behind.ensures.value
