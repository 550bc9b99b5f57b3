use Rattle.std.proofs.Common.{length, get_or, sym, ◌∙◌, arith, eq-eqb}
use Rattle.std.proofs.lemmas.Bool.{eqb-true, eqb-false}
use Rattle.trace_text.proofs.LineCuts.{lines_of-cut, lines_of-empty, lines_of-last}
use Rattle.trace_text.proofs.lines.cut_line.Goals as goal

pub returns-in-Some-clause-lines : goal.returns-in-Some-clause-lines
returns-in-Some-clause-lines c =
    let text = c.args.text.now in
    lines_of-cut text c.in-Some.i c.in-Some.ensures.0.high (eqb-true (get_or text c.in-Some.i 0) 10 c.in-Some.ensures.1)
    (λ k lt is. c.in-Some.ensures.0.before k (omega arith) lt (eq-eqb (get_or text k 0) 10 is))

pub returns-in-None-clause-lines : goal.returns-in-None-clause-lines
returns-in-None-clause-lines c =
    lines_of-empty c.args.text.now (eqb-true (length c.args.text.now) 0 (sym c.is_empty.ensures ∙ c.if-is_empty.true))

pub returns-in-None-2-clause-lines : goal.returns-in-None-2-clause-lines
returns-in-None-2-clause-lines c =
    let text = c.args.text.now in
    lines_of-last text
    (eqb-false (length text) 0 (sym c.is_empty.ensures ∙ c.if-is_empty.false))
    (λ k lt is. c.in-None.ensures k (omega arith) lt (eq-eqb (get_or text k 0) 10 is))
