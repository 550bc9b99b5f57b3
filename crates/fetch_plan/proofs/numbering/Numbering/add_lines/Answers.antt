use Rattle.std.proofs.Common.{◌≡◌, ℕ, suc, ◌+◌, ◌<◌, length, List, [], ◌∷◌, drop, get_or, refl, sym, ◌∙◌, ap, subst, drop-cons, add-one}
use Rattle.trace_text.specs.declared.trace_line.TraceLine.{TraceLine}
use Rattle.std.proofs.lemmas.List.{drop_all}
use Rattle.fetch_plan.proofs.Noting.{InLines, line_goes_on, lines_end}
use Rattle.fetch_plan.proofs.numbering.Numbering.add_lines.Goals as goal

-- the lines from one on
from_line : (lines : List TraceLine) (k : ℕ) (item : TraceLine) → k < length lines → item ≡ get_or lines k item → drop k lines ≡ item ∷ drop (k + 1) lines
from_line lines k item within is =
    drop-cons lines k item within ∙ ap (λ x. x ∷ drop (suc k) lines) (sym is) ∙ ap (λ j. item ∷ drop j lines) (sym (add-one k))

pub loop-line-init : goal.loop-line-init
loop-line-init c = record { done = []; has = c.requires.empty; rest = refl }

pub loop-line-preserved : goal.loop-line-preserved
loop-line-preserved c =
    let lines = c.args.lines.now in
    let item = c.line-item.result in
    let k = c.loop-line.line-index in
    let now = c.loop-line.self in
    let before = subst (λ l. InLines lines l now) (from_line lines k item c.loop-line-test.true c.line-item.is) c.loop-line.invariant in
    line_goes_on lines (drop (k + 1) lines) item now c.add_line.new.self c.in_ok-add_line.ensures before

pub returns : goal.returns
returns c =
    let lines = c.args.lines.now in
    let now = c.loop-line.self in
    lines_end lines now (subst (λ l. InLines lines l now) (drop_all c.loop-line.line-index lines c.loop-line-test.false) c.loop-line.invariant)
