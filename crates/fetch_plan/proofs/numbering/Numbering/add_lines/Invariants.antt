use Rattle.std.proofs.Common.{drop}
use Rattle.fetch_plan.proofs.Noting.{InLines}
use Rattle.fetch_plan.proofs.numbering.Numbering.add_lines.Given as goal

abbrev pub invariant-loop-line : goal.invariant-loop-line
invariant-loop-line l = InLines l.lines (drop l.line-index l.lines) l.self
