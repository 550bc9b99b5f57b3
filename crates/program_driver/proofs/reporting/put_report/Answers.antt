use Rattle.std.proofs.Common.{◌≡◌, subst, [], ◌∷◌}
use Rattle.std.specs.Prelude.{IfOk}
use Rattle.trace_text.specs.Report.{report_of}
use Rattle.program_driver.specs.Runs.{counts_of}
use Rattle.program_driver.proofs.Causes.{counts-lines}
use Rattle.program_driver.proofs.reporting.put_report.Goals as goal

pub returns-clause-line : goal.returns-clause-line
returns-clause-line g c w r shows =
    c.put_made.ensures (report_of (counts_of r)) (subst (λ counts. IfOk c.report.result (λ line. line.items ≡ report_of counts)) (c.counts.ensures w r shows) c.report.ensures)

pub returns-clause-counts : goal.returns-clause-counts
returns-clause-counts g c = counts-lines (report_of c.counts.result ∷ []) c.put_made.result (g.E.Sink.state c.args.err.now) (g.E.Sink.state c.put_made.new.sink) (c.put_made.ensures (report_of c.counts.result) c.report.ensures)
