use Rattle.std.proofs.Common.{subst}
use Rattle.program_driver.specs.Causes.{CountsLines}
use Rattle.program_driver.specs.Traces.{last_lines}
use Rattle.program_driver.specs.Uses.{use_line_if}
use Rattle.program_driver.proofs.Causes.{both-counts}
use Rattle.program_driver.proofs.Lining.{both-lines, first-lines}
use Rattle.program_driver.proofs.tracing.put_lines.Goals as goal

pub returns-in-Err-clause-lines : goal.returns-in-Err-clause-lines
returns-in-Err-clause-lines g c w r shows =
    first-lines (use_line_if c.args.used r) (last_lines r) c.in-Err.fault c.put_use.result (g.O.Sink.state c.args.out.now) (g.O.Sink.state c.put_use.new.out) c.in-Err.is (c.put_use.ensures.line w r shows)

pub returns-in-Err-clause-counts : goal.returns-in-Err-clause-counts
returns-in-Err-clause-counts g c = subst (λ a. CountsLines a (g.O.Sink.state c.args.out.now) (g.O.Sink.state c.put_use.new.out)) c.in-Err.is c.put_use.ensures.counts

pub returns-clause-lines : goal.returns-clause-lines
returns-clause-lines g c w r shows =
    both-lines (use_line_if c.args.used r) (last_lines r) c.put_use.result c.put_told.result (g.O.Sink.state c.args.out.now) (g.O.Sink.state c.put_use.new.out) (g.O.Sink.state c.put_told.new.out)
    c.in_default.not-Err (c.put_use.ensures.line w r shows) (c.put_told.ensures.lines w r shows)

pub returns-clause-counts : goal.returns-clause-counts
returns-clause-counts g c =
    both-counts c.put_told.result c.put_use.result (g.O.Sink.state c.args.out.now) (g.O.Sink.state c.put_use.new.out) (g.O.Sink.state c.put_told.new.out) c.put_use.ensures.counts c.put_told.ensures.counts
