use Rattle.std.proofs.Common.{rules}
use Rattle.program_driver.proofs.Lining.{first-LineLog, took-LineLog, failed-PutsLine, whole-PutsLine}
use Rattle.program_driver.proofs.lines.put_line.Goals as goal

pub loop-rest-init : goal.loop-rest-init
loop-rest-init g c = first-LineLog (g.K.Sink.state c.args.sink.now) c.args.line.now

pub loop-rest-preserved : goal.loop-rest-preserved
loop-rest-preserved g c =
    took-LineLog _ _ _ c.args.line.now c.loop-rest.rest.now c.loop-rest.invariant c.in-Took.count (c.in-Took.ensures.some (search rules)) c.in-Took.ensures.sure

pub returns-in-Failed : goal.returns-in-Failed
returns-in-Failed g c =
    failed-PutsLine _ _ _ c.args.line.now c.loop-rest.rest.now c.loop-rest.invariant (c.in-Failed.ensures.some (search rules)) c.in-Failed.ensures.sure

pub returns : goal.returns
returns g c = whole-PutsLine _ _ c.args.line.now c.loop-rest.rest.now c.loop-rest.invariant (search rules)
