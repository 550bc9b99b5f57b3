use Rattle.std.proofs.Common.{length}
use Rattle.program_driver.proofs.Lining.{LineLog}
use Rattle.program_driver.proofs.lines.put_line.Given as goal

abbrev pub invariant-loop-rest : goal.invariant-loop-rest
invariant-loop-rest g l = LineLog (g.K.Sink.state l.fn.sink) l.line l.rest (g.K.Sink.state l.sink)

abbrev pub decreases-loop-rest : goal.decreases-loop-rest
decreases-loop-rest g l = length l.rest
