use Rattle.std.proofs.Common.{length}
use Rattle.elf_writer.proofs.StreamLemmas.{RestsLog}
use Rattle.elf_writer.proofs.stream.put_rests.Given as goal

abbrev pub invariant-loop-rest : goal.invariant-loop-rest
invariant-loop-rest g l = RestsLog (g.O.Sink.state l.fn.sink) l.bytes l.rest (g.O.Sink.state l.sink)

abbrev pub decreases-loop-rest : goal.decreases-loop-rest
decreases-loop-rest g l = length l.rest
