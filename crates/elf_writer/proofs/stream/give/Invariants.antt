use Rattle.std.proofs.Common.{◌≡◌, length}
use Rattle.elf_writer.proofs.StreamLemmas.{Toward}
use Rattle.elf_writer.proofs.stream.give.Given as goal

abbrev pub invariant-loop-rest : goal.invariant-loop-rest
invariant-loop-rest g l = record {
  toward : Toward (g.S.Staging.size l.fn.staging) (g.S.Staging.held l.fn.staging) (g.O.Sink.state l.fn.sink) l.bytes l.rest (g.S.Staging.held l.staging) (g.O.Sink.state l.sink);
  size : g.S.Staging.size l.staging ≡ g.S.Staging.size l.fn.staging;
}

abbrev pub decreases-loop-rest : goal.decreases-loop-rest
decreases-loop-rest g l = length l.rest
