use Rattle.std.proofs.Common.{◌≡◌, replicate}
use Rattle.elf_writer.proofs.StreamLemmas.{Toward}
use Rattle.elf_writer.proofs.stream.give_zeros.Given as goal

abbrev pub invariant-loop-left : goal.invariant-loop-left
invariant-loop-left g l = record {
  toward : Toward (g.S.Staging.size l.fn.staging) (g.S.Staging.held l.fn.staging) (g.O.Sink.state l.fn.sink) (replicate l.fn.count 0) (replicate l.left 0) (g.S.Staging.held l.staging) (g.O.Sink.state l.sink);
  size : g.S.Staging.size l.staging ≡ g.S.Staging.size l.fn.staging;
}

abbrev pub decreases-loop-left : goal.decreases-loop-left
decreases-loop-left g l = l.left
