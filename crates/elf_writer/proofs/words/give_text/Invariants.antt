use Rattle.std.proofs.Common.{◌≡◌, drop}
use Rattle.elf_writer.specs.RewrittenFile.{word_bytes}
use Rattle.elf_writer.proofs.StreamLemmas.{Toward}
use Rattle.elf_writer.proofs.words.give_text.Given as goal

abbrev pub invariant-loop-index : goal.invariant-loop-index
invariant-loop-index g l = record {
  toward : Toward (g.S.Staging.size l.fn.staging) (g.S.Staging.held l.fn.staging) (g.O.Sink.state l.fn.sink) (word_bytes (g.C.CodeSource.code l.code).text) (word_bytes (drop l.index (g.C.CodeSource.code l.code).text)) (g.S.Staging.held l.staging) (g.O.Sink.state l.sink);
  size : g.S.Staging.size l.staging ≡ g.S.Staging.size l.fn.staging;
}
