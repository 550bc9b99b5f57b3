use Rattle.std.proofs.Common.{refl}
use Rattle.rewritten_reader.proofs.MatchLemmas.{takes-more}
use Rattle.rewritten_reader.proofs.matching.MatchingSink.put.Goals as goal

pub returns-then-count-gt0-clause-some : goal.returns-then-count-gt0-clause-some
returns-then-count-gt0-clause-some c = λ some. (
  c.if-count-gt0.true,
  c.common_length-count.ensures.in_bytes,
  refl,
  takes-more c.self.inside.file.now c.self.inside.at c.common_length-count.result c.args.bytes.now c.self.inside.other c.self.inside.faults c.args.self.now
      c.self.view_is c.if-is_some.ensures c.common_length-count.ensures.same,
)
