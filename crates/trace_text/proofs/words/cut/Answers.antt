use Rattle.std.proofs.Common.{arith}
use Rattle.trace_text.proofs.WordLaws.{words_of-cut, words_of-none}
use Rattle.trace_text.proofs.words.cut.Goals as goal

pub returns-then-byte-eq32 : goal.returns-then-byte-eq32
returns-then-byte-eq32 c = words_of-cut c.args.text.now c.loop-i.i c.loop-i-test.true c.if-byte-eq32.true c.loop-i.invariant

pub returns : goal.returns
returns c = words_of-none c.args.text.now (λ k lt. c.loop-i.invariant k (omega (arith, lt, c.loop-i-test.false)))
