use Rattle.std.proofs.Common.{◌≡◌, ◌+◌, ◌-◌, ◌<◌, ◌++◌, arith}
use Rattle.spec_base.specs.Word.{bytes_of}
use Rattle.program_loader.proofs.WordBytes.{byte-more, word-more}
use Rattle.program_loader.proofs.start.push_word.Goals as goal

pub loop-preserved : goal.loop-preserved
loop-preserved c =
    let some : 0 < 8 - c.loop.counter = omega (arith, c.loop-test.true) in
    let left : 8 - (c.loop.counter + 1) ≡ 8 - c.loop.counter - 1 = omega arith in
    let next = byte-more (8 - c.loop.counter) c.loop.rest c.loop.bytes.items (c.args.bytes.now.items ++ bytes_of 8 c.args.word) some c.loop.invariant in
    rw (left, c.in_ok-push.ensures.items) next

pub returns : goal.returns
returns c =
    let none : 8 - c.loop.counter ≡ 0 = omega (arith, c.loop-test.false, c.loop.auto.counter-end) in
    word-more c.loop.bytes.items c.args.bytes.now.items (8 - c.loop.counter) c.loop.rest c.args.word none c.loop.invariant
