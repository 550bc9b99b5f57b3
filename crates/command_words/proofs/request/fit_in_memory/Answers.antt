use Rattle.std.proofs.Common.{map, string_bytes, sym, ◌∙◌, arith}
use Rattle.command_words.proofs.WordLaws.{bytes_at, within, past, left-more, left-over, left-all}
use Rattle.command_words.proofs.request.fit_in_memory.Goals as goal

pub returns-then-length-left : goal.returns-then-length-left
returns-then-length-left c =
    let words = c.args.words.now in
    let i = c.loop-word.word-index in
    let bytes = c.as_str-length.ensures.value ∙ bytes_at words i c.word-item.result c.loop-word-test.true c.word-item.is in
    sym (left-over (map string_bytes words) i c.loop-word.left c.as_str-length.result.now (within words i c.loop-word-test.true) bytes c.loop-word.invariant (omega arith))

pub loop-word-preserved : goal.loop-word-preserved
loop-word-preserved c =
    let words = c.args.words.now in
    let i = c.loop-word.word-index in
    let bytes = c.as_str-length.ensures.value ∙ bytes_at words i c.word-item.result c.loop-word-test.true c.word-item.is in
    let more = left-more (map string_bytes words) i c.loop-word.left c.as_str-length.result.now (within words i c.loop-word-test.true) bytes c.loop-word.invariant (omega arith) in
    more

pub returns : goal.returns
returns c =
    let words = c.args.words.now in
    sym (left-all (map string_bytes words) c.loop-word.word-index c.loop-word.left (past words c.loop-word.word-index c.loop-word-test.false) c.loop-word.invariant)
