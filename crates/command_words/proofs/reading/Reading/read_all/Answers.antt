use Rattle.std.proofs.Common.{map, string_bytes, sym, ◌∙◌, []}
use Rattle.command_words.specs.CommandLine.{read_word}
use Rattle.command_words.proofs.Steps.{read_all-step, read_all-refused, read_all-end}
use Rattle.command_words.proofs.WordLaws.{bytes_at, within, past}
use Rattle.command_words.proofs.reading.Reading.read_all.Goals as goal

pub returns-then-not-branch : goal.returns-then-not-branch
returns-then-not-branch c =
    let words = c.args.words.now in
    let i = c.loop-word.word-index in
    let bytes = c.deref.ensures ∙ bytes_at words i c.word-item.result c.loop-word-test.true c.word-item.is in
    let refused = rw (c.if-not-branch.true, bytes) at c.in_ok-read_word.ensures in
    sym (c.loop-word.invariant ∙ read_all-refused (read_word c.args.command) c.loop-word.self (map string_bytes words) i [] (within words i c.loop-word-test.true) refused)

pub loop-word-preserved : goal.loop-word-preserved
loop-word-preserved c =
    let words = c.args.words.now in
    let i = c.loop-word.word-index in
    let bytes = c.deref.ensures ∙ bytes_at words i c.word-item.result c.loop-word-test.true c.word-item.is in
    let taken = rw (c.if-not-branch.false, bytes) at c.in_ok-read_word.ensures in
    c.loop-word.invariant ∙ read_all-step (read_word c.args.command) c.loop-word.self _ (map string_bytes words) i [] (within words i c.loop-word-test.true) taken

pub returns : goal.returns
returns c =
    let words = c.args.words.now in
    sym (c.loop-word.invariant ∙ read_all-end (read_word c.args.command) c.loop-word.self (map string_bytes words) c.loop-word.word-index (past words c.loop-word.word-index c.loop-word-test.false))
