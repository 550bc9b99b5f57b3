use Rattle.std.proofs.Common.{sym, ◌∙◌}
use Rattle.command_words.specs.Values.{read_byte}
use Rattle.command_words.proofs.Steps.{read_all-step, read_all-refused, read_all-end}
use Rattle.command_words.proofs.pattern.Items.read_all.Goals as goal

pub returns-then-not-branch : goal.returns-then-not-branch
returns-then-not-branch c =
    let refused = rw c.if-not-branch.true at c.in_ok-read_byte.ensures in
    sym (c.loop-byte.invariant ∙ read_all-refused read_byte c.loop-byte.self c.args.bytes.now c.loop-byte.byte-index 0 c.loop-byte-test.true refused)

pub loop-byte-preserved : goal.loop-byte-preserved
loop-byte-preserved c =
    let taken = rw c.if-not-branch.false at c.in_ok-read_byte.ensures in
    c.loop-byte.invariant ∙ read_all-step read_byte c.loop-byte.self _ c.args.bytes.now c.loop-byte.byte-index 0 c.loop-byte-test.true taken

pub returns : goal.returns
returns c = sym (c.loop-byte.invariant ∙ read_all-end read_byte c.loop-byte.self c.args.bytes.now c.loop-byte.byte-index c.loop-byte-test.false)
