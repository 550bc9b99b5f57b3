use Rattle.std.proofs.Common.{sym, ap, ◌∙◌, arith}
use Rattle.command_words.specs.Values.{pattern_in}
use Rattle.command_words.proofs.ValueLaws.{pattern_in-read, finished-None}
use Rattle.command_words.proofs.pattern.read_pattern.Goals as goal

pub returns-then-not-branch : goal.returns-then-not-branch
returns-then-not-branch c =
    let letter = rw c.in-Some.is at c.move_of.ensures in
    let read = rw c.if-not-branch.true at c.in_ok-read_all.ensures in
    sym (ap pattern_in (sym c.as_bytes.ensures.value)
    ∙ pattern_in-read c.as_bytes.result.now c.in-Some.first c.new.result.items _ c.in-len1-up.len_at_least letter c.new.ensures.items read)

pub returns-in_default-2 : goal.returns-in_default-2
returns-in_default-2 c =
    let letter = rw c.in-Some.is at c.move_of.ensures in
    let read = rw c.if-not-branch.false at c.in_ok-read_all.ensures in
    sym (ap pattern_in (sym c.as_bytes.ensures.value)
    ∙ pattern_in-read c.as_bytes.result.now c.in-Some.first c.new.result.items _ c.in-len1-up.len_at_least letter c.new.ensures.items read
    ∙ finished-None c.read_all.new.self (sym c.in_default-2.is ∙ c.in_ok-pattern.ensures))
