use Rattle.std.proofs.Common.{◌∙◌, sym, arith}
use Rattle.trace_text.proofs.NumberLaws.{number_after-begins, number_in-leading, number_after-more, number_after-other, number_after-overflow, number_after-fits, number_after-large}
use Rattle.trace_text.proofs.numbers.decimal_within.Goals as goal

pub returns-then-not-begins_as_number-clause-value : goal.returns-then-not-begins_as_number-clause-value
returns-then-not-begins_as_number-clause-value c =
    sym (number_in-leading 10 c.args.most c.args.word.now (sym c.begins_as_number.ensures ∙ c.if-not-begins_as_number.true))

pub loop-byte-init : goal.loop-byte-init
loop-byte-init c =
    number_after-begins 10 c.args.most c.args.word.now (sym c.begins_as_number.ensures ∙ c.if-not-begins_as_number.false)

pub returns-then-digit-ge10-clause-value : goal.returns-then-digit-ge10-clause-value
returns-then-digit-ge10-clause-value c =
    sym (c.loop-byte.invariant
    ∙ number_after-other 10 c.args.most c.loop-byte.value c.args.word.now c.loop-byte.byte-index c.loop-byte-test.true (c.decimal_digit-digit.ensures.other c.if-digit-ge10.true))

pub loop-byte-preserved : goal.loop-byte-preserved
loop-byte-preserved c =
    c.loop-byte.invariant
    ∙ number_after-more 10 c.args.most c.loop-byte.value c.in_ok-value.value c.args.word.now c.loop-byte.byte-index (omega arith) c.loop-byte-test.true
    (omega arith) (omega (arith, c.in_ok-value.ensures))

pub returns-in_err-value-clause-value : goal.returns-in_err-value-clause-value
returns-in_err-value-clause-value c =
    c.from_residual.ensures ∙ sym (c.loop-byte.invariant
    ∙ number_after-overflow 10 c.args.most c.loop-byte.value c.args.word.now c.loop-byte.byte-index (omega arith) (omega arith)
    c.loop-byte-test.true (omega arith) (omega (arith, c.in_err-value.ensures)))

pub returns-then-value-most-clause-value : goal.returns-then-value-most-clause-value
returns-then-value-most-clause-value c =
    sym (c.loop-byte.invariant
    ∙ number_after-fits 10 c.args.most c.loop-byte.value c.args.word.now c.loop-byte.byte-index c.loop-byte-test.false c.if-value-most.true)

pub returns-else-value-most-clause-value : goal.returns-else-value-most-clause-value
returns-else-value-most-clause-value c =
    sym (c.loop-byte.invariant
    ∙ number_after-large 10 c.args.most c.loop-byte.value c.args.word.now c.loop-byte.byte-index (omega arith) c.loop-byte-test.false c.if-value-most.false)
