use Rattle.std.proofs.Common.{◌∙◌, sym, arith}
use Rattle.trace_text.proofs.NumberLaws.{number_after-begins, number_in-leading, number_after-more, number_after-other, number_after-overflow, number_after-fits, number_after-large}
use Rattle.trace_text.proofs.numbers.number.Goals as goal

pub returns-then-not-begins_as_number-clause-value : goal.returns-then-not-begins_as_number-clause-value
returns-then-not-begins_as_number-clause-value c =
    sym (number_in-leading c.args.base c.args.most c.args.word.now (sym c.begins_as_number.ensures ∙ c.if-not-begins_as_number.true))

pub loop-byte-init : goal.loop-byte-init
loop-byte-init c =
    number_after-begins c.args.base c.args.most c.args.word.now (sym c.begins_as_number.ensures ∙ c.if-not-begins_as_number.false)

pub returns-then-digit-base-clause-value : goal.returns-then-digit-base-clause-value
returns-then-digit-base-clause-value c =
    sym (c.loop-byte.invariant
    ∙ number_after-other c.args.base c.args.most c.loop-byte.value c.args.word.now c.loop-byte.byte-index c.loop-byte-test.true (omega arith))

pub loop-byte-preserved : goal.loop-byte-preserved
loop-byte-preserved c =
    c.loop-byte.invariant
    ∙ number_after-more c.args.base c.args.most c.loop-byte.value c.in_ok-value.value c.args.word.now c.loop-byte.byte-index c.requires.few c.loop-byte-test.true
    (omega arith) (omega (arith, c.in_ok-value.ensures))

pub returns-in_err-value-clause-value : goal.returns-in_err-value-clause-value
returns-in_err-value-clause-value c =
    c.from_residual.ensures ∙ sym (c.loop-byte.invariant
    ∙ number_after-overflow c.args.base c.args.most c.loop-byte.value c.args.word.now c.loop-byte.byte-index c.requires.some c.requires.few
    c.loop-byte-test.true (omega arith) (omega (arith, c.in_err-value.ensures)))

pub returns-then-value-most-clause-value : goal.returns-then-value-most-clause-value
returns-then-value-most-clause-value c =
    sym (c.loop-byte.invariant
    ∙ number_after-fits c.args.base c.args.most c.loop-byte.value c.args.word.now c.loop-byte.byte-index c.loop-byte-test.false c.if-value-most.true)

pub returns-else-value-most-clause-value : goal.returns-else-value-most-clause-value
returns-else-value-most-clause-value c =
    sym (c.loop-byte.invariant
    ∙ number_after-large c.args.base c.args.most c.loop-byte.value c.args.word.now c.loop-byte.byte-index c.requires.some c.loop-byte-test.false c.if-value-most.false)
