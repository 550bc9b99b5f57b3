use Rattle.std.proofs.Common.{◌≡◌, drop}
use Rattle.trace_text.specs.Grammar.{number_in}
use Rattle.trace_text.proofs.NumberLaws.{number_after}
use Rattle.trace_text.proofs.numbers.decimal_within.Given as goal

-- the digits so far write the value
abbrev pub invariant-loop-byte : goal.invariant-loop-byte
invariant-loop-byte l = number_in 10 l.most l.word ≡ number_after 10 l.most l.value (drop l.byte-index l.word)
