use Rattle.std.proofs.Common.{◌≡◌}
use Rattle.rv_encode.proofs.tests.push_words.Given as goal

abbrev pub invariant-loop : goal.invariant-loop
invariant-loop l = l.code.places ≡ l.initial.code.places
