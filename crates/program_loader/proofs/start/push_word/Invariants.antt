use Rattle.std.proofs.Common.{◌≡◌, ◌-◌, ◌++◌}
use Rattle.spec_base.specs.Word.{bytes_of}
use Rattle.program_loader.proofs.start.push_word.Given as goal

abbrev pub invariant-loop : goal.invariant-loop
invariant-loop l = l.bytes.items ++ bytes_of (8 - l.counter) l.rest ≡ l.fn.bytes.items ++ bytes_of 8 l.word
