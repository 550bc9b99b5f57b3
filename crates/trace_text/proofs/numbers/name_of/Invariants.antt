use Rattle.std.proofs.Common.{◌≡◌, length, take}
use Rattle.trace_text.specs.Grammar.{pairs}
use Rattle.trace_text.proofs.numbers.name_of.Given as goal

-- the first bytes are those that the first pairs write
abbrev pub invariant-loop-i : goal.invariant-loop-i
invariant-loop-i l = record { long : length l.bytes ≡ 255; so_far : take l.i l.bytes ≡ take l.i (pairs l.word) }
