-- The words so far are those of the instructions so far; before and behind them all is as it was.
use Rattle.std.proofs.Common.{◌≡◌, ◌++◌, ◌+◌, map, take, drop}
use Rattle.rv_decode.specs.Encoding.{word_of}
use Rattle.shadow_text.proofs.laying.lay.Given as goal

abbrev pub invariant-loop-i : goal.invariant-loop-i
invariant-loop-i l = l.words ≡ take l.at l.initial.words ++ (map word_of (take l.i l.instrs) ++ drop (l.at + l.i) l.initial.words)
