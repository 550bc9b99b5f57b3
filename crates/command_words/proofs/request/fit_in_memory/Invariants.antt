use Rattle.std.proofs.Common.{◌≡◌, ◌+◌, length, take, map, string_bytes}
use Rattle.std.specs.List.{sum_by}
use Rattle.command_words.proofs.request.fit_in_memory.Given as goal

-- what the words so far left of the most bytes
abbrev pub invariant-loop-word : goal.invariant-loop-word
invariant-loop-word l = l.left + sum_by (λ word. length word + 1) (take l.word-index (map string_bytes l.words)) ≡ 65_536
