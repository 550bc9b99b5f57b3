use Rattle.std.proofs.Common.{◌≡◌, ◌++◌, map, take, drop}
use Rattle.run_loader.proofs.parts.patch.Given as goal
use Rattle.code_model.specs.Patch.{patched_word}

abbrev pub invariant-loop-word : goal.invariant-loop-word
invariant-loop-word l = l.words ≡ map patched_word (take l.word-index l.initial.words) ++ drop l.word-index l.initial.words
