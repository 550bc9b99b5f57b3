use Rattle.std.proofs.Common.{◌≡◌, take}
use Rattle.program_model.specs.Loading.{bytes_of_words}
use Rattle.program_loader.proofs.start.bytes_of_words.Given as goal

abbrev pub invariant-loop-word : goal.invariant-loop-word
invariant-loop-word l = l.bytes.items ≡ bytes_of_words (take l.word-index l.words)
