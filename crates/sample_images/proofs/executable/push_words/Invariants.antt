-- The bytes are those before, and those of the words so far.
use Rattle.std.proofs.Common.{◌≡◌, ◌++◌, take}
use Rattle.sample_images.specs.Executables.{text_bytes}
use Rattle.sample_images.proofs.executable.push_words.Given as goal

abbrev pub invariant-loop-word : goal.invariant-loop-word
invariant-loop-word l = l.bytes.items ≡ l.initial.bytes.items ++ text_bytes (take l.word-index l.words)
