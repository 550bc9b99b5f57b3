use Rattle.std.proofs.Common.{◌≡◌, ◌++◌, map, take, drop}
use Rattle.run_loader.proofs.parts.ungate.Given as goal
use Rattle.elf_writer.specs.ProgramCode.{ungated_word}

abbrev pub invariant-loop-word : goal.invariant-loop-word
invariant-loop-word l = l.words ≡ map ungated_word (take l.word-index l.initial.words) ++ drop l.word-index l.initial.words
