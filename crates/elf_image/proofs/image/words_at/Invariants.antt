use Rattle.std.proofs.Common.{◌≡◌}
use Rattle.elf_image.specs.Image.{words_at}
use Rattle.elf_image.proofs.image.words_at.Given as goal

abbrev pub invariant-loop-i : goal.invariant-loop-i
invariant-loop-i l = l.words.items ≡ words_at l.offset l.i l.bytes
