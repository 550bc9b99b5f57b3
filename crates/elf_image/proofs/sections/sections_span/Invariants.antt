use Rattle.std.proofs.Common.{◌≡◌}
use Rattle.elf_image.specs.Sections.{sections_span}
use Rattle.elf_image.proofs.sections.sections_span.Given as goal

abbrev pub invariant-loop-i : goal.invariant-loop-i
invariant-loop-i l = l.span ≡ sections_span l.i l.bytes
