use Rattle.std.proofs.Common.{◌≡◌}
use Rattle.elf_image.specs.Segments.{first_entries, segments_in}
use Rattle.elf_image.proofs.image.collect_segments.Given as goal

abbrev pub invariant-loop-i : goal.invariant-loop-i
invariant-loop-i l = l.segments.items ≡ segments_in (first_entries l.start l.i l.bytes)
