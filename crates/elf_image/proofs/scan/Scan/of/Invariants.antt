use Rattle.elf_image.specs.Scan.{IsScan}
use Rattle.elf_image.proofs.scan.Scan.of.Given as goal

abbrev pub invariant-loop-i : goal.invariant-loop-i
invariant-loop-i l = IsScan l.limit l.bytes l.start l.i l.scan
