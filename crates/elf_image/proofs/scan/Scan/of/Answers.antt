use Rattle.elf_image.proofs.ScanLemmas.{IsScan-next}
use Rattle.elf_image.proofs.scan.Scan.of.Goals as goal

pub loop-i-preserved : goal.loop-i-preserved
loop-i-preserved c =
    IsScan-next c.args.limit c.args.bytes.now c.args.start c.loop-i.i c.loop-i.scan c.with-scan.result c.read-entry.result c.loop-i.invariant
    c.read-entry.ensures c.with-scan.ensures
