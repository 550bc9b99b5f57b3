use Rattle.elf_image.proofs.ImageLemmas.{segments-next}
use Rattle.elf_image.proofs.image.collect_segments.Goals as goal

pub loop-i-preserved : goal.loop-i-preserved
loop-i-preserved c =
    segments-next c.args.start c.loop-i.i c.args.bytes.now c.loop-i.segments.items c.push_segment.new.segments.items c.read-entry.result c.loop-i.invariant
    c.read-entry.ensures c.in_ok-push_segment.ensures
