use Rattle.std.proofs.Common.{rules, ap, ◌∙◌}
use Rattle.elf_writer.specs.FileParts.{end_of_part}
use Rattle.elf_writer.proofs.FileLemmas.{segments_end-next, end-near}
use Rattle.elf_writer.proofs.place.end_of_segments.Goals as goal

pub loop-segment-preserved : goal.loop-segment-preserved
loop-segment-preserved c = record {
  rest = segments_end-next c.loop-segment.cursor c.end-cursor.result c.loop-segment.segment-index c.args.segments.now (record { address = 0; size = 0; flags = 0; offset = 0; length = 0 })
      (search rules) (c.end-cursor.ensures ∙ ap (end_of_part c.loop-segment.cursor) c.of_segment.ensures) ∙ c.loop-segment.invariant.rest;
  near = rw c.end-cursor.ensures (end-near c.loop-segment.cursor c.loop-segment.segment-index c.of_segment.result
      (rw c.of_segment.ensures (c.requires.short c.loop-segment.segment-index _ (search rules))) c.loop-segment.invariant.near);
}
