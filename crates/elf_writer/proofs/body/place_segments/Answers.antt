use Rattle.std.proofs.Common.{rules, is_ok, ap, ◌∙◌}
use Rattle.elf_writer.specs.FileParts.{end_of_part}
use Rattle.elf_writer.proofs.StreamLemmas.{start-Toward}
use Rattle.elf_writer.proofs.FileLemmas.{segment-Toward, stop_segment-Toward, segments_end-next, placed-short, end-near}
use Rattle.elf_writer.proofs.body.place_segments.Goals as goal

pub loop-segment-init : goal.loop-segment-init
loop-segment-init g c = record { toward = start-Toward _ _ _ _; size = search rules; rest = search rules; near = c.requires.near }

pub returns-in_err-place_segment-clause-gives : goal.returns-in_err-place_segment-clause-gives
returns-in_err-place_segment-clause-gives g c =
    stop_segment-Toward _ _ _ _ _ _ _ _ _ c.args.bytes.now c.args.image.now (g.C.CodeSource.code c.args.code.now).text c.loop-segment.cursor c.loop-segment.segment-index c.args.segments.now _
    c.loop-segment.invariant.toward c.loop-segment.invariant.size (search rules) c.in_err-place_segment.ensures.gives (is_ok c.from_residual.result) (search rules)

pub loop-segment-preserved : goal.loop-segment-preserved
loop-segment-preserved g c = record {
  toward = segment-Toward _ _ _ _ _ _ _ _ _ c.args.bytes.now c.args.image.now (g.C.CodeSource.code c.args.code.now).text c.loop-segment.cursor c.end-cursor.result c.loop-segment.segment-index c.args.segments.now _
      c.loop-segment.invariant.toward c.loop-segment.invariant.size (search rules) (c.end-cursor.ensures ∙ ap (end_of_part c.loop-segment.cursor) c.of_segment.ensures) c.in_ok-place_segment.ensures.gives;
  size = search rules;
  rest = segments_end-next c.loop-segment.cursor c.end-cursor.result c.loop-segment.segment-index c.args.segments.now (record { address = 0; size = 0; flags = 0; offset = 0; length = 0 })
      (search rules) (c.end-cursor.ensures ∙ ap (end_of_part c.loop-segment.cursor) c.of_segment.ensures) ∙ c.loop-segment.invariant.rest;
  near = rw c.end-cursor.ensures (end-near c.loop-segment.cursor c.loop-segment.segment-index c.of_segment.result
      (rw c.of_segment.ensures (placed-short c.args.bytes.now _ (c.requires.placed c.loop-segment.segment-index _ (search rules)))) c.loop-segment.invariant.near);
}
