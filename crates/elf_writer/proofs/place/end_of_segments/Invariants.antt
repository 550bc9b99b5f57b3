use Rattle.std.proofs.Common.{◌≡◌, ◌+◌, ◌*◌, ◌≤◌, map, drop}
use Rattle.elf_writer.specs.FileParts.{end_of_parts, segment_part}
use Rattle.elf_writer.proofs.place.end_of_segments.Given as goal

abbrev pub invariant-loop-segment : goal.invariant-loop-segment
invariant-loop-segment l = record {
  rest : end_of_parts l.cursor (map segment_part (drop l.segment-index l.segments)) ≡ end_of_parts l.start (map segment_part l.segments);
  near : l.cursor ≤ 4136 + 0x4000_1000 * l.segment-index;
}
