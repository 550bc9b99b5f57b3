use Rattle.std.proofs.Common.{◌≡◌, ◌+◌, ◌*◌, ◌≤◌, map, drop}
use Rattle.elf_writer.specs.FileParts.{end_of_parts, segment_part}
use Rattle.elf_writer.specs.RewrittenFile.{segments_body}
use Rattle.elf_writer.proofs.StreamLemmas.{Toward}
use Rattle.elf_writer.proofs.body.place_segments.Given as goal

abbrev pub invariant-loop-segment : goal.invariant-loop-segment
invariant-loop-segment g l = record {
  toward : Toward (g.S.Staging.size l.fn.staging) (g.S.Staging.held l.fn.staging) (g.O.Sink.state l.fn.sink)
      (segments_body l.bytes l.image (g.C.CodeSource.code l.code).text l.start l.segments)
      (segments_body l.bytes l.image (g.C.CodeSource.code l.code).text l.cursor (drop l.segment-index l.segments))
      (g.S.Staging.held l.staging) (g.O.Sink.state l.sink);
  size : g.S.Staging.size l.staging ≡ g.S.Staging.size l.fn.staging;
  rest : end_of_parts l.cursor (map segment_part (drop l.segment-index l.segments)) ≡ end_of_parts l.start (map segment_part l.segments);
  near : l.cursor ≤ 4136 + 0x4000_1000 * l.segment-index;
}
