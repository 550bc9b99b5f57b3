use Rattle.std.proofs.Common.{◌≡◌, ◌+◌, ◌*◌, ◌≤◌, ◌++◌, map, drop}
use Rattle.std.specs.Prelude.{All}
use Rattle.elf_writer.specs.FileParts.{entries_from, segment_part}
use Rattle.elf_writer.specs.RewrittenFile.{IsShort}
use Rattle.elf_writer.proofs.StreamLemmas.{Toward}
use Rattle.elf_writer.proofs.table.give_entries.Given as goal

abbrev pub invariant-loop-index : goal.invariant-loop-index
invariant-loop-index g l = record {
  toward : Toward (g.S.Staging.size l.fn.staging) (g.S.Staging.held l.fn.staging) (g.O.Sink.state l.fn.sink)
      (entries_from l.start (map segment_part l.segments ++ l.shadow)) (entries_from l.cursor (drop l.index (map segment_part l.segments ++ l.shadow)))
      (g.S.Staging.held l.staging) (g.O.Sink.state l.sink);
  size : g.S.Staging.size l.staging ≡ g.S.Staging.size l.fn.staging;
  near : l.cursor ≤ 4136 + 0x4000_1000 * l.index;
  short : All IsShort (drop l.index (map segment_part l.segments ++ l.shadow));
}
