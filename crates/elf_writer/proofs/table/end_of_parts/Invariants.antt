use Rattle.std.proofs.Common.{◌≡◌, ◌+◌, ◌*◌, ◌≤◌, ◌++◌, map, drop}
use Rattle.std.specs.Prelude.{All}
use Rattle.elf_writer.specs.FileParts.{end_of_parts, segment_part}
use Rattle.elf_writer.specs.RewrittenFile.{IsShort}
use Rattle.elf_writer.proofs.table.end_of_parts.Given as goal

abbrev pub invariant-loop-index : goal.invariant-loop-index
invariant-loop-index l = record {
  rest : end_of_parts l.cursor (drop l.index (map segment_part l.segments ++ l.shadow)) ≡ end_of_parts l.start (map segment_part l.segments ++ l.shadow);
  near : l.cursor ≤ 4136 + 0x4000_1000 * l.index;
  short : All IsShort (drop l.index (map segment_part l.segments ++ l.shadow));
}
