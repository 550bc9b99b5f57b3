use Rattle.std.proofs.Common.{rules}
use Rattle.elf_writer.proofs.FileLemmas.{all_short-same}
use Rattle.elf_writer.proofs.table.length_of.Goals as goal

pub end_of_parts-requires-clause-short : goal.end_of_parts-requires-clause-short
end_of_parts-requires-clause-short c =
    all_short-same c.args.image.now c.args.layout.now c.deref.result.now c.shadow_parts-shadow.result c.requires (search rules) c.shadow_parts-shadow.ensures
