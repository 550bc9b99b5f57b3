use Rattle.elf_writer.proofs.PlaceLemmas.{each_stands}
use Rattle.elf_writer.proofs.laws.each_part_stands_at_its_offset.Goals as goal

pub returns : goal.returns
returns c = each_stands
