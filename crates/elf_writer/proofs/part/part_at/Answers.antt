use Rattle.std.proofs.Common.{arith, rules}
use Rattle.elf_writer.proofs.PartLemmas.{part-front, part-back}
use Rattle.elf_writer.proofs.part.part_at.Goals as goal

pub returns-in-Some : goal.returns-in-Some
returns-in-Some c =
    part-front c.args.segments.now c.args.shadow.now c.args.index c.in-Some.segment.now _
    (search rules)
    (search rules)
    c.of_segment.ensures

pub returns-in-None : goal.returns-in-None
returns-in-None c =
    part-back c.args.segments.now c.args.shadow.now c.args.index _
    (search rules)
    (omega (arith, c.requires.inside, c.requires.seven))
