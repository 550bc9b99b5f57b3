use Rattle.std.proofs.Common.{rules, is_ok}
use Rattle.elf_writer.specs.RewrittenFile.{segment_bytes}
use Rattle.elf_writer.specs.FileParts.{segment_part}
use Rattle.elf_writer.proofs.SequenceLemmas.{none-Gives, two-Gives, two_first-Gives}
use Rattle.elf_writer.proofs.FileLemmas.{placed-none, gap_is}
use Rattle.elf_writer.proofs.body.place_segment.Goals as goal

pub returns-then-segment-eq0-clause-gives : goal.returns-then-segment-eq0-clause-gives
returns-then-segment-eq0-clause-gives g c =
    none-Gives _ _ _ _ (placed-none c.args.cursor (segment_part c.args.segment.now) _ (search rules))

pub returns-in_err-give_gap-clause-gives : goal.returns-in_err-give_gap-clause-gives
returns-in_err-give_gap-clause-gives g c =
    two_first-Gives _ _ _ _ _ _ _ (segment_bytes c.args.bytes.now c.args.image.now (g.C.CodeSource.code c.args.code.now).text c.args.segment.now) (is_ok c.from_residual.result) c.in_err-give_gap.ensures.gives (search rules)
    (gap_is c.args.cursor (segment_part c.args.segment.now) c.of_segment.result _ c.of_segment.ensures (search rules))

pub returns-clause-gives : goal.returns-clause-gives
returns-clause-gives g c =
    two-Gives _ _ _ _ _ _ _ _ _ _ _ (is_ok c.give_segment.result)
    c.in_ok-give_gap.ensures.gives c.in_ok-give_gap.ensures.size c.give_segment.ensures.gives
    (gap_is c.args.cursor (segment_part c.args.segment.now) c.of_segment.result _ c.of_segment.ensures (search rules))
