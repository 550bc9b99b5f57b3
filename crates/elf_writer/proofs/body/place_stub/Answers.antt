use Rattle.std.proofs.Common.{rules, is_ok, refl}
use Rattle.elf_writer.specs.RewrittenFile.{word_bytes}
use Rattle.elf_writer.proofs.SequenceLemmas.{two-Gives, two_first-Gives}
use Rattle.elf_writer.proofs.FileLemmas.{gap_is}
use Rattle.elf_writer.proofs.body.place_stub.Goals as goal

pub returns-in_err-give_gap-clause-gives : goal.returns-in_err-give_gap-clause-gives
returns-in_err-give_gap-clause-gives g c =
    two_first-Gives _ _ _ _ _ _ _ (word_bytes (g.C.CodeSource.code c.args.code.now).stub) (is_ok c.from_residual.result) c.in_err-give_gap.ensures.gives (search rules)
    (gap_is c.args.cursor c.args.part.now c.args.part.now _ refl c.requires.some)

pub returns-clause-gives : goal.returns-clause-gives
returns-clause-gives g c =
    two-Gives _ _ _ _ _ _ _ _ _ _ _ (is_ok c.give_stub.result)
    c.in_ok-give_gap.ensures.gives c.in_ok-give_gap.ensures.size c.give_stub.ensures.gives
    (gap_is c.args.cursor c.args.part.now c.args.part.now _ refl c.requires.some)
