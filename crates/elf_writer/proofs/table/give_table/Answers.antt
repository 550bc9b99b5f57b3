use Rattle.std.proofs.Common.{rules, is_ok, ap, ◌∙◌, refl}
use Rattle.elf_writer.specs.FileParts.{entries_from, body_start, file_parts}
use Rattle.elf_writer.specs.Headers.{entry_bytes}
use Rattle.elf_writer.proofs.SequenceLemmas.{two-Gives, two_first-Gives}
use Rattle.elf_writer.proofs.FileLemmas.{all_short-same, table_is}
use Rattle.elf_writer.proofs.table.give_table.Goals as goal

pub returns-in_err-give-clause-gives : goal.returns-in_err-give-clause-gives
returns-in_err-give-clause-gives g c =
    two_first-Gives _ _ _ _ _ _ _ (entries_from (body_start c.args.image.now) (file_parts c.args.image.now c.args.layout.now)) (is_ok c.from_residual.result)
    c.in_err-give.ensures.gives (search rules)
    (table_is c.args.image.now c.args.layout.now _ _ (c.as_slice.ensures ∙ c.fields.ensures ∙ ap entry_bytes c.of_record-entry.ensures) refl)

pub give_entries-requires-clause-short : goal.give_entries-requires-clause-short
give_entries-requires-clause-short g c =
    all_short-same c.args.image.now c.args.layout.now c.deref.result.now c.shadow_parts-shadow.result c.requires (search rules) c.shadow_parts-shadow.ensures

pub returns-clause-gives : goal.returns-clause-gives
returns-clause-gives g c =
    two-Gives _ _ _ _ _ _ _ _ _ _ _ (is_ok c.give_entries.result)
    c.in_ok-give.ensures.gives c.in_ok-give.ensures.size c.give_entries.ensures.gives
    (table_is c.args.image.now c.args.layout.now _ _ (c.as_slice.ensures ∙ c.fields.ensures ∙ ap entry_bytes c.of_record-entry.ensures) (search rules))
