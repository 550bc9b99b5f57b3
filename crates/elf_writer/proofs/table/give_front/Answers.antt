use Rattle.std.proofs.Common.{rules, is_ok, ap, ◌∙◌, ◌++◌}
use Rattle.elf_writer.specs.FileParts.{table_bytes, record_bytes}
use Rattle.elf_writer.specs.Headers.{header_bytes}
use Rattle.elf_writer.proofs.SequenceLemmas.{three-Gives, three_first-Gives, three_second-Gives}
use Rattle.elf_writer.proofs.FileLemmas.{front_is}
use Rattle.elf_writer.proofs.table.give_front.Goals as goal

pub returns-in_err-give-clause-gives : goal.returns-in_err-give-clause-gives
returns-in_err-give-clause-gives g c =
    three_first-Gives _ _ _ _ _ _ _ (table_bytes c.args.image.now c.args.layout.now) (record_bytes c.args.layout.now) (is_ok c.from_residual.result)
    c.in_err-give.ensures.gives (search rules)
    (ap (λ w. w ++ table_bytes c.args.image.now c.args.layout.now ++ record_bytes c.args.layout.now) (c.as_slice.ensures ∙ c.fields.ensures ∙ ap header_bytes c.of-header.ensures))

pub returns-in_err-give_table-clause-gives : goal.returns-in_err-give_table-clause-gives
returns-in_err-give_table-clause-gives g c =
    three_second-Gives _ _ _ _ _ _ _ _ _ _ _ (record_bytes c.args.layout.now) (is_ok c.from_residual-in_err-give_table.result)
    c.in_ok-give.ensures.gives c.in_ok-give.ensures.size c.in_err-give_table.ensures.gives (search rules)
    (ap (λ w. w ++ table_bytes c.args.image.now c.args.layout.now ++ record_bytes c.args.layout.now) (c.as_slice.ensures ∙ c.fields.ensures ∙ ap header_bytes c.of-header.ensures))

pub returns-clause-gives : goal.returns-clause-gives
returns-clause-gives g c =
    three-Gives _ _ _ _ _ _ _ _ _ _ _ _ _ _ _ (is_ok c.give-2.result)
    c.in_ok-give.ensures.gives c.in_ok-give.ensures.size c.in_ok-give_table.ensures.gives (search rules) c.give-2.ensures.gives
    (front_is c.args.image.now c.args.layout.now _ _ (c.as_slice.ensures ∙ c.fields.ensures ∙ ap header_bytes c.of-header.ensures) (c.as_slice-2.ensures ∙ c.record_fields.ensures))
