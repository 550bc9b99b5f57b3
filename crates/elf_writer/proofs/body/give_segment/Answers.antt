use Rattle.std.proofs.Common.{rules, is_ok, refl, ◌-◌, take, drop, ap}
use Rattle.elf_writer.specs.RewrittenFile.{word_bytes, original_bytes}
use Rattle.elf_writer.proofs.SequenceLemmas.{three-Gives, three_first-Gives, three_second-Gives}
use Rattle.elf_writer.proofs.FileLemmas.{segment-is, slice_is, slice_back}
use Rattle.elf_writer.proofs.body.give_segment.Goals as goal

pub returns-in_err-give-clause-gives : goal.returns-in_err-give-clause-gives
returns-in_err-give-clause-gives g c =
    three_first-Gives _ _ _ _ _ _ _ (word_bytes (g.C.CodeSource.code c.args.code.now).text)
    (drop (c.args.image.now.text_end - c.args.segment.now.address) (original_bytes c.args.bytes.now c.args.segment.now)) (is_ok c.from_residual.result)
    c.in_err-give.ensures.gives (search rules)
    (segment-is c.args.bytes.now c.args.image.now (g.C.CodeSource.code c.args.code.now).text c.args.segment.now _ _ (search rules)
    (ap (take (c.args.image.now.text_start - c.args.segment.now.address)) (slice_is c.args.bytes.now c.args.segment.now)) refl)

pub returns-in_err-give_text-clause-gives : goal.returns-in_err-give_text-clause-gives
returns-in_err-give_text-clause-gives g c =
    three_second-Gives _ _ _ _ _ _ _ _ _ _ _
    (drop (c.args.image.now.text_end - c.args.segment.now.address) (original_bytes c.args.bytes.now c.args.segment.now)) (is_ok c.from_residual-in_err-give_text.result)
    c.in_ok-give.ensures.gives c.in_ok-give.ensures.size c.in_err-give_text.ensures.gives (search rules)
    (segment-is c.args.bytes.now c.args.image.now (g.C.CodeSource.code c.args.code.now).text c.args.segment.now _ _ (search rules)
    (ap (take (c.args.image.now.text_start - c.args.segment.now.address)) (slice_is c.args.bytes.now c.args.segment.now)) refl)

pub returns-clause-gives : goal.returns-clause-gives
returns-clause-gives g c =
    three-Gives _ _ _ _ _ _ _ _ _ _ _ _ _ _ _ (is_ok c.give-3.result)
    c.in_ok-give.ensures.gives c.in_ok-give.ensures.size c.in_ok-give_text.ensures.gives (search rules) c.give-3.ensures.gives
    (segment-is c.args.bytes.now c.args.image.now (g.C.CodeSource.code c.args.code.now).text c.args.segment.now _ _ (search rules) (ap (take (c.args.image.now.text_start - c.args.segment.now.address)) (slice_is c.args.bytes.now c.args.segment.now))
    (slice_back c.args.bytes.now c.args.segment.now (c.args.image.now.text_end - c.args.segment.now.address)))
