use Rattle.std.proofs.Common.{rules, is_ok, refl, subst, ◌≡◌, IfOk}
use Rattle.elf_writer.specs.FileParts.{body_from, end_of_parts, shadow_parts, body_start}
use Rattle.elf_writer.specs.RewrittenFile.{segments_body, shadow_contents}
use Rattle.elf_writer.proofs.SequenceLemmas.{three-Gives, three_first-Gives, three_second-Gives}
use Rattle.elf_writer.proofs.FileLemmas.{file_is, file_end_is, segments_end}
use Rattle.elf_writer.proofs.writing.give_file.Goals as goal

pub returns-in_err-give_front-clause-gives : goal.returns-in_err-give_front-clause-gives
returns-in_err-give_front-clause-gives g c =
    three_first-Gives _ _ _ _ _ _ _
    (segments_body c.args.bytes.now c.args.image.now (g.C.CodeSource.code c.args.code.now).text (body_start c.args.image.now) c.args.image.now.segments)
    (body_from (segments_end (body_start c.args.image.now) c.args.image.now.segments) (shadow_parts c.args.layout.now) (shadow_contents (g.C.CodeSource.code c.args.code.now)))
    (is_ok c.from_residual.result) c.in_err-give_front.ensures.gives (search rules)
    (file_is c.args.bytes.now c.args.image.now c.args.layout.now (g.C.CodeSource.code c.args.code.now) _ _ c.args.image.now.segments
    c.requires.rewritable c.requires.code refl refl refl)

pub returns-in_err-end-clause-gives : goal.returns-in_err-end-clause-gives
returns-in_err-end-clause-gives g c =
    three_second-Gives _ _ _ _ _ _ _ _ _ _ _
    (body_from (segments_end c.body_start-start.result c.deref.result.now) (shadow_parts c.args.layout.now) (shadow_contents (g.C.CodeSource.code c.args.code.now)))
    (is_ok c.from_residual-in_err-end.result) c.in_ok-give_front.ensures.gives c.in_ok-give_front.ensures.size
    c.in_err-end.ensures.gives (search rules)
    (file_is c.args.bytes.now c.args.image.now c.args.layout.now (g.C.CodeSource.code c.args.code.now) c.body_start-start.result _ c.deref.result.now
    c.requires.rewritable c.requires.code (search rules) c.body_start-start.ensures.value refl)

pub returns-clause-gives : goal.returns-clause-gives
returns-clause-gives g c =
    three-Gives _ _ _ _ _ _ _ _ _ _ _ _ _ _ _ (is_ok c.place_code.result) c.in_ok-give_front.ensures.gives c.in_ok-give_front.ensures.size
    c.in_ok-end.ensures.gives (search rules) c.place_code.ensures.gives
    (file_is c.args.bytes.now c.args.image.now c.args.layout.now (g.C.CodeSource.code c.args.code.now) c.body_start-start.result _ c.deref.result.now
    c.requires.rewritable c.requires.code (search rules) c.body_start-start.ensures.value c.in_ok-end.ensures.end.0)

pub returns-clause-length : goal.returns-clause-length
returns-clause-length g c =
    subst (λ n. IfOk c.place_code.result (λ end. end ≡ n))
    (file_end_is c.args.image.now c.args.layout.now c.body_start-start.result c.in_ok-end.end (end_of_parts c.in_ok-end.end (shadow_parts c.args.layout.now)) c.deref.result.now
    (search rules) c.body_start-start.ensures.value c.in_ok-end.ensures.end.0 refl)
    c.place_code.ensures.end
