use Rattle.std.proofs.Common.{rules, is_ok, true, refl}
use Rattle.elf_writer.specs.FileParts.{end_of_part, placed}
use Rattle.elf_writer.specs.RewrittenFile.{word_bytes}
use Rattle.elf_writer.proofs.SequenceLemmas.{three-Gives, three_first-Gives, three_second-Gives, three_last-Gives}
use Rattle.elf_writer.proofs.FileLemmas.{shadow_body_of}
use Rattle.elf_writer.proofs.body.place_code.Goals as goal

pub returns-in_err-place_shadow-clause-gives : goal.returns-in_err-place_shadow-clause-gives
returns-in_err-place_shadow-clause-gives g c =
    three_first-Gives _ _ _ _ _ _ _
    (placed (end_of_part c.args.start c.of_shadow-shadow.result) c.of_helpers-helpers.result (word_bytes (g.C.CodeSource.code c.args.code.now).helpers))
    (placed (end_of_part (end_of_part c.args.start c.of_shadow-shadow.result) c.of_helpers-helpers.result) c.of_stub-stub.result (word_bytes (g.C.CodeSource.code c.args.code.now).stub))
    (is_ok c.from_residual.result) c.in_err-place_shadow.ensures.gives (search rules)
    (shadow_body_of c.args.layout.now (g.C.CodeSource.code c.args.code.now) c.args.start _ _ c.of_shadow-shadow.result c.of_helpers-helpers.result c.of_stub-stub.result
    c.of_shadow-shadow.ensures c.of_helpers-helpers.ensures c.of_stub-stub.ensures refl refl)

pub returns-in_err-place_helpers-clause-gives : goal.returns-in_err-place_helpers-clause-gives
returns-in_err-place_helpers-clause-gives g c =
    three_second-Gives _ _ _ _ _ _ _ _ _ _ _
    (placed (end_of_part c.end-helpers_start.result c.of_helpers-helpers.result) c.of_stub-stub.result (word_bytes (g.C.CodeSource.code c.args.code.now).stub))
    (is_ok c.from_residual-in_err-place_helpers.result) c.in_ok-place_shadow.ensures.gives c.in_ok-place_shadow.ensures.size
    c.in_err-place_helpers.ensures.gives (search rules)
    (shadow_body_of c.args.layout.now (g.C.CodeSource.code c.args.code.now) c.args.start _ _ c.of_shadow-shadow.result c.of_helpers-helpers.result c.of_stub-stub.result
    c.of_shadow-shadow.ensures c.of_helpers-helpers.ensures c.of_stub-stub.ensures c.end-helpers_start.ensures refl)

pub returns-in_err-place_stub-clause-gives : goal.returns-in_err-place_stub-clause-gives
returns-in_err-place_stub-clause-gives g c =
    three_last-Gives _ _ _ _ _ _ _ _ _ _ _ _ _ _ _
    (is_ok c.from_residual-in_err-place_stub.result) c.in_ok-place_shadow.ensures.gives c.in_ok-place_shadow.ensures.size
    c.in_ok-place_helpers.ensures.gives (search rules) c.in_err-place_stub.ensures.gives (search rules)
    (shadow_body_of c.args.layout.now (g.C.CodeSource.code c.args.code.now) c.args.start _ _ c.of_shadow-shadow.result c.of_helpers-helpers.result c.of_stub-stub.result
    c.of_shadow-shadow.ensures c.of_helpers-helpers.ensures c.of_stub-stub.ensures c.end-helpers_start.ensures c.end-stub_start.ensures)

pub returns-clause-gives : goal.returns-clause-gives
returns-clause-gives g c =
    three-Gives _ _ _ _ _ _ _ _ _ _ _ _ _ _ _ true c.in_ok-place_shadow.ensures.gives c.in_ok-place_shadow.ensures.size
    c.in_ok-place_helpers.ensures.gives (search rules) c.in_ok-place_stub.ensures.gives
    (shadow_body_of c.args.layout.now (g.C.CodeSource.code c.args.code.now) c.args.start _ _ c.of_shadow-shadow.result c.of_helpers-helpers.result c.of_stub-stub.result
    c.of_shadow-shadow.ensures c.of_helpers-helpers.ensures c.of_stub-stub.ensures c.end-helpers_start.ensures c.end-stub_start.ensures)
