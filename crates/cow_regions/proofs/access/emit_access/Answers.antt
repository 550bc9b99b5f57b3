-- The helpers for loads and stores, JUMP and the tails follow each other.
use Rattle.std.proofs.Common.{◌≡◌, ◌++◌, List, subst, ap, ◌∙◌}
use Rattle.spec_base.specs.declared.layout.Layout.{Layout}
use Rattle.rv_decode.specs.declared.instr.Instr.{Instr}
use Rattle.code_model.specs.Helpers.{jump_words, load_tail, store_tail}
use Rattle.code_model.specs.Places.{LOAD1, STORE1, LTAIL, STAIL}
use Rattle.assembler.specs.Emitted.{with_code, HasPart}
use Rattle.assembler.proofs.Parts.{part-then, whole-then, failed-first, failed-then, done-then}
use Rattle.cow_regions.specs.Access.{four_helpers}
use Rattle.cow_regions.proofs.access.emit_access.Goals as goal

module _ (l : Layout) where
  abbrev loads : List Instr
  loads = four_helpers l LOAD1 LTAIL

  abbrev helpers : List Instr
  helpers = loads ++ four_helpers l STORE1 STAIL

  abbrev to_jump : List Instr
  to_jump = helpers ++ jump_words l

  abbrev to_load_tail : List Instr
  to_load_tail = to_jump ++ load_tail

pub returns-in_err-emit_four-clause-err : goal.returns-in_err-emit_four-clause-err
returns-in_err-emit_four-clause-err c =
    let l : Layout = c.args.layout.now in
    failed-first c.from_residual.result c.args.buf.now c.emit_four.new.buf (loads l) (four_helpers l STORE1 STAIL ++ jump_words l ++ load_tail ++ store_tail l)
    c.in_err-emit_four.ensures.err

pub returns-in_err-emit_four-2-clause-err : goal.returns-in_err-emit_four-2-clause-err
returns-in_err-emit_four-2-clause-err c =
    let l : Layout = c.args.layout.now in
    failed-first c.from_residual-in_err-emit_four-2.result c.args.buf.now c.emit_four-2.new.buf (helpers l) (jump_words l ++ load_tail ++ store_tail l)
    (part-then c.args.buf.now c.emit_four.new.buf c.emit_four-2.new.buf (loads l) (four_helpers l STORE1 STAIL) c.in_ok-emit_four.ensures.ok c.in_err-emit_four-2.ensures.err)

pub returns-in_err-emit-clause-err : goal.returns-in_err-emit-clause-err
returns-in_err-emit-clause-err c =
    let l : Layout = c.args.layout.now in
    let helped : c.emit_four-2.new.buf ≡ with_code c.args.buf.now (helpers l) =
    whole-then c.args.buf.now c.emit_four.new.buf c.emit_four-2.new.buf (loads l) (four_helpers l STORE1 STAIL) c.in_ok-emit_four.ensures.ok c.in_ok-emit_four-2.ensures.ok in
    failed-first c.from_residual-in_err-emit.result c.args.buf.now c.emit.new.buf (to_jump l) (load_tail ++ store_tail l)
    (part-then c.args.buf.now c.emit_four-2.new.buf c.emit.new.buf (helpers l) (jump_words l) helped
    (subst (HasPart c.emit_four-2.new.buf c.emit.new.buf) c.jump.ensures c.in_err-emit.ensures.err))

pub returns-in_err-emit-2-clause-err : goal.returns-in_err-emit-2-clause-err
returns-in_err-emit-2-clause-err c =
    let l : Layout = c.args.layout.now in
    let helped : c.emit_four-2.new.buf ≡ with_code c.args.buf.now (helpers l) =
    whole-then c.args.buf.now c.emit_four.new.buf c.emit_four-2.new.buf (loads l) (four_helpers l STORE1 STAIL) c.in_ok-emit_four.ensures.ok c.in_ok-emit_four-2.ensures.ok in
    let jumped : c.emit.new.buf ≡ with_code c.args.buf.now (to_jump l) =
    whole-then c.args.buf.now c.emit_four-2.new.buf c.emit.new.buf (helpers l) (jump_words l) helped (c.in_ok-emit.ensures.ok ∙ ap (with_code c.emit_four-2.new.buf) c.jump.ensures) in
    failed-first c.from_residual-in_err-emit-2.result c.args.buf.now c.emit-2.new.buf (to_load_tail l) (store_tail l)
    (part-then c.args.buf.now c.emit.new.buf c.emit-2.new.buf (to_jump l) load_tail jumped
    (subst (HasPart c.emit.new.buf c.emit-2.new.buf) c.load_tail.ensures c.in_err-emit-2.ensures.err))

-- all but STAIL are there
before : (c : goal.After-emit_store_tail) → c.emit-2.new.buf ≡ with_code c.args.buf.now (to_load_tail c.args.layout.now)
before c =
    let l : Layout = c.args.layout.now in
    let helped : c.emit_four-2.new.buf ≡ with_code c.args.buf.now (helpers l) =
    whole-then c.args.buf.now c.emit_four.new.buf c.emit_four-2.new.buf (loads l) (four_helpers l STORE1 STAIL) c.in_ok-emit_four.ensures.ok c.in_ok-emit_four-2.ensures.ok in
    let jumped : c.emit.new.buf ≡ with_code c.args.buf.now (to_jump l) =
    whole-then c.args.buf.now c.emit_four-2.new.buf c.emit.new.buf (helpers l) (jump_words l) helped (c.in_ok-emit.ensures.ok ∙ ap (with_code c.emit_four-2.new.buf) c.jump.ensures) in
    whole-then c.args.buf.now c.emit.new.buf c.emit-2.new.buf (to_jump l) load_tail jumped (c.in_ok-emit-2.ensures.ok ∙ ap (with_code c.emit.new.buf) c.load_tail.ensures)

pub returns-clause-ok : goal.returns-clause-ok
returns-clause-ok c =
    let l : Layout = c.args.layout.now in
    done-then c.emit_store_tail.result c.args.buf.now c.emit-2.new.buf c.emit_store_tail.new.buf (to_load_tail l) (store_tail l) (before c) c.emit_store_tail.ensures.ok

pub returns-clause-err : goal.returns-clause-err
returns-clause-err c =
    let l : Layout = c.args.layout.now in
    failed-then c.emit_store_tail.result c.args.buf.now c.emit-2.new.buf c.emit_store_tail.new.buf (to_load_tail l) (store_tail l) (before c) c.emit_store_tail.ensures.err
