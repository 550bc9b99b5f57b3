-- The registers are stored between the first words and the last.
use Rattle.std.proofs.Common.{◌≡◌, ◌++◌, List, subst, ap, ◌∙◌, take, drop}
use Rattle.std.specs.Prelude.{OnErr}
use Rattle.rv_decode.specs.declared.instr.Instr.{Instr}
use Rattle.code_model.specs.Stub.{box_stores, box_words}
use Rattle.assembler.specs.Emitted.{with_code, HasPart}
use Rattle.assembler.proofs.Parts.{part-then, whole-then, failed-first, failed-then}
use Rattle.hint_log.proofs.restart_box.emit_box_save.Goals as goal

-- the first words, and these with the registers behind them
abbrev first : List Instr
first = take 5 box_words

abbrev registers : List Instr
registers = first ++ box_stores 1 30

pub returns-in_err-emit-clause-err : goal.returns-in_err-emit-clause-err
returns-in_err-emit-clause-err c =
    failed-first c.from_residual.result c.args.buf.now c.emit.new.buf first (drop 5 box_words)
    (subst (HasPart c.args.buf.now c.emit.new.buf) c.save_begin.ensures c.in_err-emit.ensures.err)

pub returns-in_err-emit_box_stores-clause-err : goal.returns-in_err-emit_box_stores-clause-err
returns-in_err-emit_box_stores-clause-err c =
    let begun : c.emit.new.buf ≡ with_code c.args.buf.now first = c.in_ok-emit.ensures.ok ∙ ap (with_code c.args.buf.now) c.save_begin.ensures in
    failed-first c.from_residual-in_err-emit_box_stores.result c.args.buf.now c.emit_box_stores.new.buf registers (drop 35 box_words)
    (part-then c.args.buf.now c.emit.new.buf c.emit_box_stores.new.buf first (box_stores 1 30) begun c.in_err-emit_box_stores.ensures.err)

pub returns-clause-err : goal.returns-clause-err
returns-clause-err c =
    let begun : c.emit.new.buf ≡ with_code c.args.buf.now first = c.in_ok-emit.ensures.ok ∙ ap (with_code c.args.buf.now) c.save_begin.ensures in
    let stored : c.emit_box_stores.new.buf ≡ with_code c.args.buf.now registers =
    whole-then c.args.buf.now c.emit.new.buf c.emit_box_stores.new.buf first (box_stores 1 30) begun c.in_ok-emit_box_stores.ensures.ok in
    failed-then c.emit-2.result c.args.buf.now c.emit_box_stores.new.buf c.emit-2.new.buf registers (drop 35 box_words) stored
    (subst (λ is. OnErr c.emit-2.result (HasPart c.emit_box_stores.new.buf c.emit-2.new.buf is)) c.save_end.ensures c.emit-2.ensures.err)
