-- The registers are loaded between the first words and the last.
use Rattle.std.proofs.Common.{◌≡◌, ◌++◌, List, subst, ap, ◌∙◌, take, drop}
use Rattle.std.specs.Prelude.{OnErr}
use Rattle.rv_decode.specs.declared.instr.Instr.{Instr}
use Rattle.code_model.specs.Helpers.{box_loads, unbox_words}
use Rattle.assembler.specs.Emitted.{with_code, HasPart}
use Rattle.assembler.proofs.Parts.{part-then, whole-then, failed-first, failed-then}
use Rattle.hint_log.proofs.restart_box.emit_box_load.Goals as goal

-- the first words, and these with the registers behind them
abbrev first : List Instr
first = take 6 unbox_words

abbrev registers : List Instr
registers = first ++ box_loads 1 30

pub returns-in_err-emit-clause-err : goal.returns-in_err-emit-clause-err
returns-in_err-emit-clause-err c =
    failed-first c.from_residual.result c.args.buf.now c.emit.new.buf first (drop 6 unbox_words)
    (subst (HasPart c.args.buf.now c.emit.new.buf) c.load_begin.ensures c.in_err-emit.ensures.err)

pub returns-in_err-emit_box_loads-clause-err : goal.returns-in_err-emit_box_loads-clause-err
returns-in_err-emit_box_loads-clause-err c =
    let begun : c.emit.new.buf ≡ with_code c.args.buf.now first = c.in_ok-emit.ensures.ok ∙ ap (with_code c.args.buf.now) c.load_begin.ensures in
    failed-first c.from_residual-in_err-emit_box_loads.result c.args.buf.now c.emit_box_loads.new.buf registers (drop 36 unbox_words)
    (part-then c.args.buf.now c.emit.new.buf c.emit_box_loads.new.buf first (box_loads 1 30) begun c.in_err-emit_box_loads.ensures.err)

pub returns-clause-err : goal.returns-clause-err
returns-clause-err c =
    let begun : c.emit.new.buf ≡ with_code c.args.buf.now first = c.in_ok-emit.ensures.ok ∙ ap (with_code c.args.buf.now) c.load_begin.ensures in
    let loaded : c.emit_box_loads.new.buf ≡ with_code c.args.buf.now registers =
    whole-then c.args.buf.now c.emit.new.buf c.emit_box_loads.new.buf first (box_loads 1 30) begun c.in_ok-emit_box_loads.ensures.ok in
    failed-then c.emit-2.result c.args.buf.now c.emit_box_loads.new.buf c.emit-2.new.buf registers (drop 36 unbox_words) loaded
    (subst (λ is. OnErr c.emit-2.result (HasPart c.emit_box_loads.new.buf c.emit-2.new.buf is)) c.load_end.ensures c.emit-2.ensures.err)
