-- One register more, and the registers to come.
use Rattle.std.proofs.Common.{◌≡◌, ℕ, ◌+◌, ◌-◌, [], ◌∷◌, ◌++◌, sym, subst, ap, ◌∙◌, arith}
use Rattle.std.specs.Prelude.{OnErr}
use Rattle.rv_encode.specs.Code.{Code}
use Rattle.code_model.specs.Stub.{box_stores}
use Rattle.assembler.specs.Emitted.{with_code, HasPart}
use Rattle.assembler.proofs.Parts.{with_code-append, part-then, failed-first}
use Rattle.hint_log.proofs.Listings.{box_stores-next, box_stores-rest}
use Rattle.hint_log.proofs.restart_box.emit_box_stores.Goals as goal

pub loop-number-preserved : goal.loop-number-preserved
loop-number-preserved c =
    let n : ℕ = c.loop-number.number in
    let old : Code = c.args.buf.now in
    let next : n + 1 - 1 ≡ n = omega arith in
    c.in_ok-emit.ensures.ok
    ∙ ap (λ code. with_code code (c.box_store.result ∷ [])) c.loop-number.invariant
    ∙ with_code-append old (box_stores 1 (n - 1)) (c.box_store.result ∷ [])
    ∙ ap (λ i. with_code old (box_stores 1 (n - 1) ++ i ∷ [])) c.box_store.ensures
    ∙ ap (with_code old) (sym (box_stores-next n (omega arith)))
    ∙ ap (λ k. with_code old (box_stores 1 k)) (sym next)

pub returns-in_err-emit-clause-err : goal.returns-in_err-emit-clause-err
returns-in_err-emit-clause-err c =
    let n : ℕ = c.loop-number.number in
    let old : Code = c.args.buf.now in
    let so_far : HasPart old c.emit.new.buf (box_stores 1 (n - 1) ++ c.box_store.result ∷ []) =
    part-then old c.loop-number.buf c.emit.new.buf (box_stores 1 (n - 1)) (c.box_store.result ∷ []) c.loop-number.invariant c.in_err-emit.ensures.err in
    let this : HasPart old c.emit.new.buf (box_stores 1 n) =
    subst (HasPart old c.emit.new.buf) (ap (λ i. box_stores 1 (n - 1) ++ i ∷ []) c.box_store.ensures ∙ sym (box_stores-next n (omega arith))) so_far in
    subst (λ is. OnErr c.from_residual.result (HasPart old c.emit.new.buf is)) (sym (box_stores-rest n (omega arith)))
    (failed-first c.from_residual.result old c.emit.new.buf (box_stores 1 n) (box_stores (n + 1) (30 - n)) this)

pub returns-clause-ok : goal.returns-clause-ok
returns-clause-ok c =
    let end : c.loop-number.number - 1 ≡ 30 = omega arith in
    c.loop-number.invariant ∙ ap (λ k. with_code c.args.buf.now (box_stores 1 k)) end
