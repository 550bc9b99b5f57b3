-- Each listing can be encoded, and the second follows the first.
use Rattle.std.proofs.Common.{sym, subst, ap, ◌∙◌}
use Rattle.std.specs.Prelude.{OnErr}
use Rattle.std.specs.List.{All}
use Rattle.rv_decode.specs.Encoding.{IsEncodable}
use Rattle.code_model.specs.Stub.{check_words, empty_words}
use Rattle.assembler.specs.Emitted.{with_code, HasPart}
use Rattle.assembler.proofs.Parts.{failed-first, failed-then}
use Rattle.hint_log.proofs.Listings.{check-encodable}
use Rattle.hint_log.proofs.log_code.emit_check.Goals as goal

pub emit-requires : goal.emit-requires
emit-requires c = subst (All IsEncodable) (sym c.check.ensures) check-encodable

pub returns-in_err-emit-clause-err : goal.returns-in_err-emit-clause-err
returns-in_err-emit-clause-err c =
    failed-first c.from_residual.result c.args.buf.now c.emit.new.buf check_words empty_words
    (subst (HasPart c.args.buf.now c.emit.new.buf) c.check.ensures c.in_err-emit.ensures.err)

pub returns-clause-err : goal.returns-clause-err
returns-clause-err c =
    failed-then c.emit-2.result c.args.buf.now c.emit.new.buf c.emit-2.new.buf check_words empty_words
    (c.in_ok-emit.ensures.ok ∙ ap (with_code c.args.buf.now) c.check.ensures)
    (subst (λ is. OnErr c.emit-2.result (HasPart c.emit.new.buf c.emit-2.new.buf is)) c.empty.ensures c.emit-2.ensures.err)
