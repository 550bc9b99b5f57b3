-- Its three parts follow each other.
use Rattle.std.proofs.Common.{◌≡◌, ◌++◌, sym, subst, ap, ◌∙◌}
use Rattle.std.specs.Prelude.{OnOk, OnErr}
use Rattle.std.specs.List.{All}
use Rattle.spec_base.specs.declared.layout.Layout.{Layout}
use Rattle.rv_decode.specs.Encoding.{IsEncodable}
use Rattle.assembler.specs.Emitted.{with_code, HasPart}
use Rattle.assembler.proofs.Parts.{part-then, whole-then, failed-first, failed-then, done-then}
use Rattle.cow_regions.proofs.Listings.{entry_words, copy_words, place_words, entry-encodable, copy-encodable, place-encodable}
use Rattle.cow_regions.proofs.tails.emit_store_tail.Goals as goal

pub emit-requires : goal.emit-requires
emit-requires c = subst (All IsEncodable) (sym (c.store_entry.ensures c.args.layout.now)) (entry-encodable c.args.layout.now)

pub emit-requires-2 : goal.emit-requires-2
emit-requires-2 c = subst (All IsEncodable) (sym c.store_copy.ensures) (copy-encodable c.args.layout.now)

pub emit-requires-3 : goal.emit-requires-3
emit-requires-3 c = subst (All IsEncodable) (sym (c.store_place.ensures c.args.layout.now)) (place-encodable c.args.layout.now)

pub returns-in_err-emit-clause-err : goal.returns-in_err-emit-clause-err
returns-in_err-emit-clause-err c =
    let l : Layout = c.args.layout.now in
    failed-first c.from_residual.result c.args.buf.now c.emit.new.buf (entry_words l) (copy_words l ++ place_words l)
    (subst (HasPart c.args.buf.now c.emit.new.buf) (c.store_entry.ensures l) c.in_err-emit.ensures.err)

pub returns-in_err-emit-2-clause-err : goal.returns-in_err-emit-2-clause-err
returns-in_err-emit-2-clause-err c =
    let l : Layout = c.args.layout.now in
    let begun : c.emit.new.buf ≡ with_code c.args.buf.now (entry_words l) = c.in_ok-emit.ensures.ok ∙ ap (with_code c.args.buf.now) (c.store_entry.ensures l) in
    failed-first c.from_residual-in_err-emit-2.result c.args.buf.now c.emit-2.new.buf (entry_words l ++ copy_words l) (place_words l)
    (part-then c.args.buf.now c.emit.new.buf c.emit-2.new.buf (entry_words l) (copy_words l) begun
    (subst (HasPart c.emit.new.buf c.emit-2.new.buf) c.store_copy.ensures c.in_err-emit-2.ensures.err))

-- the first two parts are there
copied : (c : goal.After-emit-3) → c.emit-2.new.buf ≡ with_code c.args.buf.now (entry_words c.args.layout.now ++ copy_words c.args.layout.now)
copied c =
    let l : Layout = c.args.layout.now in
    let begun : c.emit.new.buf ≡ with_code c.args.buf.now (entry_words l) = c.in_ok-emit.ensures.ok ∙ ap (with_code c.args.buf.now) (c.store_entry.ensures l) in
    whole-then c.args.buf.now c.emit.new.buf c.emit-2.new.buf (entry_words l) (copy_words l) begun
    (c.in_ok-emit-2.ensures.ok ∙ ap (with_code c.emit.new.buf) c.store_copy.ensures)

pub returns-clause-ok : goal.returns-clause-ok
returns-clause-ok c =
    let l : Layout = c.args.layout.now in
    done-then c.emit-3.result c.args.buf.now c.emit-2.new.buf c.emit-3.new.buf (entry_words l ++ copy_words l) (place_words l) (copied c)
    (subst (λ is. OnOk c.emit-3.result (c.emit-3.new.buf ≡ with_code c.emit-2.new.buf is)) (c.store_place.ensures l) c.emit-3.ensures.ok)

pub returns-clause-err : goal.returns-clause-err
returns-clause-err c =
    let l : Layout = c.args.layout.now in
    failed-then c.emit-3.result c.args.buf.now c.emit-2.new.buf c.emit-3.new.buf (entry_words l ++ copy_words l) (place_words l) (copied c)
    (subst (λ is. OnErr c.emit-3.result (HasPart c.emit-2.new.buf c.emit-3.new.buf is)) (c.store_place.ensures l) c.emit-3.ensures.err)
