-- The four helpers follow each other.
use Rattle.std.proofs.Common.{◌≡◌, ℕ, ◌+◌, ◌-◌, ◌++◌, List, subst}
use Rattle.std.specs.Prelude.{OnOk, OnErr}
use Rattle.spec_base.specs.declared.layout.Layout.{Layout}
use Rattle.rv_decode.specs.declared.instr.Instr.{Instr}
use Rattle.code_model.specs.Helpers.{access_helper}
use Rattle.assembler.specs.Emitted.{with_code, HasPart}
use Rattle.assembler.proofs.Parts.{part-then, whole-then, failed-first, failed-then, done-then}
use Rattle.cow_regions.proofs.access.emit_four.Goals as goal

module _ (l : Layout) (first tail : ℕ) where
  abbrev one : List Instr
  one = access_helper l 1 l.text_start first tail

  abbrev two : List Instr
  two = access_helper l 2 l.text_start (first + 0x40) tail

  abbrev four : List Instr
  four = access_helper l 4 l.text_start (first + 0x80) tail

  abbrev eight : List Instr
  eight = access_helper l 8 (l.text_start - 4) (first + 0xC0) tail

pub returns-in_err-emit_one-clause-err : goal.returns-in_err-emit_one-clause-err
returns-in_err-emit_one-clause-err c =
    let l : Layout = c.args.layout.now in
    let f : ℕ = c.args.first in
    let t : ℕ = c.args.tail in
    failed-first c.from_residual.result c.args.buf.now c.emit_one.new.buf (one l f t) (two l f t ++ four l f t ++ eight l f t) c.in_err-emit_one.ensures.err

pub returns-in_err-emit_one-2-clause-err : goal.returns-in_err-emit_one-2-clause-err
returns-in_err-emit_one-2-clause-err c =
    let l : Layout = c.args.layout.now in
    let f : ℕ = c.args.first in
    let t : ℕ = c.args.tail in
    failed-first c.from_residual-in_err-emit_one-2.result c.args.buf.now c.emit_one-2.new.buf (one l f t ++ two l f t) (four l f t ++ eight l f t)
    (part-then c.args.buf.now c.emit_one.new.buf c.emit_one-2.new.buf (one l f t) (two l f t) c.in_ok-emit_one.ensures.ok c.in_err-emit_one-2.ensures.err)

pub returns-in_err-emit_one-3-clause-err : goal.returns-in_err-emit_one-3-clause-err
returns-in_err-emit_one-3-clause-err c =
    let l : Layout = c.args.layout.now in
    let f : ℕ = c.args.first in
    let t : ℕ = c.args.tail in
    let before : c.emit_one-2.new.buf ≡ with_code c.args.buf.now (one l f t ++ two l f t) =
    whole-then c.args.buf.now c.emit_one.new.buf c.emit_one-2.new.buf (one l f t) (two l f t) c.in_ok-emit_one.ensures.ok c.in_ok-emit_one-2.ensures.ok in
    failed-first c.from_residual-in_err-emit_one-3.result c.args.buf.now c.emit_one-3.new.buf (one l f t ++ two l f t ++ four l f t) (eight l f t)
    (part-then c.args.buf.now c.emit_one-2.new.buf c.emit_one-3.new.buf (one l f t ++ two l f t) (four l f t) before c.in_err-emit_one-3.ensures.err)

-- the first three are there
three : (c : goal.After-emit_one-4) → c.emit_one-3.new.buf ≡ with_code c.args.buf.now (one c.args.layout.now c.args.first c.args.tail ++ two c.args.layout.now c.args.first c.args.tail ++ four c.args.layout.now c.args.first c.args.tail)
three c =
    let l : Layout = c.args.layout.now in
    let f : ℕ = c.args.first in
    let t : ℕ = c.args.tail in
    whole-then c.args.buf.now c.emit_one-2.new.buf c.emit_one-3.new.buf (one l f t ++ two l f t) (four l f t)
    (whole-then c.args.buf.now c.emit_one.new.buf c.emit_one-2.new.buf (one l f t) (two l f t) c.in_ok-emit_one.ensures.ok c.in_ok-emit_one-2.ensures.ok)
    c.in_ok-emit_one-3.ensures.ok

pub returns-clause-ok : goal.returns-clause-ok
returns-clause-ok c =
    let l : Layout = c.args.layout.now in
    let f : ℕ = c.args.first in
    let t : ℕ = c.args.tail in
    done-then c.emit_one-4.result c.args.buf.now c.emit_one-3.new.buf c.emit_one-4.new.buf (one l f t ++ two l f t ++ four l f t) (eight l f t) (three c)
    (subst (λ n. OnOk c.emit_one-4.result (c.emit_one-4.new.buf ≡ with_code c.emit_one-3.new.buf (access_helper l 8 n (f + 0xC0) t))) c.saturating_sub.ensures c.emit_one-4.ensures.ok)

pub returns-clause-err : goal.returns-clause-err
returns-clause-err c =
    let l : Layout = c.args.layout.now in
    let f : ℕ = c.args.first in
    let t : ℕ = c.args.tail in
    failed-then c.emit_one-4.result c.args.buf.now c.emit_one-3.new.buf c.emit_one-4.new.buf (one l f t ++ two l f t ++ four l f t) (eight l f t) (three c)
    (subst (λ n. OnErr c.emit_one-4.result (HasPart c.emit_one-3.new.buf c.emit_one-4.new.buf (access_helper l 8 n (f + 0xC0) t))) c.saturating_sub.ensures c.emit_one-4.ensures.err)
