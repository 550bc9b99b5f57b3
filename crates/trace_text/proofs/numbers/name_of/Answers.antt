use Rattle.std.proofs.Common.{◌∙◌, sym, arith}
use Rattle.std.proofs.Math.ListN.{length-set}
use Rattle.trace_text.proofs.NumberLaws.{name_in-none, name-bounds, pairs-take, is_named}
use Rattle.trace_text.proofs.numbers.name_of.Goals as goal

pub returns-then-not-spells_name : goal.returns-then-not-spells_name
returns-then-not-spells_name c = sym (name_in-none c.args.word.now (sym c.spells_name.ensures ∙ c.if-not-spells_name.true))

pub loop-i-preserved : goal.loop-i-preserved
loop-i-preserved c =
    let bounds = name-bounds c.args.word.now (sym c.spells_name.ensures ∙ c.if-not-spells_name.false) in
    record {
      long = rw length-set c.loop-i.invariant.long;
      so_far = pairs-take c.args.word.now c.loop-i.bytes c.loop-i.i _ (omega arith) (omega arith) (omega arith) c.loop-i.invariant.so_far;
    }

pub returns : goal.returns
returns c =
    is_named c.args.word.now c.loop-i.bytes c.loop-i.i c.new.result (sym c.spells_name.ensures ∙ c.if-not-spells_name.false)
    (omega arith) c.loop-i.invariant.so_far c.new.ensures.fits c.new.ensures.same
