use Rattle.std.proofs.Common.{◌+◌, ◌∙◌, ℕ, refl, ap, arith}
use Rattle.std.proofs.lemmas.List.{drop_all}
use Rattle.rv_model.specs.Space.{Space}
use Rattle.hart_mem.specs.Held.{space_of}
use Rattle.code_model.specs.Tables.{all_regions}
use Rattle.cow_regions.proofs.SetBytes.{AreSet-start, AreSet-more, AreSet-slot, shares-more, IsSet-from}
use Rattle.cow_regions.proofs.filling.set_bytes.Goals as goal

pub loop-done-init : goal.loop-done-init
loop-done-init c = record { set = λ ok have. AreSet-start (space_of c.args.mem.now) c.args.address c.args.bytes.now ok; frame = refl; inside = omega arith; spare = refl }

pub set_piece-requires-clause-inside : goal.set_piece-requires-clause-inside
set_piece-requires-clause-inside c = omega (arith, c.requires.inside, ap (λ (s : Space). all_regions s.layout) c.loop-done.invariant.frame)

pub loop-done-preserved : goal.loop-done-preserved
loop-done-preserved c =
    let s : Space = space_of c.args.mem.now in
    let t : Space = space_of c.loop-done.mem in
    let at : ℕ = c.args.address + c.loop-done.done in
    record {
      set = λ ok have.
          let before = c.loop-done.invariant.set ok have in
          let slot = AreSet-slot s t c.args.address c.args.bytes.now c.loop-done.done at before ok (have at (omega arith) (omega arith)) (omega (arith, c.requires.inside)) in
          AreSet-more s t (space_of c.set_piece.new.mem) c.args.address c.args.bytes.now c.loop-done.done c.min-end.result c.requires.few before (omega arith) (omega arith) (omega (arith, c.requires.inside)) (omega arith)
          (c.set_piece.ensures.set slot.0 slot.1);
      frame = shares-more s t (space_of c.set_piece.new.mem) c.loop-done.invariant.frame c.set_piece.ensures.frame;
      inside = omega arith;
      spare = c.set_piece.ensures.spare ∙ c.loop-done.invariant.spare;
    }

pub returns-clause-set : goal.returns-clause-set
returns-clause-set c ok have =
    IsSet-from (space_of c.args.mem.now) (space_of c.loop-done.mem) c.args.address c.args.bytes.now c.loop-done.done (drop_all c.loop-done.done c.args.bytes.now (omega arith)) (c.loop-done.invariant.set ok have)
