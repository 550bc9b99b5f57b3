use Rattle.std.proofs.Common.{◌≡◌, ◌+◌, ◌^◌, ◌<◌, ◌≤◌, ◌∙◌, sym, arith, true, false}
use Rattle.std.proofs.lemmas.Grind.{common_steps}
use Rattle.rv_model.specs.Data.{data_in}
use Rattle.rv_model.proofs.DataLemmas.{all_from-next, all_from-stops, all_from-zero, data_in-past, data_in-some}
use Rattle.rv_model.proofs.bytes.Bytes.is_all_data.Goals as goal

pub returns-in_default : goal.returns-in_default
returns-in_default g c =
    let test = data_in (g.Self.Bytes.byte_at c.args.self.now) in
    let high : 2 ^ 64 ≤ c.args.address + c.loop-distance.distance = grind (arith, common_steps) in
    let e : test (c.args.address + c.loop-distance.distance) ≡ false = data_in-past (g.Self.Bytes.byte_at c.args.self.now) (c.args.address + c.loop-distance.distance) high in
    sym (c.loop-distance.invariant ∙ all_from-stops test c.args.address c.loop-distance.distance c.args.count c.loop-distance-test.true e)

pub returns-then-is_none : goal.returns-then-is_none
returns-then-is_none g c =
    let test = data_in (g.Self.Bytes.byte_at c.args.self.now) in
    let low : c.args.address + c.loop-distance.distance < 2 ^ 64 = grind (arith, common_steps) in
    let e : test (c.args.address + c.loop-distance.distance) ≡ false = data_in-some (g.Self.Bytes.byte_at c.args.self.now) (c.args.address + c.loop-distance.distance) low ∙ grind (arith, common_steps) in
    sym (c.loop-distance.invariant ∙ all_from-stops test c.args.address c.loop-distance.distance c.args.count c.loop-distance-test.true e)

pub loop-distance-preserved : goal.loop-distance-preserved
loop-distance-preserved g c =
    let test = data_in (g.Self.Bytes.byte_at c.args.self.now) in
    let low : c.args.address + c.loop-distance.distance < 2 ^ 64 = grind (arith, common_steps) in
    let e : test (c.args.address + c.loop-distance.distance) ≡ true = data_in-some (g.Self.Bytes.byte_at c.args.self.now) (c.args.address + c.loop-distance.distance) low ∙ grind (arith, common_steps) in
    c.loop-distance.invariant ∙ all_from-next test c.args.address c.loop-distance.distance c.args.count c.loop-distance-test.true e

pub returns : goal.returns
returns g c =
    let test = data_in (g.Self.Bytes.byte_at c.args.self.now) in
    sym (c.loop-distance.invariant ∙ all_from-zero test _ _ (omega arith))
