use Rattle.std.proofs.Common.{◌≤◌, length, ap, ◌∙◌, arith}
use Rattle.std.proofs.lemmas.List.{length-take}
use Rattle.rv_model.specs.Rights.{is_data}
use Rattle.hart_mem.specs.Held.{space_of}
use Rattle.rv_model.proofs.DataLemmas.{all_from-fewer}
use Rattle.runner_parts.proofs.reading.fill_staged.Goals as goal

pub fill-requires : goal.fill-requires
fill-requires c =
    let count = ap length c.bytes_of.ensures ∙ length-take _ _ in
    let few : length c.bytes_of.result.now ≤ c.args.spot.now.count = omega (arith, count) in
    all_from-fewer (is_data (space_of c.args.mem.now).layout) c.args.address (length c.bytes_of.result.now) c.args.spot.now.count few c.requires.data
