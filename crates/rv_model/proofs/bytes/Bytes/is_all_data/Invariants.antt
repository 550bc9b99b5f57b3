use Rattle.std.proofs.Common.{◌≡◌, ◌+◌, ◌-◌}
use Rattle.rv_model.specs.Memory.{all_from}
use Rattle.rv_model.specs.Data.{data_in}
use Rattle.rv_model.proofs.bytes.Bytes.is_all_data.Given as goal

-- the answer is that on the bytes that are left
abbrev pub invariant-loop-distance : goal.invariant-loop-distance
invariant-loop-distance g l =
    all_from (data_in (g.Self.Bytes.byte_at l.self)) l.address l.count
    ≡ all_from (data_in (g.Self.Bytes.byte_at l.self)) (l.address + l.distance) (l.count - l.distance)
