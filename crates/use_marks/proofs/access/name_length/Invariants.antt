use Rattle.std.proofs.Common.{◌≡◌, ◌+◌, ◌-◌}
use Rattle.use_marks.specs.Passing.{name_bytes}
use Rattle.use_marks.proofs.access.name_length.Given as goal

-- the bytes before belong to the name
abbrev pub invariant-loop-distance : goal.invariant-loop-distance
invariant-loop-distance g l =
    name_bytes (g.B.Bytes.byte_at l.mem) l.address 256
    ≡ l.distance + name_bytes (g.B.Bytes.byte_at l.mem) (l.address + l.distance) (256 - l.distance)
