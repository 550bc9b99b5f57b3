use Rattle.std.proofs.Common.{◌≡◌, take}
use Rattle.rv_model.specs.Memory.{bytes_at}
use Rattle.rv_model.specs.Data.{memory_in}
use Rattle.rv_model.proofs.bytes.Bytes.copy_to.Given as goal

-- so many bytes are copied
abbrev pub invariant-loop-i : goal.invariant-loop-i
invariant-loop-i g l = take l.i l.into ≡ bytes_at (memory_in (g.Self.Bytes.byte_at l.self)) l.address l.i
