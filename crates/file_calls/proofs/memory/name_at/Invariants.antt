use Rattle.file_calls.proofs.DataLemmas.{IsInName}
use Rattle.file_calls.proofs.memory.name_at.Given as goal

-- the bytes that were read belong to the name
abbrev pub invariant-loop-distance : goal.invariant-loop-distance
invariant-loop-distance g l = IsInName (g.B.Bytes.byte_at l.mem) l.address l.distance l.bytes.items
