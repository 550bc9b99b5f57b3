use Rattle.std.proofs.Common.{◌≡◌, ◌≤◌, length}
use Rattle.command_status.proofs.Digits.{Writes}
use Rattle.command_status.proofs.status.write_hexadecimal.Given as goal

abbrev pub invariant-loop-rest : goal.invariant-loop-rest
invariant-loop-rest l = record { writes : Writes l.number l.rest l.at l.buffer; low : l.at ≤ 15; size : length l.buffer ≡ 16 }

abbrev pub decreases-loop-rest : goal.decreases-loop-rest
decreases-loop-rest l = l.at
