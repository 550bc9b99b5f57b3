use Rattle.std.proofs.Common.{◌+◌, ◌*◌, ◌≤◌, vec_len, vec_capacity}
use Rattle.whole_file.proofs.Steps.{ReadLog}
use Rattle.whole_file.proofs.reading.read_whole.Given as goal

abbrev pub invariant-loop-block : goal.invariant-loop-block
invariant-loop-block g l = record {
  log : ReadLog (g.D.Store.state l.fn.store) l.name l.size l.block l.bytes.items (g.D.Store.state l.store);
  room : vec_len l.bytes ≤ 4096 * l.block;
  capacity : 4096 * l.blocks ≤ vec_capacity l.bytes;
}
