use Rattle.std.proofs.Common.{◌≡◌, ◌*◌}
use Rattle.hart_mem.specs.Held.{space_of, spare_of}
use Rattle.cow_regions.proofs.RangeBytes.{copied_part}
use Rattle.cow_regions.proofs.copying.copy_bytes.Given as goal

-- so many times eight bytes are copied
abbrev pub invariant-loop-i : goal.invariant-loop-i
invariant-loop-i l = record {
  space : space_of l.mem ≡ copied_part (space_of l.fn.mem) l.slot l.region (8 * l.i);
  spare : spare_of l.mem ≡ spare_of l.fn.mem;
}
