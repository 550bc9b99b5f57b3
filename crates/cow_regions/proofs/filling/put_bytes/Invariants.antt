use Rattle.std.proofs.Common.{◌≡◌, ◌+◌, ◌-◌, ◌≤◌, length}
use Rattle.code_model.specs.Regions.{slot_address}
use Rattle.hart_mem.specs.Held.{space_of, spare_of}
use Rattle.cow_regions.proofs.SetBytes.{put_part}
use Rattle.cow_regions.proofs.filling.put_bytes.Given as goal

-- so many bytes are put
abbrev pub invariant-loop-done : goal.invariant-loop-done
invariant-loop-done l = record {
  space : space_of l.mem ≡ put_part (space_of l.fn.mem) (slot_address l.slot + l.offset) l.done l.bytes;
  inside : l.done ≤ length l.bytes;
  spare : spare_of l.mem ≡ spare_of l.fn.mem;
}

abbrev pub decreases-loop-done : goal.decreases-loop-done
decreases-loop-done l = length l.bytes - l.done
