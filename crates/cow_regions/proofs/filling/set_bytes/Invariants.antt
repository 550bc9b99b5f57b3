use Rattle.std.proofs.Common.{◌≡◌, ◌-◌, ◌≤◌, length}
use Rattle.hart_mem.specs.Held.{space_of, spare_of}
use Rattle.code_model.specs.Tables.{AreConsistent}
use Rattle.cow_regions.specs.Fills.{HaveCopies, SharesAlone}
use Rattle.cow_regions.proofs.SetBytes.{AreSet}
use Rattle.cow_regions.proofs.filling.set_bytes.Given as goal

-- so many bytes are set, where table and list are consistent and each region has a copy
abbrev pub invariant-loop-done : goal.invariant-loop-done
invariant-loop-done l = record {
  set : AreConsistent (space_of l.fn.mem).layout (space_of l.fn.mem).shared → HaveCopies (space_of l.fn.mem).shared l.address (length l.bytes) → AreSet (space_of l.fn.mem) (space_of l.mem) l.address l.bytes l.done;
  frame : SharesAlone (space_of l.fn.mem) (space_of l.mem);
  inside : l.done ≤ length l.bytes;
  spare : spare_of l.mem ≡ spare_of l.fn.mem;
}

abbrev pub decreases-loop-done : goal.decreases-loop-done
decreases-loop-done l = length l.bytes - l.done
