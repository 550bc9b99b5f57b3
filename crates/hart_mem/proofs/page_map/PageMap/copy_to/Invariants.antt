use Rattle.std.proofs.Common.{◌≡◌, ◌≤◌, ◌-◌, length, take}
use Rattle.rv_model.specs.Memory.{bytes_at}
use Rattle.hart_mem.specs.Paged.{flat}
use Rattle.hart_mem.proofs.page_map.PageMap.copy_to.Given as goal

-- so many bytes are copied
abbrev pub invariant-loop-done : goal.invariant-loop-done
invariant-loop-done l = record {
  bytes : take l.done l.into ≡ bytes_at (flat l.self) l.place l.done;
  inside : l.done ≤ length l.into;
  length : length l.into ≡ length l.fn.into;
}

abbrev pub decreases-loop-done : goal.decreases-loop-done
decreases-loop-done l = length l.initial.into - l.done
