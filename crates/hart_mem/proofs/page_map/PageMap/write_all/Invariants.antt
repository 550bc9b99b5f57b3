use Rattle.std.proofs.Common.{◌≡◌, ◌≤◌, ◌-◌, length}
use Rattle.rv_model.specs.Memory.{patched}
use Rattle.hart_mem.specs.Paged.{byte_in, flat}
use Rattle.hart_mem.proofs.page_map.PageMap.write_all.Given as goal

-- so many bytes are written
abbrev pub invariant-loop-done : goal.invariant-loop-done
invariant-loop-done l = record {
  bytes : flat l.self ≡ patched (flat l.fn.self) l.place l.done (byte_in l.bytes);
  table : l.self.table ≡ l.fn.self.table;
  spare : l.self.pool.spare ≡ l.fn.self.pool.spare;
  inside : l.done ≤ length l.bytes;
}

abbrev pub decreases-loop-done : goal.decreases-loop-done
decreases-loop-done l = length l.bytes - l.done
