use Rattle.std.proofs.Common.{ℕ, ◌≡◌, ◌+◌, ◌-◌, ◌*◌, ◌^◌, ◌<◌, ◌≤◌}
use Rattle.spec_base.specs.declared.machine.View.TheVariants.{Shadow}
use Rattle.rv_model.specs.Memory.{loaded}
use Rattle.rv_model.specs.Space.{sees}
use Rattle.hart_mem.specs.Held.{space_of}
use Rattle.hart_mem.proofs.mem.Mem.text_number.Given as goal

-- the bytes from i on are read
abbrev pub invariant-loop-i : goal.invariant-loop-i
invariant-loop-i l = record {
  value : l.value ≡ loaded (sees Shadow (space_of l.self)) (l.address + l.i) (l.size - l.i);
  bound : l.value < 2 ^ (8 * (l.size - l.i));
  bytes : (k : ℕ) → l.i ≤ k → k < l.size → sees Shadow (space_of l.self) (l.address + k) < 256;
}
