use Rattle.std.proofs.Common.{◌≡◌}
use Rattle.spec_base.specs.declared.machine.View.TheVariants.{Shadow}
use Rattle.hart_mem.specs.Held.{space_of, spare_of}
use Rattle.hart_step.specs.Core.{core_of}
use Rattle.hart_step.specs.Flows.{core_at}
use Rattle.hart_step.specs.ShadowSteps.{Passes}
use Rattle.hart_step.proofs.shadow.shadow_steps.Given as goal

-- so many instructions passed, and left memory and view
abbrev pub invariant-loop-done : goal.invariant-loop-done
invariant-loop-done l =
    record {
      view : (core_of l.hart).view ≡ Shadow;
      still : space_of l.mem ≡ space_of l.fn.mem;
      passes : Passes (core_of l.fn.hart) (space_of l.fn.mem) l.done (core_at (core_of l.hart) l.pc);
      spare : spare_of l.mem ≡ spare_of l.fn.mem;
    }
