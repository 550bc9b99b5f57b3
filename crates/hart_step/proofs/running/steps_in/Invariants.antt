use Rattle.std.proofs.Common.{◌≡◌}
use Rattle.hart_mem.specs.Held.{UsesSpare, pages_stored, space_of, spare_of}
use Rattle.hart_step.specs.Core.{core_of}
use Rattle.hart_step.specs.Flows.{core_at}
use Rattle.hart_step.specs.Steps.{Completes}
use Rattle.hart_step.proofs.running.steps_in.Given as goal

-- so many instructions are completed, in the view, and used spare frames
abbrev pub invariant-loop-done : goal.invariant-loop-done
invariant-loop-done g l =
    record {
      same_view : l.view ≡ (core_of l.hart).view;
      completes : Completes (core_of l.fn.hart) (space_of l.fn.mem) l.done (core_at (core_of l.hart) l.pc) (space_of l.mem);
      uses : UsesSpare l.fn.mem l.mem;
      kept : pages_stored l.view ≡ 0 → spare_of l.mem ≡ spare_of l.fn.mem;
    }
