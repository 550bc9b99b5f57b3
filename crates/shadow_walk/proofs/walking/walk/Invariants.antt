use Rattle.std.proofs.Common.{◌≡◌}
use Rattle.spec_base.specs.declared.machine.View.TheVariants.{Shadow}
use Rattle.hart_mem.specs.Held.{space_of, spare_of}
use Rattle.hart_step.specs.Core.{core_of}
use Rattle.shadow_walk.proofs.Strides.{OnWay}
use Rattle.shadow_walk.proofs.Onward.{OnAnew}
use Rattle.shadow_walk.proofs.Behind.{OnAnswered, OnBack}
use Rattle.shadow_walk.proofs.walking.walk.Given as goal

abbrev pub invariant-loop-words : goal.invariant-loop-words
invariant-loop-words l = record {
  view : (core_of l.hart).view ≡ Shadow;
  spare : spare_of l.mem ≡ spare_of l.fn.mem;
  way : OnWay l.fn.layout l.fn.key (core_of l.fn.hart) (space_of l.fn.mem) l.words (core_of l.hart) (space_of l.mem);
  anew : OnAnew l.fn.layout (core_of l.fn.hart) (space_of l.fn.mem) l.words (core_of l.hart) (space_of l.mem);
  onward : OnAnswered l.fn.layout (core_of l.fn.hart) (space_of l.fn.mem) l.words (core_of l.hart) (space_of l.mem);
  back : OnBack l.fn.layout (core_of l.fn.hart) (space_of l.fn.mem) l.words (core_of l.hart) (space_of l.mem);
}
