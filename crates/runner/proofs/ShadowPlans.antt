-- The plan of the shadow's call, as the code makes it.
use Rattle.std.proofs.Common.{◌≡◌, ℕ, subst}
use Rattle.rv_model.specs.Registers.{reg}
use Rattle.rv_model.specs.Rights.{is_data}
use Rattle.rv_model.specs.Space.{Space}
use Rattle.program_model.specs.Calls.{CallPlan}
use Rattle.program_model.specs.Descriptors.{Descriptors}
use Rattle.code_model.specs.Regions.{shadowed}
use Rattle.run_model.specs.Run.{World, Run}
use Rattle.run_model.specs.ShadowMoves.{shadow_plan}
use Rattle.machine_laws.specs.OneMachine.{space_of_run}
use Rattle.mark_laws.specs.Agreement.{HasAll, assumed_answer}
use Rattle.mark_laws.specs.Sizes.{TrueSizes}
use Rattle.mark_laws.proofs.Sizes.{plans_find_all, calls_keep_sizes}
use Rattle.hart_mem.specs.Held.{space_of}
use Rattle.hart_step.specs.Core.{core_of}
use Rattle.runner_parts.specs.Plans.{plan_in_copies}
use Rattle.runner.specs.Shows.{Shows}
use Rattle.runner.specs.declared.runner.Runner.{Runner}

module _ (v : Runner) (w : World) (r : Run) (h : Shows v w r) where
  abbrev s : Space
  s = space_of v.mem

  abbrev planned : CallPlan
  planned = plan_in_copies s v.shadow_files (core_of v.shadow).registers

  -- it is that of the run
  pub plan-is : planned ≡ shadow_plan w r
  unfolding space_of_run
  plan-is = λ i. plan_in_copies (h.space i) (h.shadow.files_are i) (h.shadow.registers i)

  abbrev at : ℕ → ℕ
  at i = reg (core_of v.shadow).registers i

  -- its read finds all its bytes
  pub has-all : HasAll w.files planned
  has-all = plans_find_all w.files v.shadow_files h.sizes (is_data s.layout) (shadowed s.shared s.program) (at 17) (at 10) (at 11) (at 12)

  -- and the sizes stay true
  pub keeps-sizes : TrueSizes w.files (assumed_answer w.files r.shadow.files planned).0
  keeps-sizes =
      subst (λ (f : Descriptors). TrueSizes w.files (assumed_answer w.files f planned).0) h.shadow.files_are
      (calls_keep_sizes w.files v.shadow_files h.sizes (is_data s.layout) (shadowed s.shared s.program) (at 17) (at 10) (at 11) (at 12))
