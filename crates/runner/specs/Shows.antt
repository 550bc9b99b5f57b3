-- When a runner shows a run (this project's own). Left out are the parts of a run that no code keeps: the state at the gate, outputs and calls, and of what is known since a restart the hints, the filled reads, the origin, the words and the regions.
use Rattle.std.specs.Prelude.{◌≡◌, take}
use Rattle.std.specs.Option.{option_map}
use Rattle.run_model.specs.Run.{World, Run}
use Rattle.mark_laws.specs.Sizes.{TrueSizes}
use Rattle.machine_laws.specs.OneMachine.{space_of_run}
use Rattle.hart_mem.specs.Held.{space_of}
use Rattle.hart_step.specs.Core.{core_of}
use Rattle.runner_parts.specs.Parts.{own_side, ShowsOwn, ShowsHart, ShowsCache, counts_of, end_of_run}
use Rattle.runner.specs.declared.runner.Runner.{Runner}

pub record Shows (v : Runner) (w : World) (r : Run) : Type 0 where
  pub space : space_of v.mem ≡ space_of_run w r
  pub own : ShowsOwn (own_side r) (core_of v.own) v.own_files v.asked v.stalled v.gathered
  pub shadow : ShowsHart r.shadow (core_of v.shadow) v.shadow_files v.state
  pub sizes : TrueSizes w.files v.shadow_files
  pub cache : ShowsCache w (own_side r) r.cache v.cache v.staging.items
  pub counts : v.counts ≡ counts_of r
  pub ahead : v.ahead ≡ r.since.ahead
  pub whole : v.whole ≡ r.since.whole
  pub end : v.end ≡ option_map end_of_run r.end
  pub notes : v.notes ≡ r.notes
  pub text : take v.text v.staging.items ≡ r.text
