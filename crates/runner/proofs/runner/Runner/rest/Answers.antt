use Rattle.std.proofs.Common.{ℕ, ap, ◌∙◌}
use Rattle.runner_parts.specs.Idle.{idle_for}
use Rattle.runner_parts.proofs.Idle.{run-idle}
use Rattle.runner.proofs.Moved.{shows-as}
use Rattle.runner.proofs.runner.Runner.rest.Goals as goal

pub returns-clause-shows : goal.returns-clause-shows
returns-clause-shows c w r ms old going idle count =
    shows-as _ w _ (idle_for c.args.moves r) (run-idle w ms r going idle ∙ ap (λ (n : ℕ). idle_for n r) count) (c.pass.ensures.shows w r old)
