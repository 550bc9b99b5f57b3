use Rattle.run_model.specs.Moves.{begun}
use Rattle.runner_parts.specs.Idle.{idle_for}
use Rattle.runner.proofs.runner.Runner.park_ahead.Goals as goal

pub returns-clause-shows : goal.returns-clause-shows
returns-clause-shows c w r h =
    c.park_word.ensures.shows w (begun (idle_for c.args.words r))
    (c.begin.ensures.shows w (idle_for c.args.words r) (c.pass.ensures.shows w r h))
