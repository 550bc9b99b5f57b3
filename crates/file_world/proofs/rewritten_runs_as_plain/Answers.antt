use Rattle.file_world.proofs.Again.{rewritten_runs_as_plain}
use Rattle.file_world.proofs.rewritten_runs_as_plain.Goals as goal

pub returns : goal.returns
returns c = rewritten_runs_as_plain
