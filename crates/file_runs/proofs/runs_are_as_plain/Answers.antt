use Rattle.file_runs.proofs.Runs.{run_worlds_are_accepted, runs_are_as_plain, runs_finish, runs_get_on}
use Rattle.file_runs.proofs.runs_are_as_plain.Goals as goal

pub returns-clause-worlds : goal.returns-clause-worlds
returns-clause-worlds c = run_worlds_are_accepted

pub returns-clause-plain : goal.returns-clause-plain
returns-clause-plain c = runs_are_as_plain

pub returns-clause-finish : goal.returns-clause-finish
returns-clause-finish c = runs_finish

pub returns-clause-rounds : goal.returns-clause-rounds
returns-clause-rounds c = runs_get_on
