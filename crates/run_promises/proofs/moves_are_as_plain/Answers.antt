use Rattle.run_promises.proofs.Whole.{moves_are_as_plain, moves_get_on}
use Rattle.run_promises.proofs.Finish.{moves_finish}
use Rattle.run_promises.proofs.moves_are_as_plain.Goals as goal

pub returns-clause-plain : goal.returns-clause-plain
returns-clause-plain c = moves_are_as_plain

pub returns-clause-rounds : goal.returns-clause-rounds
returns-clause-rounds c = moves_get_on

pub returns-clause-finish : goal.returns-clause-finish
returns-clause-finish c = moves_finish
