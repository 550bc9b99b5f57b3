use Rattle.machine_laws.proofs.Gates.{effects_of_view}
use Rattle.machine_laws.proofs.Fetches.{fetches_same, code_is_words}
use Rattle.machine_laws.proofs.Steps.{parts_change, steps_same, stores_same, quiet_leaves}
use Rattle.machine_laws.proofs.machine_is_one.Goals as goal

pub returns-clause-fetches : goal.returns-clause-fetches
returns-clause-fetches c = fetches_same

pub returns-clause-steps : goal.returns-clause-steps
returns-clause-steps c = steps_same

pub returns-clause-stores : goal.returns-clause-stores
returns-clause-stores c = stores_same

pub returns-clause-quiet : goal.returns-clause-quiet
returns-clause-quiet c = quiet_leaves

pub returns-clause-parts : goal.returns-clause-parts
returns-clause-parts c = parts_change

pub returns-clause-views : goal.returns-clause-views
returns-clause-views c = effects_of_view

pub returns-clause-code : goal.returns-clause-code
returns-clause-code c = code_is_words
