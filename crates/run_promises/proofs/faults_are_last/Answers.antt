use Rattle.run_promises.proofs.Puts.{puts_are_outputs, store_fault_is_last}
use Rattle.run_promises.proofs.faults_are_last.Goals as goal

pub returns-clause-puts : goal.returns-clause-puts
returns-clause-puts c = puts_are_outputs

pub returns-clause-store : goal.returns-clause-store
returns-clause-store c = store_fault_is_last
