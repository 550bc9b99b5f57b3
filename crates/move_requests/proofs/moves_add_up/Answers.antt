use Rattle.move_requests.proofs.Snoc.{moves_add_up}
use Rattle.move_requests.proofs.Heard.{nothing_is_heard, next_is_heard}
use Rattle.move_requests.proofs.moves_add_up.Goals as goal

pub returns-clause-adds : goal.returns-clause-adds
returns-clause-adds c = moves_add_up

pub returns-clause-none : goal.returns-clause-none
returns-clause-none c = nothing_is_heard

pub returns-clause-next : goal.returns-clause-next
returns-clause-next c = next_is_heard
