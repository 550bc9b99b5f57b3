use Rattle.shadow_walk.proofs.CallsPerformed.{calls_performed}
use Rattle.shadow_walk.proofs.calls.calls_are_performed.Goals as goal

pub returns : goal.returns
returns c = calls_performed
