use Rattle.recovery_laws.proofs.ReadBack.{rewritten_is_recovered}
use Rattle.recovery_laws.proofs.rewritten_is_recovered.Goals as goal

pub returns : goal.returns
returns c = rewritten_is_recovered
