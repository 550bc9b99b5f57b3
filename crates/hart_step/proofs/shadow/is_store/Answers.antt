use Rattle.hart_step.proofs.Strides.{other-store}
use Rattle.hart_step.proofs.shadow.is_store.Goals as goal

pub returns-in_default : goal.returns-in_default
returns-in_default c = other-store c.args.operation.now c.in_default.not-Sb c.in_default.not-Sh c.in_default.not-Sw c.in_default.not-Sd
