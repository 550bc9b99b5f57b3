use Rattle.plan_laws.proofs.NoLess.{no_trace_fetches_less}
use Rattle.plan_laws.proofs.no_trace_fetches_less.Goals as goal

pub returns : goal.returns
returns c = no_trace_fetches_less
