use Rattle.uses.proofs.Rewritings.{sure-within}
use Rattle.uses.proofs.rewriting.rewrite_within.Goals as goal

pub returns : goal.returns
returns g c image accepted fits = sure-within c.args.bytes.now c.args.regions c.args.version _ _ c.rewrite_to.result c.rewrite_to.ensures image accepted fits
