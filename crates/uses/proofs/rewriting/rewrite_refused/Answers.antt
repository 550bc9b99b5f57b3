use Rattle.uses.proofs.Rewritings.{refused-alone}
use Rattle.uses.proofs.rewriting.rewrite_refused.Goals as goal

pub returns-clause-told : goal.returns-clause-told
returns-clause-told g c why refused = (refused-alone c.args.bytes.now c.args.regions c.args.version _ _ c.rewrite_to.result c.rewrite_to.ensures why refused).0

pub returns-clause-silent : goal.returns-clause-silent
returns-clause-silent g c why refused = (refused-alone c.args.bytes.now c.args.regions c.args.version _ _ c.rewrite_to.result c.rewrite_to.ensures why refused).1
