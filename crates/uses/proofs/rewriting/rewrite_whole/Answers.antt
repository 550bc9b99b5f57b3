use Rattle.uses.proofs.Rewritings.{whole-behind}
use Rattle.uses.proofs.rewriting.rewrite_whole.Goals as goal

pub returns-in-Done : goal.returns-in-Done
returns-in-Done g c image accepted whole = whole-behind c.args.bytes.now c.args.regions c.args.version c.in-Done.field-0 _ _ c.in-Done.ensures image accepted
