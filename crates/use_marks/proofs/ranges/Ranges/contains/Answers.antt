use Rattle.use_marks.proofs.InRanges.{contains_some, contains_none}
use Rattle.use_marks.proofs.ranges.Ranges.contains.Goals as goal

pub returns-in-Some : goal.returns-in-Some
returns-in-Some c = contains_some c.args.self.now.last_by_first c.in-Some.ensures.ordered c.args.self.now.kept c.args.address c.in-Some.field-0-0 c.in-Some.last c.in-Some.ensures.some

pub returns-in-None : goal.returns-in-None
returns-in-None c = contains_none c.args.self.now.last_by_first c.in-None.ensures.ordered c.args.self.now.kept c.args.address c.in-None.ensures.none
