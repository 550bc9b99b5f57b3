use Rattle.use_marks.specs.Marked.{marks_of}
use Rattle.use_marks.proofs.marks.Marks.marked.Goals as goal

pub returns : goal.returns
unfolding marks_of
returns c = c.contains.ensures
