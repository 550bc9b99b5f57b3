use Rattle.run_model.specs.Marks.{no_marks}
use Rattle.use_marks.specs.Marked.{marks_of}
use Rattle.use_marks.proofs.Registers.{mark_in-none, same_marks}
use Rattle.use_marks.proofs.marks.Marks.restart.Goals as goal

pub returns : goal.returns
unfolding marks_of
returns c = same_marks _ no_marks (mark_in-none 32) c.clear.ensures
