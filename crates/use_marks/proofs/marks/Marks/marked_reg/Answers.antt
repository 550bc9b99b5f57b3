use Rattle.std.proofs.Common.{ap, ℕ, slice_index_or, false}
use Rattle.use_marks.specs.Marked.{marks_of}
use Rattle.use_marks.proofs.marks.Marks.marked_reg.Goals as goal

pub returns : goal.returns
unfolding marks_of
returns c = ap (λ (n : ℕ). slice_index_or c.args.self.now.registers n false) c.number.ensures.number
