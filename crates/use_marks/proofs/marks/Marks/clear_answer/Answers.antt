use Rattle.std.proofs.Common.{refl, arith, false}
use Rattle.run_model.specs.Marks.{mark_register}
use Rattle.use_marks.specs.Marked.{marks_of}
use Rattle.use_marks.proofs.Registers.{mark_in-with, same_marks}
use Rattle.use_marks.proofs.marks.Marks.clear_answer.Goals as goal

pub returns : goal.returns
unfolding marks_of
returns c =
    same_marks _ (mark_register (marks_of c.args.self.now) 10 false)
    (λ n. mark_in-with c.args.self.now.registers 10 n false (λ e. omega arith) (omega arith))
    (λ a. refl)
