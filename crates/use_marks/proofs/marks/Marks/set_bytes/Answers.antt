use Rattle.std.proofs.Common.{refl, ap, List, ℕ}
use Rattle.run_model.specs.Marks.{Marks, mark_bytes}
use Rattle.use_marks.specs.Ranges.{in_ranges}
use Rattle.use_marks.specs.Marked.{marks_of}
use Rattle.use_marks.proofs.Registers.{mark_in, same_marks, on_err}
use Rattle.use_marks.proofs.marks.Marks.set_bytes.Goals as goal

pub returns-in_err-set-clause-err : goal.returns-in_err-set-clause-err
unfolding marks_of
returns-in_err-set-clause-err c =
    on_err c.from_residual.result _ (ap {B = Marks} (λ (es : List (ℕ × ℕ)). record { registers = mark_in c.args.self.now.registers; bytes = in_ranges es }) c.in_err-set.ensures.err)

pub returns-clause-ok : goal.returns-clause-ok
unfolding marks_of
returns-clause-ok c = λ fits.
    same_marks _ (mark_bytes (marks_of c.args.self.now) c.args.address c.args.count c.args.marked) (λ n. refl) (c.in_ok-set.ensures.ok fits)
