use Rattle.std.proofs.Common.{refl, arith, ℕ, ◌∙◌, ap, slice_set}
use Rattle.run_model.specs.Marks.{mark_register}
use Rattle.use_marks.specs.Marked.{marks_of}
use Rattle.use_marks.proofs.Registers.{mark_in, mark_in-with, same_marks}
use Rattle.use_marks.proofs.marks.Marks.set_reg.Goals as goal

pub returns-then-number-ne0 : goal.returns-then-number-ne0
unfolding marks_of
returns-then-number-ne0 c =
    let rs = c.args.self.now.registers in
    same_marks _ (mark_register (marks_of c.args.self.now) c.args.rd c.args.marked)
    (λ n. ap (λ (k : ℕ). mark_in (slice_set rs k c.args.marked) n) c.number-number.ensures.number ∙ mark_in-with rs c.args.rd n c.args.marked (λ e. omega (arith, e, c.if-number-ne0.true, c.number-number.ensures.number)) (omega (arith, c.number-number.ensures.number, c.number-number.ensures.below)))
    (λ a. refl)
