use Rattle.std.proofs.Common.{◌∙◌, ap, subst, sym}
use Rattle.hart_step.specs.Core.{core_of}
use Rattle.use_marks.specs.Marked.{marks_of}
use Rattle.use_marks.specs.Passing.{ChangeFits, changed}
use Rattle.use_marks.proofs.Passed.{uses_same, change_same}
use Rattle.use_marks.proofs.Fitting.{change-fits}
use Rattle.use_marks.proofs.marks.Marks.look.Goals as goal

pub returns-clause-used : goal.returns-clause-used
returns-clause-used g c = λ l s sees. c.passage.ensures.used ∙ uses_same _ _ l s c.args.instr.now sees (marks_of c.args.self.now)

pub returns-clause-change : goal.returns-clause-change
returns-clause-change g c = λ l filled s sees told. ap (λ m. changed m (marks_of c.args.self.now)) c.passage.ensures.change ∙ change_same _ _ l s filled c.args.instr.now sees c.args.read told (marks_of c.args.self.now)

pub returns-clause-fits : goal.returns-clause-fits
returns-clause-fits g c = λ l filled s touches told.
    subst ChangeFits (sym c.passage.ensures.change) (change-fits l s (core_of c.args.here.now).registers filled c.args.instr.now c.args.read (marks_of c.args.self.now) touches told)
