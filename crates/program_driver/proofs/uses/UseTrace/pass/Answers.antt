use Rattle.std.proofs.Common.{◌≡◌, ◌∙◌, Some, None, sym, subst}
use Rattle.spec_base.specs.declared.note.Move.{Move}
use Rattle.run_model.specs.Run.{World, Run}
use Rattle.run_model.specs.Moves.{run, step}
use Rattle.run_model.specs.Marks.{Marks}
use Rattle.use_marks.specs.Marked.{marks_of}
use Rattle.use_marks.specs.Along.{AreMarksOf, numbers_of, numbers_then}
use Rattle.program_driver.specs.declared.uses.Ahead.{Ahead}
use Rattle.program_driver.specs.Uses.{IsAhead, StandsIf}
use Rattle.program_driver.proofs.Using.{not-more, more, quiet-first, quiet-kept, unknown-first, unknown-kept, passed-first, passed-kept}
use Rattle.program_driver.proofs.uses.UseTrace.pass.Goals as goal

-- what is known before the move, by whether anything is
known : (w : World) (r : Run) (m : Move) (marks : Marks) (a : Ahead) (o : _) → IsAhead w r m marks a → a.next ≡ o → StandsIf w r m marks o
known w r m marks a o ahead is = subst (StandsIf w r m marks) is ahead.next

pub returns-then-own_done-ahead-clause-first : goal.returns-then-own_done-ahead-clause-first
returns-then-own_done-ahead-clause-first c w ms m x acc ahead shows are =
    let r : Run = run w ms in
    let next : Run = step w r (m, x) in
    quiet-first w ms m x (marks_of c.args.self.now.marks) c.args.self.now.unused are
    (not-more c.own_done.result c.args.ahead.now.own r.own_done next.own_done c.if-own_done-ahead.true ahead.own (c.own_done.ensures w next shows))

pub returns-then-own_done-ahead-clause-marks : goal.returns-then-own_done-ahead-clause-marks
returns-then-own_done-ahead-clause-marks c w ms m x acc ahead shows are going =
    let r : Run = run w ms in
    let next : Run = step w r (m, x) in
    quiet-kept w ms m x (marks_of c.args.self.now.marks) c.args.self.now.unused are
    (not-more c.own_done.result c.args.ahead.now.own r.own_done next.own_done c.if-own_done-ahead.true ahead.own (c.own_done.ensures w next shows)) going

pub returns-in_default-clause-first : goal.returns-in_default-clause-first
returns-in_default-clause-first c w ms m x acc ahead shows are =
    unknown-first w ms m x (marks_of c.args.self.now.marks) c.args.self.now.unused are (known w (run w ms) m (marks_of c.args.self.now.marks) c.args.ahead.now None ahead c.in_default.is x)

pub returns-in_default-clause-marks : goal.returns-in_default-clause-marks
returns-in_default-clause-marks c w ms m x acc ahead shows are going =
    unknown-kept w ms m x (marks_of c.args.self.now.marks) c.args.self.now.unused are (known w (run w ms) m (marks_of c.args.self.now.marks) c.args.ahead.now None ahead c.in_default.is x) going

pub returns-clause-first : goal.returns-clause-first
returns-clause-first c w ms m x acc ahead shows are =
    let r : Run = run w ms in
    let next : Run = step w r (m, x) in
    let marks : Marks = marks_of c.args.self.now.marks in
    let completed = more c.own_done.result c.args.ahead.now.own r.own_done next.own_done c.if-own_done-ahead.false ahead.own (c.own_done.ensures w next shows) in
    let stands = known w r m marks c.args.ahead.now (Some c.in-Some.next) ahead c.in-Some.is in
    c.both-first.ensures ∙ passed-first w ms m x marks c.args.self.now.unused are acc completed stands.0 stands.1 c.in-Some.next stands.2

pub returns-clause-marks : goal.returns-clause-marks
returns-clause-marks c w ms m x acc ahead shows are going =
    let r : Run = run w ms in
    let next : Run = step w r (m, x) in
    let marks : Marks = marks_of c.args.self.now.marks in
    let completed = more c.own_done.result c.args.ahead.now.own r.own_done next.own_done c.if-own_done-ahead.false ahead.own (c.own_done.ensures w next shows) in
    let stands = known w r m marks c.args.ahead.now (Some c.in-Some.next) ahead c.in-Some.is in
    subst (λ b. AreMarksOf w next (numbers_then (numbers_of w ms) r next) (marks_of c.pass.new.self) b) (sym c.both-self.ensures)
    (passed-kept w ms m x marks c.args.self.now.unused are acc completed stands.0 stands.1 c.in-Some.next stands.2 (marks_of c.pass.new.self) c.in_ok-pass.ensures.ok)
