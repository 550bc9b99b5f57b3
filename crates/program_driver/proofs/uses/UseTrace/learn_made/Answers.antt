use Rattle.std.proofs.Common.{◌≡◌, ◌∙◌, ℕ, sym, suc, subst}
use Rattle.std.specs.BTreeSet.{contains}
use Rattle.std.specs.Ordering.{nat_cmp}
use Rattle.spec_base.specs.Listed.{is_listed}
use Rattle.run_model.specs.Run.{Run}
use Rattle.run_model.specs.Moves.{run, step}
use Rattle.use_marks.specs.Marked.{marks_of}
use Rattle.use_marks.specs.Along.{AreMarksOf, numbers_of, numbers_then}
use Rattle.program_driver.proofs.Using.{not-more, more, restarted-keeps, going-keeps}
use Rattle.program_driver.proofs.uses.UseTrace.learn_made.Goals as goal

pub returns-then-ahead-restarts-clause-first : goal.returns-then-ahead-restarts-clause-first
returns-then-ahead-restarts-clause-first c w ms m x acc ahead shows k = c.in_ok-first.ensures.first w ms m x acc ahead shows k.marks

pub returns-then-ahead-restarts-clause-keeps : goal.returns-then-ahead-restarts-clause-keeps
returns-then-ahead-restarts-clause-keeps c w ms m x acc ahead shows k =
    let r : Run = run w ms in
    let next : Run = step w r (m, x) in
    restarted-keeps w ms m x c.restart.new.self
    (more c.restarts.result c.args.ahead.now.restarts r.restarts next.restarts c.if-ahead-restarts.true ahead.restarts (c.restarts.ensures w next shows))
    c.restart.ensures.marks c.restart.ensures.unused c.restart.ensures.filled

pub returns-then-ahead-restarts-clause-on : goal.returns-then-ahead-restarts-clause-on
returns-then-ahead-restarts-clause-on c = c.restart.ensures.on ∙ c.pass.ensures.on

pub returns-clause-first : goal.returns-clause-first
returns-clause-first c w ms m x acc ahead shows k = c.in_ok-first.ensures.first w ms m x acc ahead shows k.marks

pub returns-clause-keeps : goal.returns-clause-keeps
returns-clause-keeps c w ms m x acc ahead shows k =
    let r : Run = run w ms in
    let next : Run = step w r (m, x) in
    let going = not-more c.restarts.result c.args.ahead.now.restarts r.restarts next.restarts c.if-ahead-restarts.false ahead.restarts (c.restarts.ensures w next shows) in
    let marks = c.in_ok-first.ensures.marks w ms m x acc ahead shows k.marks going in
    going-keeps w ms m x c.learn_fill.new.self going
    (subst (λ b. AreMarksOf w next (numbers_then (numbers_of w ms) r next) (marks_of c.learn_fill.new.self.marks) b) (sym c.learn_fill.ensures.unused)
    (subst (λ k. AreMarksOf w next (numbers_then (numbers_of w ms) r next) (marks_of k) c.pass.new.self.unused) (sym c.learn_fill.ensures.marks) marks))
    (c.in_ok-learn_fill.ensures.filled w r next ahead.shadow shows (subst (λ s. (n : ℕ) → contains nat_cmp s n ≡ is_listed r.since.filled (suc n)) (sym c.pass.ensures.filled) k.filled))

pub returns-clause-on : goal.returns-clause-on
returns-clause-on c = c.learn_fill.ensures.on ∙ c.pass.ensures.on
