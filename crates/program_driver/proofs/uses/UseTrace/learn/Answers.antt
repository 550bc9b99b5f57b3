use Rattle.std.proofs.Common.{◌≡◌, ◌∙◌, ◌&&◌, ap, sym, subst, true, false}
use Rattle.std.specs.Prelude.{is_some, IfSome, Result, Ok, Err, OnErr}
use Rattle.run_model.specs.Moves.{run, step}
use Rattle.use_marks.specs.Marked.{marks_of}
use Rattle.use_marks.specs.Along.{numbers_of, completes_first_use}
use Rattle.program_driver.specs.Uses.{IsAhead}
use Rattle.program_driver.proofs.uses.UseTrace.learn.Goals as goal

pub returns-in_default-clause-first : goal.returns-in_default-clause-first
returns-in_default-clause-first c w ms m x acc ahead shows has =
    let off : c.args.self.now.on ≡ false = sym c.requires ∙ ap is_some c.in_default.is in
    sym (ap (λ b. b && completes_first_use w (numbers_of w ms) (run w ms) (step w (run w ms) (m, x))) off)

pub returns-in_default-clause-keeps : goal.returns-in_default-clause-keeps
returns-in_default-clause-keeps c w ms m x acc ahead shows has on =
    let off : c.args.self.now.on ≡ false = sym c.requires ∙ ap is_some c.in_default.is in
    absurd (let e : true ≡ false = sym on ∙ off in cc)

on-err : {A E P : Type 0} (r : Result A E) → P → OnErr r P
on-err (Ok x) p = tt
on-err (Err e) p = p

pub returns-in_err-first-clause-err : goal.returns-in_err-first-clause-err
returns-in_err-first-clause-err c = on-err c.from_residual.result (sym c.requires ∙ ap is_some c.in-Some.is)

pub returns-clause-first : goal.returns-clause-first
returns-clause-first c w ms m x acc ahead shows has =
    let on : c.args.self.now.on ≡ true = sym c.requires ∙ ap is_some c.in-Some.is in
    c.in_ok-first.ensures.first w ms m x acc (subst (λ o. IfSome o (λ a. IsAhead w (run w ms) m (marks_of c.args.self.now.marks) a)) c.in-Some.is ahead) shows (has on)
    ∙ ap (λ b. b && completes_first_use w (numbers_of w ms) (run w ms) (step w (run w ms) (m, x))) (sym on)

pub returns-clause-keeps : goal.returns-clause-keeps
returns-clause-keeps c w ms m x acc ahead shows has after =
    let on : c.args.self.now.on ≡ true = sym c.requires ∙ ap is_some c.in-Some.is in
    c.in_ok-first.ensures.keeps w ms m x acc (subst (λ o. IfSome o (λ a. IsAhead w (run w ms) m (marks_of c.args.self.now.marks) a)) c.in-Some.is ahead) shows (has on)
