use Rattle.std.proofs.Common.{◌≡◌, ◌∙◌, ap, sym, suc, true, false}
use Rattle.spec_base.specs.Listed.{is_listed}
use Rattle.use_marks.specs.Along.{filled_by, tells_fill}
use Rattle.program_driver.proofs.Using.{fill-more}
use Rattle.program_driver.proofs.uses.UseTrace.learn_fill.Goals as goal

pub returns-then-not-tells_fill-clause-filled : goal.returns-then-not-tells_fill-clause-filled
returns-then-not-tells_fill-clause-filled c w r next is shows keeps n =
    let told : tells_fill next.notes ≡ false = ap tells_fill (sym (c.notes.ensures w next shows)) ∙ sym c.tells_fill.ensures ∙ c.if-not-tells_fill.true in
    keeps n ∙ ap (λ b. is_listed (filled_by false b r) (suc n)) (sym told)

pub returns-clause-filled : goal.returns-clause-filled
returns-clause-filled c w r next is shows keeps n =
    let told : tells_fill next.notes ≡ true = ap tells_fill (sym (c.notes.ensures w next shows)) ∙ sym c.tells_fill.ensures ∙ c.if-not-tells_fill.false in
    fill-more c.args.self.now.filled c.insert.new.self r.since.filled c.args.shadow r.since.shadow is c.in_ok-insert.ensures.updates keeps n
    ∙ ap (λ b. is_listed (filled_by false b r) (suc n)) (sym told)
