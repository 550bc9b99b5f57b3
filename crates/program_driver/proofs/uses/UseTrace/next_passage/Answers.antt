use Rattle.std.proofs.Common.{◌∙◌, inl, inr, sym, arith}
use Rattle.run_model.specs.Run.{Run}
use Rattle.run_model.specs.Moves.{run}
use Rattle.use_marks.proofs.Completing.{completes-only-shown}
use Rattle.program_driver.proofs.Using.{no-restart, cut-short}
use Rattle.program_driver.proofs.uses.UseTrace.next_passage.Goals as goal

pub returns-then-restarts-eq0 : goal.returns-then-restarts-eq0
returns-then-restarts-eq0 c w ms m acc shows keeps x =
    let r : Run = run w ms in
    inl (no-restart r.restarts c.restarts.result r.since.whole c.if-restarts-eq0.true (c.restarts.ensures w r shows))

pub returns-then-not-whole : goal.returns-then-not-whole
returns-then-not-whole c w ms m acc shows keeps x =
    let r : Run = run w ms in
    inl (cut-short r.restarts c.whole.result r.since.whole c.if-not-whole.true (c.whole.ensures w r shows))

pub returns-in-Some : goal.returns-in-Some
returns-in-Some c w ms m acc shows keeps =
    let r : Run = run w ms in
    let counted = c.restarts.ensures w r shows in (
      omega (arith, c.if-restarts-eq0.false, counted),
      sym (c.whole.ensures w r shows) ∙ c.if-not-whole.false,
      c.passage.ensures w r shows keeps.filled (sym (c.own_instr.ensures w r acc shows) ∙ c.in-Some.is),
    )

pub returns-in-None : goal.returns-in-None
returns-in-None c w ms m acc shows keeps x =
    inr (completes-only-shown w acc ms (m, x) (sym (c.own_instr.ensures w (run w ms) acc shows) ∙ c.in-None.is))
