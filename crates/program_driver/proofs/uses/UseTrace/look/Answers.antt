use Rattle.std.proofs.Common.{sym}
use Rattle.run_model.specs.Run.{Run}
use Rattle.run_model.specs.Moves.{run}
use Rattle.program_driver.proofs.uses.UseTrace.look.Goals as goal

pub returns-then-not-self-clause-asked : goal.returns-then-not-self-clause-asked
returns-then-not-self-clause-asked c = sym c.if-not-self.true

pub returns-clause-asked : goal.returns-clause-asked
returns-clause-asked c = sym c.if-not-self.false

pub returns-clause-ahead : goal.returns-clause-ahead
returns-clause-ahead c w ms acc shows has =
    let r : Run = run w ms in
    record {
      own = c.own_done.ensures w r shows;
      shadow = c.shadow_done.ensures w r shows;
      restarts = c.restarts.ensures w r shows;
      next = c.move_passage.ensures w ms acc shows (has c.if-not-self.false);
    }
