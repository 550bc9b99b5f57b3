-- Turns in which no sink is asked: one that goes on, and one that ends the run.
use Rattle.std.proofs.Common.{◌≡◌, ℕ, false, List, [], Option, Some, None}
use Rattle.std.specs.Prelude.{All}
use Rattle.std.proofs.Math.ListN.{replicate}
use Rattle.spec_base.specs.Files.{Files}
use Rattle.rv_model.specs.Space.{Space}
use Rattle.program_model.specs.Descriptors.{Descriptors}
use Rattle.program_model.specs.PlainRun.{State, Image as Program}
use Rattle.world_io.specs.Outside.{StoreState}
use Rattle.world_io.specs.Logs.{StoreLog}
use Rattle.world_io.proofs.Sinks.{none-SinkLog}
use Rattle.hart_step.specs.Core.{Core}
use Rattle.plain_runner.specs.declared.ending.Ending.{Ending}
use Rattle.plain_runner.specs.StoreCalls.{next_calls}
use Rattle.plain_runner.specs.Answers.{Answer, Answers}
use Rattle.plain_runner.specs.Runs.{Outside, Shows, FailedPuts}
use Rattle.plain_runner.specs.Turns.{Completes, GoesOn, Stops, EndsIn, LastCalls}

pub silent-GoesOn : (p : Program) (s next : State) (answers : List Answer) (o : Outside) (st : StoreState) (core : Core) (space : Space) (f : Descriptors)
    → Completes p s next answers [] [] → ((files : Files) → o.store.files ≡ Some files → All (Answers files) answers) → Shows p core space f next
    → StoreLog o.store (replicate (next_calls p s) false) st → GoesOn p s o core space f (record o { store = st })
silent-GoesOn p s next answers o st core space f completes told shows log =
    record {
      next = next;
      answers = answers;
      outs = [];
      errs = [];
      completes = completes;
      told = told;
      shows = shows;
      store_log = log;
      out_log = none-SinkLog o.out;
      err_log = none-SinkLog o.err;
    }

pub silent-Stops : (p : Program) (s : State) (e : Ending) (o : Outside) (st : StoreState) (core : Core) (space : Space) (f : Descriptors)
    → EndsIn p s e → Shows p core space f s → LastCalls p s e o.store st → FailedPuts p s e None None → Stops p s e o core space f (record o { store = st })
silent-Stops p s e o st core space f ends shows called failed =
    record {
      ends = ends;
      shows = shows;
      called = called;
      out_fault = None;
      err_fault = None;
      failed = failed;
      out_log = none-SinkLog o.out;
      err_log = none-SinkLog o.err;
    }
