-- What a program does by itself doesn't speak of the store.
use Rattle.spec_base.specs.Files.{Files}
use Rattle.world_io.specs.Outside.{StoreState}
use Rattle.program_model.specs.PlainRun.{Image as Program}
use Rattle.plain_runner.specs.Runs.{Outside}
use Rattle.plain_runner.specs.declared.ending.Ending.{Ending}
use Rattle.run_promises.specs.Promises.{IsAsPlain}

-- what a program does by itself is said of the sinks alone
pub as_plain-store : (p : Program) (files : Files) (end : Ending) (store : StoreState) (old new : Outside) → IsAsPlain p files end (record old { store = store }) new → IsAsPlain p files end old new
as_plain-store p files end store old new h =
    record {
      n = h.n;
      state = h.state;
      outs = h.outs;
      errs = h.errs;
      reached = h.reached;
      out_is = h.out_is;
      err_is = h.err_is;
      ends = h.ends;
      out_fault = h.out_fault;
      err_fault = h.err_fault;
      failed = h.failed;
      out_log = h.out_log;
      err_log = h.err_log;
    }
