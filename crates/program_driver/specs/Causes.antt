-- Why a run has ended by a fault, by what the outside counts, whatever it said before (this project's own).
use Rattle.std.specs.Prelude.{◌≡◌, ◌≤◌, Result, Err}
use Rattle.plain_runner.specs.Runs.{Outside}
use Rattle.plain_runner.specs.declared.ending.Ending.{Ending}
use Rattle.plain_runner.specs.declared.ending.Ending.TheVariants.{Exited, Trapped, TurnsOver, StoreFault, SinkFault, NoMemory}
use Rattle.world_io.specs.Outside.{SinkState, Rose}
use Rattle.runner.specs.Causes.{SinkRose}
use Rattle.program_driver.specs.declared.lines.LineFault.{LineFault}
use Rattle.program_driver.specs.declared.lines.LineFault.TheVariants.{Sink}

-- a fault of the store: its count of faults rose; a fault of a sink: the count of standard output or of standard error rose
abbrev pub HasCause : Ending → Outside → Outside → Type 0
HasCause StoreFault old new = Rose old.store.faults new.store.faults
HasCause SinkFault old new = SinkRose old new
HasCause (Exited code) old new = Unit {0}
HasCause (Trapped cause pc) old new = Unit {0}
HasCause (TurnsOver count) old new = Unit {0}
HasCause NoMemory old new = Unit {0}

-- lines that were put, or some: the sink's count didn't fall, and where a put failed it rose
pub record CountsLines (answer : Result (Unit {0}) LineFault) (old new : SinkState) : Type 0 where
  pub later : old.faults ≤ new.faults
  pub rose : answer ≡ Err Sink → Rose old.faults new.faults
