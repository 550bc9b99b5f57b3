-- Why a run has ended by a fault, by what the outside counts, whatever it said before (this project's own).
use Rattle.std.specs.Prelude.{◌≡◌, ◌⊎◌, ◌≤◌, Option, Some, None}
use Rattle.world_io.specs.Outside.{Rose}
use Rattle.plain_runner.specs.Runs.{Outside}
use Rattle.runner_parts.specs.declared.turn.End.{End}
use Rattle.runner_parts.specs.declared.turn.End.TheVariants as ending
use Rattle.runner_parts.specs.declared.turn.Turn.{Turn}
use Rattle.runner_parts.specs.declared.turn.Turn.TheVariants.{Went, Idle, Ended, StoreFault, SinkFault, NoMemory}

-- no count of faults fell
pub record IsLater (old new : Outside) : Type 0 where
  pub store : old.store.faults ≤ new.store.faults
  pub out : old.out.faults ≤ new.out.faults
  pub err : old.err.faults ≤ new.err.faults

-- the count of a sink rose
abbrev pub SinkRose : Outside → Outside → Type 0
SinkRose old new = Rose old.out.faults new.out.faults ⊎ Rose old.err.faults new.err.faults

-- a run that a fault has ended meanwhile: the count of the store rose, or that of a sink
abbrev pub EndHasCause : Option End → Outside → Outside → Type 0
EndHasCause (Some ending.Store) old new = Rose old.store.faults new.store.faults
EndHasCause (Some ending.Sink) old new = SinkRose old new
EndHasCause (Some (ending.Exit code)) old new = Unit {0}
EndHasCause (Some (ending.Trap cause pc)) old new = Unit {0}
EndHasCause None old new = Unit {0}

-- the same of a move that tells a fault
abbrev pub FaultHasCause : Turn → Outside → Outside → Type 0
FaultHasCause StoreFault old new = Rose old.store.faults new.store.faults
FaultHasCause SinkFault old new = SinkRose old new
FaultHasCause Went old new = Unit {0}
FaultHasCause Idle old new = Unit {0}
FaultHasCause (Ended end) old new = Unit {0}
FaultHasCause NoMemory old new = Unit {0}

-- how the run stands behind a move that tells this
abbrev pub TellsEnd : Turn → Option End → Type 0
TellsEnd Went e = e ≡ None
TellsEnd Idle e = e ≡ None
TellsEnd (Ended end) e = e ≡ Some end
TellsEnd StoreFault e = e ≡ Some ending.Store
TellsEnd SinkFault e = e ≡ Some ending.Sink
TellsEnd NoMemory e = e ≡ None

-- no count fell, and the end, if there is one, has its cause
pub record IsCaused (end : Option End) (old new : Outside) : Type 0 where
  pub later : IsLater old new
  pub cause : EndHasCause end old new
