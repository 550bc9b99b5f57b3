-- The report line of a run (this project's own).
use Rattle.std.specs.Prelude.{ℕ, List, ◌++◌, codes, decimal}
use Rattle.spec_base.specs.declared.note.ShadowState.{ShadowState}
use Rattle.spec_base.specs.declared.note.ShadowState.TheVariants.{Never, Running, Stopped, Parked}
use Rattle.trace_text.specs.declared.reporting.Counts.{Counts}
use Rattle.trace_text.specs.Line.{park_name}

abbrev pub state_text : ShadowState → List ℕ
state_text Never = codes "never"
state_text Running = codes "running"
state_text Stopped = codes "stopped"
state_text (Parked cause) = codes "parked " ++ park_name cause

abbrev pub report_of : Counts → List ℕ
report_of c =
    codes "spechint: instructions " ++ decimal c.instructions
    ++ codes " stalls " ++ decimal c.stalls
    ++ codes " restarts " ++ decimal c.restarts
    ++ codes " matched " ++ decimal c.matched
    ++ codes " hints " ++ decimal c.hints
    ++ codes " regions " ++ decimal c.regions
    ++ codes " shadow " ++ decimal c.shadow
    ++ codes " " ++ state_text c.state
    ++ codes "\n"
