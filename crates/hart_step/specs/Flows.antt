-- A hart whose pc is kept apart, and what an instruction comes to (this project's own).
use Rattle.std.specs.Prelude.{ℕ}
use Rattle.rv_model.specs.Space.{Space}
use Rattle.hart_step.specs.Core.{Core}
use Rattle.hart_step.specs.Step.{Outcome, outcome}
use Rattle.hart_step.specs.declared.event.Event.TheVariants as event
use Rattle.hart_step.specs.declared.flow.Flow.{Flow}
use Rattle.hart_step.specs.declared.flow.Flow.TheVariants.{Next, Stop}

-- a hart at this pc
abbrev pub core_at : Core → ℕ → Core
core_at c pc = record c { pc = pc }

-- an instruction completed, and the hart goes on at a pc; or it told something, and the hart stands at its own
abbrev pub flow_outcome : Flow → Core → Space → Outcome
flow_outcome (Next pc) c s = outcome event.Done (core_at c pc) s
flow_outcome (Stop told) c s = outcome told c s

-- a fact where something was told
abbrev pub OnStop : Flow → Type 0 → Type 0
OnStop (Next pc) P = Unit {0}
OnStop (Stop told) P = P
