-- What the execution of an instruction comes to, of a hart whose pc is kept apart (this project's own).
use Rattle.std.specs.Prelude.{◌≡◌, ◌≢◌, ℕ}
use Rattle.spec_base.specs.declared.machine.View.{View}
use Rattle.rv_decode.specs.declared.instr.Instr.{Instr}
use Rattle.rv_model.specs.Memory.{Memory}
use Rattle.rv_model.specs.Registers.{Registers}
use Rattle.rv_model.specs.Rights.{Rights}
use Rattle.rv_model.specs.Effect.{effect, gate_effect}
use Rattle.hart_mem.specs.Held.{Held, UsesSpare, lacks_frame, pages_stored, space_of, spare_of}
use Rattle.hart_step.specs.Core.{Core}
use Rattle.hart_step.specs.Step.{stepped, effect_of}
use Rattle.hart_step.specs.Flows.{core_at, flow_outcome, OnStop}
use Rattle.hart_step.specs.declared.event.Event.TheVariants as event
use Rattle.hart_step.specs.declared.flow.Flow.{Flow}
use Rattle.hart_step.specs.declared.flow.Flow.TheVariants as flow

-- an instruction at a pc came to this, and led from one hart and memory to others: by its effect, and the memory changes only where it completes
pub record Executes (i : Instr) (pc : ℕ) (f : Flow) (c : Core) (h : Held) (next : Core) (there : Held) : Type 0 where
  pub outcome : flow_outcome f next (space_of there) ≡ stepped (lacks_frame c.view h) (effect_of (core_at c pc) (space_of h) i) (core_at c pc) (space_of h)
  pub told : f ≢ flow.Stop event.Done
  pub memory : OnStop f (there ≡ h)
  pub uses : UsesSpare h there
  pub kept : pages_stored c.view ≡ 0 → spare_of there ≡ spare_of h

-- it leaves the memory, whatever that is
abbrev pub ExecutesAlone : Instr → ℕ → Flow → Core → Core → Type 0
ExecutesAlone i pc f c next = (h : Held) → Executes i pc f c h next h

-- a gate instruction, which does nothing where it isn't met
abbrev pub IsGate : Instr → Type 0
IsGate i = (v : View) (r : Rights) (m : Memory) (rs : Registers) (pc : ℕ) → effect v r m rs pc i ≡ gate_effect v i
