-- When a hart and a memory show a hart of a run, and the run with what they have (this project's own).
use Rattle.std.specs.Prelude.{◌≡◌, Bool, true, false, Option, Some}
use Rattle.spec_base.specs.declared.machine.View.{View}
use Rattle.spec_base.specs.declared.machine.View.TheVariants.{Plain, Program, Stub, Shadow}
use Rattle.spec_base.specs.declared.note.ShadowState.{ShadowState}
use Rattle.spec_base.specs.declared.note.ShadowState.TheVariants.{Running}
use Rattle.rv_decode.specs.declared.instr.Instr.{Instr}
use Rattle.rv_decode.specs.declared.instr.Instr.TheVariants.{Hcall}
use Rattle.rv_model.specs.Space.{Space}
use Rattle.run_model.specs.Run.{World, Run}
use Rattle.machine_laws.specs.OneMachine.{space_of_run}
use Rattle.hart_mem.specs.Held.{Held, lacks_frame}
use Rattle.hart_step.specs.Core.{Core}
use Rattle.hart_step.specs.Step.{outcome, stepped, effect_here}
use Rattle.hart_step.specs.declared.event.Event.{Event}
use Rattle.hart_step.specs.declared.event.Event.TheVariants as event

-- ---- a step

-- a step of a hart c over a memory s tells this, and leaves d and t
abbrev pub IsStep : Held → Event → Core → Space → Core → Space → Type 0
IsStep h e c s d t = outcome e d t ≡ stepped (lacks_frame c.view h) (effect_here c s) c s

-- whether a step tells of an HCALL
abbrev pub tells_call : Event → Bool
tells_call (event.Call unhinted) = true
tells_call _ = false

-- ---- the shadow

-- hart and memory show a run whose shadow is in this state. The registers are the same function, since a run writes them as a hart does
pub record ShowsIn (at : ShadowState) (w : World) (r : Run) (c : Core) (s : Space) : Type 0 where
  pub view : c.view ≡ Shadow
  pub registers : c.registers ≡ r.shadow.registers
  pub pc : c.pc ≡ r.shadow.pc
  pub space : s ≡ space_of_run w r
  pub state : r.shadow.state ≡ at

-- they show a run whose shadow is running
abbrev pub ShowsShadow : World → Run → Core → Space → Type 0
ShowsShadow = ShowsIn Running

-- the run whose shadow has the registers and the pc of a hart, and the parts of a memory that a shadow may store to
abbrev pub with_shadow : Run → Core → Space → Run
with_shadow r c s = record r { shadow = record r.shadow { registers = c.registers; pc = c.pc }; shared = s.shared; shadow_page = s.shadow_page }

-- ---- the own hart

-- the own hart of a run
abbrev pub own_core : Run → Core
own_core r = record { registers = r.own.registers; pc = r.own.pc; view = r.view; site = r.site }

-- hart and memory show a run whose own hart is in this view
pub record ShowsOwn (v : View) (w : World) (r : Run) (c : Core) (s : Space) : Type 0 where
  pub view : r.view ≡ v
  pub hart : c ≡ own_core r
  pub space : s ≡ space_of_run w r

-- the run whose own hart has the registers, the pc, the view and the site of a hart, and the parts of a memory that an own hart may store to
abbrev pub with_own : Run → Core → Space → Run
with_own r c s =
    record r { own = record r.own { registers = c.registers; pc = c.pc; memory = s.program }; site = c.site; view = c.view; own_page = s.stub_page; shared = s.shared }

-- an own hart is in the program or in the stub
abbrev pub is_own_view : View → Bool
is_own_view Program = true
is_own_view Stub = true
is_own_view Plain = false
is_own_view Shadow = false

-- an instruction of the stub that performs a call: HCALL 0
abbrev pub is_performed : Option Instr → Bool
is_performed (Some (Hcall false)) = true
is_performed _ = false
