-- What a step of a shadow hart comes to, of a hart whose pc is kept apart (this project's own).
use Rattle.std.specs.Prelude.{◌≡◌, ◌≢◌, ℕ, ◌%◌, ◌==◌, ◌||◌, Bool, true, false}
use Rattle.rv_decode.specs.declared.instr.Instr.{Instr}
use Rattle.rv_decode.specs.declared.instr.Instr.TheVariants.{Store}
use Rattle.rv_model.specs.Effect.{Effect}
use Rattle.rv_model.specs.Space.{Space}
use Rattle.hart_mem.specs.Held.{Held, lacks_frame}
use Rattle.hart_step.specs.Core.{Core}
use Rattle.hart_step.specs.Step.{outcome, stepped}
use Rattle.hart_step.specs.Flows.{core_at}
use Rattle.hart_step.specs.ShadowSteps.{is_look_due}
use Rattle.hart_step.specs.declared.event.Event.{Event}
use Rattle.hart_step.specs.declared.event.Event.TheVariants as event
use Rattle.hart_step.specs.declared.flow.Flow.{Flow}
use Rattle.hart_step.specs.declared.flow.Flow.TheVariants as flow
use Rattle.hart_step.specs.declared.flow.Flow.TheVariants.{Next}
use Rattle.hart_step.specs.declared.shadow.Stride.{Stride}
use Rattle.hart_step.specs.declared.shadow.Stride.TheVariants.{Pass, Look, Stop}

-- an instruction that stores
abbrev pub is_store : Instr → Bool
is_store (Store op rs1 rs2 imm) = true
is_store other = false

-- what an instruction that stores, or doesn't, comes to
abbrev pub stride_if : Bool → ℕ → Stride
stride_if true pc = Look pc
stride_if false pc = Pass pc

abbrev pub stride_of : Flow → Bool → Stride
stride_of (Next pc) stores = stride_if (stores || (pc % 64 == 4)) pc
stride_of (flow.Stop told) stores = Stop told

-- an effect completed, the memory is as before, and no look is due
pub record Passed (h : Held) (e : Effect) (c : Core) (s : Space) (next : Core) (there : Space) : Type 0 where
  pub still : there ≡ s
  pub step : outcome event.Done next there ≡ stepped (lacks_frame c.view h) e c s
  pub quiet : is_look_due e next ≡ false

-- an effect completed, and a look is due
pub record Looked (h : Held) (e : Effect) (c : Core) (s : Space) (next : Core) (there : Space) : Type 0 where
  pub step : outcome event.Done next there ≡ stepped (lacks_frame c.view h) e c s
  pub due : is_look_due e next ≡ true

-- it told something else, and that isn't the want of a frame
pub record Stopped (told : Event) (h : Held) (e : Effect) (c : Core) (s : Space) (next : Core) (there : Space) : Type 0 where
  pub other : told ≢ event.Done
  pub never : told ≢ event.NoMemory
  pub still : there ≡ s
  pub step : outcome told next there ≡ stepped (lacks_frame c.view h) e c s

abbrev pub Comes : Stride → Held → Effect → Core → Space → Core → Space → Type 0
Comes (Pass pc) h e c s next there = Passed h e c s (core_at next pc) there
Comes (Look pc) h e c s next there = Looked h e c s (core_at next pc) there
Comes (Stop told) h e c s next there = Stopped told h e c s next there
