-- The run after a word of the shadow, as hart and memory show it after the word (this project's own).
use Rattle.std.specs.Prelude.{◌≡◌, Some}
use Rattle.spec_base.specs.declared.machine.View.TheVariants.{Shadow}
use Rattle.spec_base.specs.declared.park.Park.TheVariants as park
use Rattle.rv_decode.specs.declared.instr.Instr.{Instr}
use Rattle.rv_decode.specs.declared.instr.Instr.TheVariants.{Hkey, Hcall}
use Rattle.rv_model.specs.Space.{Space}
use Rattle.run_model.specs.Run.{World, Run, Answer}
use Rattle.run_model.specs.ShadowMoves.{fetch_shadow, is_call_word, shadow_step, shadow_gate, arrived, parked, word_counted}
use Rattle.run_laws.specs.OwnLaws.{Accepted}
use Rattle.machine_laws.specs.OneMachine.{space_of_run}
use Rattle.hart_mem.specs.Held.{Held}
use Rattle.hart_step.specs.Core.{Core}
use Rattle.hart_step.specs.declared.event.Event.{Event}
use Rattle.hart_step.specs.declared.event.Event.TheVariants as event
use Rattle.word_laws.specs.Shown.{IsStep, tells_call, ShowsShadow, with_shadow}

-- the shadow stands at an HKEY or an HCALL, and hart and memory are as they were. The move is made once it is answered
pub record MeetsGate (gate : Instr) (w : World) (r : Run) (c : Core) (s : Space) : Type 0 where
  pub word : fetch_shadow w r.shadow.pc ≡ Some gate
  pub same : with_shadow r c s ≡ r
  pub moves : (x : Answer) → shadow_step w x r ≡ word_counted (arrived w.image.layout (shadow_gate w x r gate))

-- the run after the shadow's move, by the event of the step. In these c and s are hart and memory after it
abbrev pub WordLeads : Event → World → Run → Core → Space → Type 0
WordLeads event.Done w r c s = (x : Answer) → shadow_step w x r ≡ word_counted (arrived w.image.layout (with_shadow r c s))
WordLeads (event.Park cause) w r c s = (x : Answer) → shadow_step w x r ≡ word_counted (parked (with_shadow r c s) cause)
WordLeads (event.Trap trap) w r c s = (x : Answer) → shadow_step w x r ≡ word_counted (parked (with_shadow r c s) park.Fault)
WordLeads (event.Key rd) w r c s = MeetsGate (Hkey rd) w r c s
WordLeads (event.Call unhinted) w r c s = MeetsGate (Hcall unhinted) w r c s
WordLeads _ w r c s = ⊥

-- and the rest of what a step tells: hart and memory show the run with what they have, and whether a call stood there
pub record ShadowGoes (e : Event) (w : World) (r : Run) (c : Core) (s : Space) : Type 0 where
  pub leads : WordLeads e w r c s
  pub view : c.view ≡ Shadow
  pub space : s ≡ space_of_run w (with_shadow r c s)
  pub calls : is_call_word (fetch_shadow w r.shadow.pc) ≡ tells_call e

-- in every run of an accepted program whose shadow is running
abbrev pub ShadowWordsLead : Type 0
ShadowWordsLead =
    (w : World) (r : Run) → Accepted w → (h : Held) (e : Event) (c : Core) (s : Space) (d : Core) (t : Space) → ShowsShadow w r c s → IsStep h e c s d t → ShadowGoes e w r d t
