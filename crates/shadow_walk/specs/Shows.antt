-- What the shadow's move is by the event of a step (this project's own).
use Rattle.std.specs.Prelude.{ℕ, ◌≡◌, Bool, Some}
use Rattle.spec_base.specs.declared.note.ShadowState.TheVariants.{Parked}
use Rattle.spec_base.specs.declared.park.Park.TheVariants.{Fault}
use Rattle.rv_decode.specs.declared.instr.Instr.TheVariants.{Hkey, Hcall}
use Rattle.rv_model.specs.Registers.{with_reg}
use Rattle.rv_model.specs.Effect.{after}
use Rattle.rv_model.specs.Space.{Space}
use Rattle.program_model.specs.Calls.{key_of}
use Rattle.run_model.specs.Run.{World, Run, Answer}
use Rattle.run_model.specs.ShadowMoves.{fetch_shadow, shadow_plan, shadow_step}
use Rattle.hart_step.specs.Core.{Core}
use Rattle.hart_step.specs.declared.event.Event.{Event}
use Rattle.hart_step.specs.declared.event.Event.TheVariants as event
use Rattle.word_laws.specs.Shown.{ShowsIn, ShowsShadow}

-- ---- one move. In these c and s are the hart and the memory before a step, and d and t those after it

-- HKEY changes nothing. The move is made once the register has the key of the planned call and the hart has gone on
pub record AtKey (rd : ℕ) (w : World) (r : Run) (c : Core) (s : Space) (d : Core) (t : Space) : Type 0 where
  pub word : fetch_shadow w r.shadow.pc ≡ Some (Hkey rd)
  pub hart : d ≡ c
  pub memory : t ≡ s
  pub answered : (x : Answer) → ShowsShadow w (shadow_step w x r) (record c { registers = with_reg c.registers rd (key_of (shadow_plan w r)); pc = after c.pc }) s

-- HCALL changes nothing
pub record AtCall (unhinted : Bool) (w : World) (r : Run) (c : Core) (s : Space) (d : Core) (t : Space) : Type 0 where
  pub word : fetch_shadow w r.shadow.pc ≡ Some (Hcall unhinted)
  pub hart : d ≡ c
  pub memory : t ≡ s

-- what the event of a step tells of the shadow's move, whatever the outside answers: the move is made, and the shadow runs or is parked, by Fault where the word traps; or it waits for a key or a call. No other event comes
abbrev pub MovesBy : Event → World → Run → Core → Space → Core → Space → Type 0
MovesBy event.Done w r c s d t = (x : Answer) → ShowsShadow w (shadow_step w x r) d t
MovesBy (event.Park cause) w r c s d t = (x : Answer) → ShowsIn (Parked cause) w (shadow_step w x r) d t
MovesBy (event.Trap trap) w r c s d t = (x : Answer) → ShowsIn (Parked Fault) w (shadow_step w x r) d t
MovesBy (event.Key rd) w r c s d t = AtKey rd w r c s d t
MovesBy (event.Call unhinted) w r c s d t = AtCall unhinted w r c s d t
MovesBy _ w r c s d t = ⊥
