-- A move of the shadow, and what it asks.
use Rattle.std.proofs.Common.{◌≡◌, ℕ, Bool, true, false, not, ◌&&◌, ◌||◌, Option, Some, None, refl, sym, ap, subst, ◌∙◌}
use Rattle.spec_base.specs.declared.machine.Trap.{Trap}
use Rattle.spec_base.specs.declared.note.Move.TheVariants.{S, T}
use Rattle.spec_base.specs.declared.note.ShadowState.{ShadowState}
use Rattle.spec_base.specs.declared.note.ShadowState.TheVariants.{Never, Running, Stopped, Parked}
use Rattle.spec_base.specs.declared.park.Park.{Park}
use Rattle.rv_decode.specs.declared.instr.Instr.{Instr}
use Rattle.rv_decode.specs.declared.instr.Instr.TheVariants.{Hcall}
use Rattle.rv_model.specs.Space.{Space}
use Rattle.hart_step.specs.Core.{Core}
use Rattle.hart_step.specs.declared.event.Event.{Event}
use Rattle.hart_step.specs.declared.event.Event.TheVariants as event
use Rattle.word_laws.specs.ShadowWords.{WordLeads}
use Rattle.run_model.specs.Run.{World, Run, RunEnd, Answer}
use Rattle.run_model.specs.ShadowMoves.{is_running, is_call_word, fetch_shadow, shadow_plan, shadow_step, assumed}
use Rattle.run_model.specs.Moves.{begun, step, step_unless, shadow_while, is_idle}
use Rattle.program_model.specs.Calls.{CallPlan}
use Rattle.world_io.specs.Outside.{StoreState}
use Rattle.runner.specs.ShadowGoes.{Assumes, IsMade, StoreAnswers}
use Rattle.runner.specs.Shows.{Shows}
use Rattle.runner.specs.Stretches.{is_key_or_call}
use Rattle.runner.specs.declared.runner.Runner.{Runner}
use Rattle.move_requests.specs.Asked.{Asked, Nothing, asks, asks_unless, asks_if, assuming_asks}

pub running-is : (s : ShadowState) → is_running s ≡ true → s ≡ Running
running-is Running e = refl
running-is Never e = absurd (let f : false ≡ true = e in cc)
running-is Stopped e = absurd (let f : false ≡ true = e in cc)
running-is (Parked cause) e = absurd (let f : false ≡ true = e in cc)

-- a word that is neither an HKEY nor an HCALL is no HCALL
pub not-call : (i : Option Instr) → is_key_or_call i ≡ false → is_call_word i ≡ false
not-call (Some (Hcall unhinted)) none = none
not-call _ none = refl

-- a word that is no call, by what the runner shows behind it
pub made-by :
    (u : Runner) (w : World) (r q : Run) → is_call_word (fetch_shadow w r.shadow.pc) ≡ false → ((x : Answer) → shadow_step w x r ≡ q) → Shows u w q → IsMade u w r
made-by u w r q none leads h = record { no_call = none; shows = λ x. subst (λ (k : Run). Shows u w k) (sym (leads x)) h }

-- no other event comes of a word
pub no_other_word :
    (w : World) (r : Run) (d : Core) (t : Space) (e : Event) → (e ≡ event.Done → ⊥) → ((p : Park) → e ≡ event.Park p → ⊥) → ((rd : ℕ) → e ≡ event.Key rd → ⊥)
    → ((u : Bool) → e ≡ event.Call u → ⊥) → ((x : Trap) → e ≡ event.Trap x → ⊥) → WordLeads e w r d t → ⊥
no_other_word w r d t event.Done nd np nk nc nt h = nd refl
no_other_word w r d t (event.Park p) nd np nk nc nt h = np p refl
no_other_word w r d t (event.Key rd) nd np nk nc nt h = nk rd refl
no_other_word w r d t (event.Call u) nd np nk nc nt h = nc u refl
no_other_word w r d t (event.Trap x) nd np nk nc nt h = nt x refl
no_other_word w r d t event.Leave nd np nk nc nt h = h
no_other_word w r d t event.Stop nd np nk nc nt h = h
no_other_word w r d t event.Restart nd np nk nc nt h = h
no_other_word w r d t event.Gate nd np nk nc nt h = h
no_other_word w r d t event.NoMemory nd np nk nc nt h = h
no_other_word w r d t event.Ecall nd np nk nc nt h = h

module _ (w : World) (r : Run) (goes : r.end ≡ None) where
  -- a running shadow asks what its call asks
  pub asks-running : is_running r.shadow.state ≡ true → asks w r S ≡ asks_if (is_call_word (fetch_shadow w r.shadow.pc)) (assuming_asks (shadow_plan w r))
  asks-running e =
      ap (λ (o : Option RunEnd). asks_unless o w r S) goes ∙ ap (λ (b : Bool). asks_if (b && is_call_word (fetch_shadow w r.shadow.pc)) (assuming_asks (shadow_plan w r))) e

  -- another asks nothing
  pub asks-idle : is_running r.shadow.state ≡ false → asks w r S ≡ Nothing
  asks-idle e =
      ap (λ (o : Option RunEnd). asks_unless o w r S) goes ∙ ap (λ (b : Bool). asks_if (b && is_call_word (fetch_shadow w r.shadow.pc)) (assuming_asks (shadow_plan w r))) e

  -- the move is a word of the shadow
  pub step-is : (x : Answer) → step w r (S, x) ≡ shadow_step w x (begun r)
  step-is x = ap (λ (o : Option RunEnd). step_unless o w r (S, x)) goes

-- ---- a move T

module _ (w : World) (r : Run) (goes : r.end ≡ None) where
  -- while the own hart waits it is a move S
  pub asks-waiting : r.stalled ≡ true → asks w r T ≡ asks w r S
  asks-waiting e =
      ap (λ (o : Option RunEnd). asks_unless o w r T) goes
      ∙ ap (λ (b : Bool). asks_if (b && (is_running r.shadow.state && is_call_word (fetch_shadow w r.shadow.pc))) (assuming_asks (shadow_plan w r))) e
      ∙ sym (ap (λ (o : Option RunEnd). asks_unless o w r S) goes)

  -- else it asks nothing
  pub asks-free : r.stalled ≡ false → asks w r T ≡ Nothing
  asks-free e =
      ap (λ (o : Option RunEnd). asks_unless o w r T) goes
      ∙ ap (λ (b : Bool). asks_if (b && (is_running r.shadow.state && is_call_word (fetch_shadow w r.shadow.pc))) (assuming_asks (shadow_plan w r))) e

  pub step-waiting : (x : Answer) → r.stalled ≡ true → step w r (T, x) ≡ step w r (S, x)
  step-waiting x e =
      ap (λ (o : Option RunEnd). step_unless o w r (T, x)) goes ∙ ap (λ (b : Bool). shadow_while b w x (begun r)) e ∙ sym (ap (λ (o : Option RunEnd). step_unless o w r (S, x)) goes)

  pub idle-free : r.stalled ≡ false → is_idle T r ≡ true
  idle-free e = ap (λ (b : Bool). not b || not (is_running r.shadow.state)) e

-- ---- the same, said otherwise

-- of an equal plan
pub assumes-as : (v u : Runner) (b : Bool) (p q : CallPlan) (old new : StoreState) → p ≡ q → Assumes v u b q old new → Assumes v u b p old new
assumes-as v u b p q old new e h = subst (λ (p : CallPlan). Assumes v u b p old new) (sym e) h

pub assumed-plan : (u : Runner) (w : World) (r : Run) (x : Answer) (b : Bool) (p q : CallPlan) → p ≡ q → Shows u w (assumed w x r b q) → Shows u w (assumed w x r b p)
assumed-plan u w r x b p q e h = subst (λ (p : CallPlan). Shows u w (assumed w x r b p)) (sym e) h

-- of an equal request
pub answers-as : (p q : Asked) (x : Answer) (old new : StoreState) → p ≡ q → StoreAnswers q x old new → StoreAnswers p x old new
answers-as p q x old new e h = subst (λ (p : Asked). StoreAnswers p x old new) (sym e) h
