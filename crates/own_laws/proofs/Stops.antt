-- A move of the shadow never stops it: it goes on, parks, or does nothing.
use Rattle.std.proofs.Common.{◌≡◌, ℕ, Bool, true, false, ◌&&◌, List, Option, Some, None, refl, ◌∙◌, sym}
use Rattle.spec_base.specs.declared.note.ShadowState.{ShadowState}
use Rattle.spec_base.specs.declared.note.ShadowState.TheVariants.{Never, Running, Stopped, Parked}
use Rattle.spec_base.specs.declared.note.Move.{Move}
use Rattle.spec_base.specs.declared.note.Move.TheVariants.{O, S, T, D}
use Rattle.spec_base.specs.declared.park.Park.{Park}
use Rattle.spec_base.specs.declared.spot.ReadSpot.{ReadSpot}
use Rattle.rv_decode.specs.declared.instr.Instr.{Instr}
use Rattle.rv_decode.specs.declared.instr.Instr.TheVariants.{Hkey, Hcall, Hpark}
use Rattle.rv_model.specs.Rights.{in_private}
use Rattle.rv_model.specs.Effect.{Effect, Next, Stored, Trapped, Called, Gated}
use Rattle.program_model.specs.Calls.{CallPlan, Set, Look, Read, Write, Exit}
use Rattle.run_model.specs.Run.{World, Run, RunEnd, Answer, Usual, Took, Failed, Lost}
use Rattle.run_model.specs.ShadowMoves.{shadow_in, shadow_at_word, shadow_after, shadow_gate, shadow_stores, assumed, look_assumed, hint_given, fill_if, is_filled, arrived_if, fetch_shadow, is_running, is_arrival, shadow_plan}
use Rattle.run_model.specs.Moves.{step, step_unless, begun, shadow_while}
use Rattle.run_laws.specs.OwnLaws.{IsShadowMove}
use Rattle.own_laws.proofs.InvisibleShadow.{shadow_effect}

-- the shadow's state is as it was, or parked
data GoesOn (old new : ShadowState) : Type 0 where
  as_was : new ≡ old → GoesOn old new
  parks : (cause : Park) → new ≡ Parked cause → GoesOn old new

-- from a run to the next
abbrev Goes : Run → Run → Type 0
Goes r next = GoesOn r.shadow.state next.shadow.state

-- an assumed look
look-goes : (w : World) (x : Answer) (r : Run) (name : List ℕ) → Goes r (look_assumed w x r name)
look-goes w Failed r name = parks _ refl
look-goes w Usual r name = as_was refl
look-goes w (Took k) r name = as_was refl
look-goes w Lost r name = as_was refl

-- a hint, and a fill
hint-state : (unhinted : Bool) (spot : ReadSpot) (r : Run) → (hint_given unhinted spot r).shadow.state ≡ r.shadow.state
hint-state true spot r = refl
hint-state false spot r = refl

pub fill-state : (b : Bool) (w : World) (spot : ReadSpot) (a : ℕ) (r : Run) → (fill_if b w spot a r).shadow.state ≡ r.shadow.state
fill-state true w spot a r = refl
fill-state false w spot a r = refl

-- an assumed call
assumed-goes : (w : World) (x : Answer) (r : Run) (unhinted : Bool) (c : CallPlan) → Goes r (assumed w x r unhinted c)
assumed-goes w x r unhinted (Set f answer) = as_was refl
assumed-goes w x r unhinted (Look name) = look-goes w x r name
assumed-goes w x r unhinted (Read d spot a) =
    as_was (fill-state (is_filled w (hint_given unhinted spot r) spot a spot.count) w spot a (hint_given unhinted spot r) ∙ hint-state unhinted spot r)
assumed-goes w x r unhinted (Write to_out a n) = as_was refl
assumed-goes w x r unhinted (Exit code) = parks _ refl

-- a gate instruction
gate-goes : (w : World) (x : Answer) (r : Run) (i : Instr) → Goes r (shadow_gate w x r i)
gate-goes w x r (Hkey rd) = as_was refl
gate-goes w x r (Hcall unhinted) = assumed-goes w x r unhinted (shadow_plan w r)
gate-goes w x r (Hpark cause) = parks _ refl
gate-goes w x r _ = as_was refl

-- a store
stores-state : (b : Bool) (r : Run) (a width v : ℕ) → (shadow_stores b r a width v).shadow.state ≡ r.shadow.state
stores-state true r a width v = refl
stores-state false r a width v = refl

-- an effect
after-goes : (w : World) (x : Answer) (r : Run) (e : Effect) → Goes r (shadow_after w x r e)
after-goes w x r (Next rs pc) = as_was refl
after-goes w x r (Stored a width v) = as_was (stores-state (in_private a) r a width v)
after-goes w x r (Trapped cause) = parks _ refl
after-goes w x r (Gated i) = gate-goes w x r i
after-goes w x r Called = as_was refl

-- an arrival
arrived-state : (b : Bool) (r : Run) → (arrived_if b r).shadow.state ≡ r.shadow.state
arrived-state true r = refl
arrived-state false r = refl

arrived-goes : (b : Bool) (r next : Run) → Goes r next → Goes r (arrived_if b next)
arrived-goes b r next (as_was e) = as_was (arrived-state b next ∙ e)
arrived-goes b r next (parks cause e) = parks cause (arrived-state b next ∙ e)

-- a word
word-goes : (w : World) (x : Answer) (r : Run) (o : Option Instr) → Goes r (shadow_at_word w x r o)
word-goes w x r None = parks _ refl
word-goes w x r (Some i) =
    let e : Effect = shadow_effect w r i in
    let next : Run = shadow_after w x r e in
    arrived-goes (is_running next.shadow.state && is_arrival w.image.layout next.shadow.pc) r next (after-goes w x r e)

-- a shadow that may run
in-goes : (s : ShadowState) (w : World) (x : Answer) (r : Run) → Goes r (shadow_in s w x r)
in-goes Running w x r = word-goes w x r (fetch_shadow w r.shadow.pc)
in-goes Never w x r = as_was refl
in-goes Stopped w x r = as_was refl
in-goes (Parked cause) w x r = as_was refl

-- a move of the shadow
move-goes : (w : World) (r : Run) (m : Move) (x : Answer) → IsShadowMove m → Goes r (step w r (m, x))
move-goes w r m x h = by_end r.end m h
  where
    by_stall : (b : Bool) → Goes r (shadow_while b w x (begun r))
    by_stall true = in-goes r.shadow.state w x (begun r)
    by_stall false = as_was refl

    by_end : (end : Option RunEnd) (m : Move) → IsShadowMove m → Goes r (step_unless end w r (m, x))
    by_end (Some y) m h = as_was refl
    by_end None S h = in-goes r.shadow.state w x (begun r)
    by_end None T h = by_stall r.stalled
    by_end None O h = absurd h
    by_end None D h = absurd h

-- a shadow that is stopped was stopped before
pub stopped-before : (w : World) (r : Run) (m : Move) (x : Answer) → IsShadowMove m → (step w r (m, x)).shadow.state ≡ Stopped → r.shadow.state ≡ Stopped
stopped-before w r m x h e = by_case (move-goes w r m x h)
  where
    no : {cause : Park} → Parked cause ≡ Stopped → ⊥
    no e = cc

    by_case : Goes r (step w r (m, x)) → r.shadow.state ≡ Stopped
    by_case (as_was f) = sym f ∙ e
    by_case (parks cause f) = absurd (no (sym f ∙ e))
