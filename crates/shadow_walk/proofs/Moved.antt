-- A step of a hart that shows a run's shadow is the shadow's move.
use Rattle.std.proofs.Common.{◌≡◌, ◌≢◌, ℕ, Bool, true, false, ◌&&◌, Some, refl, sym, ap, subst, ◌∙◌}
use Rattle.spec_base.specs.declared.machine.View.{View}
use Rattle.spec_base.specs.declared.machine.View.TheVariants.{Shadow}
use Rattle.rv_model.specs.Registers.{Registers}
use Rattle.spec_base.specs.declared.note.ShadowState.{ShadowState}
use Rattle.spec_base.specs.declared.note.ShadowState.TheVariants.{Running, Parked}
use Rattle.spec_base.specs.declared.park.Park.TheVariants.{Fault}
use Rattle.rv_decode.specs.declared.instr.Instr.{Instr}
use Rattle.rv_decode.specs.declared.instr.Instr.TheVariants.{Hgate, Hkey, Hcall, Hpark}
use Rattle.rv_model.specs.Rights.{in_private}
use Rattle.rv_model.specs.Effect.{Effect, Next, Stored, Trapped, Called, Gated, gate_effect}
use Rattle.rv_model.specs.Space.{Space, shadow_stored}
use Rattle.run_model.specs.Run.{World, Run, Answer}
use Rattle.run_model.specs.ShadowMoves.{arrived, arrived_if, is_arrival, is_running, shadow_after, shadow_stores, shadow_step, word_counted, fetch_shadow}
use Rattle.run_laws.specs.OwnLaws.{Accepted}
use Rattle.machine_laws.specs.OneMachine.{space_of_run, shadow_effect, IsOfView}
use Rattle.machine_laws.proofs.Fetches.{fetches_same}
use Rattle.machine_laws.proofs.Steps.{steps_same}
use Rattle.machine_laws.proofs.Gates.{effects_of_view}
use Rattle.hart_mem.specs.Held.{Held, lacks_frame}
use Rattle.hart_step.specs.Core.{Core}
use Rattle.hart_step.specs.Step.{Outcome, stepped, store_outcome, gate_outcome, gone_on, effect_here}
use Rattle.hart_step.specs.declared.event.Event.TheVariants as event
use Rattle.word_laws.specs.Shown.{ShowsIn, ShowsShadow}
use Rattle.shadow_walk.specs.Shows.{AtKey, MovesBy}
use Rattle.shadow_walk.proofs.Effects.{gate_word}

-- an arrival, and the count of words, show nothing else
arrival-shows : (at : ShadowState) (w : World) (r : Run) (c : Core) (s : Space) (b : Bool) → ShowsIn at w r c s → ShowsIn at w (word_counted (arrived_if b r)) c s
unfolding space_of_run
arrival-shows at w r c s true h = record { view = h.view; registers = h.registers; pc = h.pc; space = h.space; state = h.state }
arrival-shows at w r c s false h = record { view = h.view; registers = h.registers; pc = h.pc; space = h.space; state = h.state }

-- ---- a hart that shows a run whose shadow is running

-- the hart of a run's shadow, which has its own site
abbrev shown : Run → ℕ → Core
shown r site = record { registers = r.shadow.registers; pc = r.shadow.pc; view = Shadow; site = site }

module _ (w : World) (r : Run) (running : r.shadow.state ≡ Running) (site : ℕ) where
  abbrev core : Core
  core = shown r site

  abbrev space : Space
  space = space_of_run w r

  -- a store, to the shadow's page or to a shared part
  store-shows : (b : Bool) (a width v : ℕ) → ShowsIn Running w (shadow_stores b r a width v) (gone_on core) (shadow_stored b space a width v)
  unfolding space_of_run
  store-shows true a width v = record { view = refl; registers = refl; pc = refl; space = refl; state = running }
  store-shows false a width v = record { view = refl; registers = refl; pc = refl; space = refl; state = running }

  module _ (a : Accepted w) where
    -- the move by the effect of the word
    move-shows :
        (at : ShadowState) (x : Answer) (e : Effect) (c : Core) (s : Space) → shadow_effect w r ≡ e →
        ShowsIn at w (shadow_after w x r e) c s → ShowsIn at w (shadow_step w x r) c s
    move-shows at x e c s q h =
        let t : Run = shadow_after w x r e in
        let b : Bool = is_running t.shadow.state && is_arrival w.image.layout t.shadow.pc in
        let step : shadow_step w x r ≡ word_counted (arrived w.image.layout t) = (steps_same w a r x).shadow running ∙ ap (λ (e : Effect). word_counted (arrived w.image.layout (shadow_after w x r e))) q in
        subst (λ (t : Run). ShowsIn at w t c s) (sym step) (arrival-shows at w t c s b h)

    -- the word that meets a gate
    fetched-gate : (gate : Instr) → shadow_effect w r ≡ Gated gate → fetch_shadow w r.shadow.pc ≡ Some gate
    fetched-gate gate q = (fetches_same w a r r.shadow.pc).shadow ∙ gate_word space r.shadow.registers r.shadow.pc gate q

    -- HKEY
    key-shows : (rd : ℕ) → shadow_effect w r ≡ Gated (Hkey rd) → AtKey rd w r core space core space
    unfolding space_of_run
    key-shows rd q =
        record {
          word = fetched-gate (Hkey rd) q;
          hart = refl;
          memory = refl;
          answered = λ x. move-shows Running x (Gated (Hkey rd)) _ _ q (record { view = refl; registers = refl; pc = refl; space = refl; state = running });
        }

    -- each gate of the shadow; another is none of its view
    gate-moves :
        (gate : Instr) → shadow_effect w r ≡ Gated gate → gate_effect Shadow gate ≡ Gated gate →
        let o : Outcome = gate_outcome gate core space in MovesBy o.event w r core space o.core o.space
    unfolding space_of_run
    gate-moves (Hkey rd) q v = key-shows rd q
    gate-moves (Hcall unhinted) q v = record { word = fetched-gate (Hcall unhinted) q; hart = refl; memory = refl }
    gate-moves (Hpark cause) q v = λ x. move-shows (Parked cause) x (Gated (Hpark cause)) _ _ q (record { view = refl; registers = refl; pc = refl; space = refl; state = refl })
    gate-moves _ q v = absurd cc

    -- each effect
    effect-moves :
        (h : Held) (e : Effect) → shadow_effect w r ≡ e → IsOfView Shadow e →
        let o : Outcome = stepped (lacks_frame Shadow h) e core space in MovesBy o.event w r core space o.core o.space
    unfolding space_of_run lacks_frame
    effect-moves h (Next rs pc) q v = λ x. move-shows Running x (Next rs pc) _ _ q (record { view = refl; registers = refl; pc = refl; space = refl; state = running })
    effect-moves h (Stored a width value) q v = λ x. move-shows Running x (Stored a width value) _ _ q (store-shows (in_private a) a width value)
    effect-moves h (Trapped cause) q v = λ x. move-shows (Parked Fault) x (Trapped cause) _ _ q (record { view = refl; registers = refl; pc = refl; space = refl; state = refl })
    effect-moves h Called q v = absurd cc
    effect-moves h (Gated gate) q v = gate-moves gate q v

-- ---- a step

-- what a step of this hart in this memory does is the shadow's move
abbrev pub Steps : World → Run → Held → Core → Space → Type 0
Steps w r h c s = let o : Outcome = stepped (lacks_frame c.view h) (effect_here c s) c s in MovesBy o.event w r c s o.core o.space

-- a hart that shows a running shadow is that of the run
shown-core : (w : World) (r : Run) (c : Core) (s : Space) → ShowsShadow w r c s → shown r c.site ≡ c
shown-core w r c s h =
    sym
    (ap (λ (v : View). record c { view = v }) h.view
    ∙ ap (λ (rs : Registers). record c { view = Shadow; registers = rs }) h.registers
    ∙ ap (λ (pc : ℕ). record c { view = Shadow; registers = r.shadow.registers; pc = pc }) h.pc)

pub moves_by : (w : World) (r : Run) → Accepted w → (h : Held) (c : Core) (s : Space) → ShowsShadow w r c s → Steps w r h c s
moves_by w r a h c s shows =
    let e : Effect = shadow_effect w r in
    let run : Steps w r h (shown r c.site) (space_of_run w r) = effect-moves w r shows.state c.site a h e refl (effects_of_view Shadow (space_of_run w r) r.shadow.registers r.shadow.pc) in
    subst (λ (s : Space). Steps w r h c s) (sym shows.space) (subst (λ (c : Core). Steps w r h c (space_of_run w r)) (shown-core w r c s shows) run)

-- ---- frames

-- no store of the shadow wants a frame
gate-starves_not : (gate : Instr) (c : Core) (s : Space) → (gate_outcome gate c s).event ≢ event.NoMemory
gate-starves_not Hgate c s q = cc
gate-starves_not _ c s q = cc

pub never_starved : (h : Held) (e : Effect) (c : Core) (s : Space) → (stepped (lacks_frame Shadow h) e c s).event ≢ event.NoMemory
unfolding lacks_frame
never_starved h (Next rs pc) c s q = cc
never_starved h (Stored a width value) c s q = cc
never_starved h (Trapped cause) c s q = cc
never_starved h Called c s q = cc
never_starved h (Gated gate) c s q = gate-starves_not gate c s q

-- ---- the view

-- a gate of the shadow's view leaves it
gate-view : (gate : Instr) (c : Core) (s : Space) → c.view ≡ Shadow → gate_effect Shadow gate ≡ Gated gate → (gate_outcome gate c s).core.view ≡ Shadow
gate-view (Hkey rd) c s e v = e
gate-view (Hcall unhinted) c s e v = e
gate-view (Hpark cause) c s e v = e
gate-view _ c s e v = absurd cc

-- so does a store
store-view : (b : Bool) (c : Core) (s : Space) (a width v : ℕ) → c.view ≡ Shadow → (store_outcome b c s a width v).core.view ≡ Shadow
store-view true c s a width v e = e
store-view false c s a width v e = e

-- and each effect of a word of the view
effect-view : (lacks : ℕ → Bool) (e : Effect) (c : Core) (s : Space) → c.view ≡ Shadow → IsOfView Shadow e → (stepped lacks e c s).core.view ≡ Shadow
effect-view lacks (Next rs pc) c s e v = e
effect-view lacks (Stored a width value) c s e v = store-view (lacks a) c s a width value e
effect-view lacks (Trapped cause) c s e v = e
effect-view lacks Called c s e v = absurd cc
effect-view lacks (Gated gate) c s e v = gate-view gate c s e v

-- a step of a hart in the shadow's view leaves it there
pub stays_in_view : (lacks : ℕ → Bool) (c : Core) (s : Space) → c.view ≡ Shadow → (stepped lacks (effect_here c s) c s).core.view ≡ Shadow
stays_in_view lacks c s e = effect-view lacks (effect_here c s) c s e (subst (λ (v : View). IsOfView v (effect_here c s)) e (effects_of_view c.view s c.registers c.pc))
