-- The run after a word of the shadow is that with the hart and the memory after the step.
use Rattle.std.proofs.Common.{◌≡◌, ℕ, Bool, true, false, Option, refl, sym, ap, subst, ◌∙◌}
use Rattle.std.specs.Option.{option_map}
use Rattle.spec_base.specs.declared.machine.View.{View}
use Rattle.spec_base.specs.declared.machine.View.TheVariants.{Shadow}
use Rattle.spec_base.specs.declared.note.ShadowState.TheVariants.{Running}
use Rattle.rv_decode.specs.Instruction.{instr_of}
use Rattle.rv_decode.specs.declared.instr.Instr.{Instr}
use Rattle.rv_decode.specs.declared.instr.Instr.TheVariants.{Hkey, Hcall, Hpark}
use Rattle.rv_model.specs.Registers.{Registers}
use Rattle.rv_model.specs.Rights.{in_private}
use Rattle.rv_model.specs.Effect.{Effect, Next, Stored, Trapped, Called, Gated, gate_effect}
use Rattle.rv_model.specs.Space.{Space, shadow_stored, word_at}
use Rattle.run_model.specs.Run.{World, Run, Answer}
use Rattle.run_model.specs.ShadowMoves.{fetch_shadow, is_call_word, arrived, shadow_after, shadow_stores, shadow_step, word_counted}
use Rattle.run_laws.specs.OwnLaws.{Accepted}
use Rattle.machine_laws.specs.OneMachine.{space_of_run, shadow_effect, IsOfView}
use Rattle.machine_laws.proofs.Fetches.{fetches_same}
use Rattle.machine_laws.proofs.Steps.{steps_same}
use Rattle.machine_laws.proofs.Gates.{effects_of_view}
use Rattle.hart_mem.specs.Held.{Held, lacks_frame}
use Rattle.hart_step.specs.Core.{Core}
use Rattle.hart_step.specs.Step.{Outcome, stepped, gate_outcome, gone_on, effect_here}
use Rattle.word_laws.specs.Shown.{ShowsShadow, with_shadow}
use Rattle.word_laws.specs.ShadowWords.{ShadowGoes, ShadowWordsLead}
use Rattle.word_laws.proofs.Gates.{MetAt, shadow_met, shadow_calls}

-- the hart of a run's shadow, which has its own site
abbrev shown : Run → ℕ → Core
shown r site = record { registers = r.shadow.registers; pc = r.shadow.pc; view = Shadow; site = site }

module _ (w : World) (r : Run) (running : r.shadow.state ≡ Running) (site : ℕ) (a : Accepted w) where
  abbrev core : Core
  core = shown r site

  abbrev space : Space
  space = space_of_run w r

  -- the move by the effect of the word
  moved-by : (x : Answer) (e : Effect) → shadow_effect w r ≡ e → shadow_step w x r ≡ word_counted (arrived w.image.layout (shadow_after w x r e))
  moved-by x e q = (steps_same w a r x).shadow running ∙ ap (λ (e : Effect). word_counted (arrived w.image.layout (shadow_after w x r e))) q

  -- what stands at the pc
  met : (e : Effect) → shadow_effect w r ≡ e → MetAt true (fetch_shadow w r.shadow.pc) e
  met e q =
      subst (λ (i : Option Instr). MetAt true i e) (sym (fetches_same w a r r.shadow.pc).shadow)
      (subst (λ (e : Effect). MetAt true (option_map instr_of (word_at Shadow space r.shadow.pc)) e) q (shadow_met space r.shadow.registers r.shadow.pc))

  -- a store, to the shadow's page or to a shared part
  stores : (b : Bool) (p width v : ℕ) → shadow_stores b r p width v ≡ with_shadow r (gone_on core) (shadow_stored b space p width v)
  unfolding space_of_run
  stores true p width v = refl
  stores false p width v = refl

  store-shows : (b : Bool) (p width v : ℕ) → let t : Space = shadow_stored b space p width v in t ≡ space_of_run w (with_shadow r (gone_on core) t)
  unfolding space_of_run
  store-shows true p width v = refl
  store-shows false p width v = refl

  gate-goes : (gate : Instr) → shadow_effect w r ≡ Gated gate → gate_effect Shadow gate ≡ Gated gate → let o : Outcome = gate_outcome gate core space in ShadowGoes o.event w r o.core o.space
  unfolding space_of_run
  gate-goes (Hkey rd) q v =
      let word = met (Gated (Hkey rd)) q in
      record { leads = record { word = word; same = refl; moves = λ x. moved-by x (Gated (Hkey rd)) q }; view = refl; space = refl; calls = ap is_call_word word }
  gate-goes (Hcall unhinted) q v =
      let word = met (Gated (Hcall unhinted)) q in
      record { leads = record { word = word; same = refl; moves = λ x. moved-by x (Gated (Hcall unhinted)) q }; view = refl; space = refl; calls = ap is_call_word word }
  gate-goes (Hpark cause) q v = record { leads = λ x. moved-by x (Gated (Hpark cause)) q; view = refl; space = refl; calls = ap is_call_word (met (Gated (Hpark cause)) q) }
  gate-goes _ q v = absurd cc

  effect-goes : (h : Held) (e : Effect) → shadow_effect w r ≡ e → IsOfView Shadow e → let o : Outcome = stepped (lacks_frame Shadow h) e core space in ShadowGoes o.event w r o.core o.space
  unfolding space_of_run lacks_frame
  effect-goes h (Next rs pc) q v = record { leads = λ x. moved-by x (Next rs pc) q; view = refl; space = refl; calls = shadow_calls (fetch_shadow w r.shadow.pc) ∙ met (Next rs pc) q }
  effect-goes h (Stored p width value) q v =
      record {
        leads = λ x. moved-by x (Stored p width value) q ∙ ap (λ (r : Run). word_counted (arrived w.image.layout r)) (stores (in_private p) p width value);
        view = refl;
        space = store-shows (in_private p) p width value;
        calls = shadow_calls (fetch_shadow w r.shadow.pc) ∙ met (Stored p width value) q;
      }
  effect-goes h (Trapped cause) q v = record { leads = λ x. moved-by x (Trapped cause) q; view = refl; space = refl; calls = shadow_calls (fetch_shadow w r.shadow.pc) ∙ met (Trapped cause) q }
  effect-goes h Called q v = absurd cc
  effect-goes h (Gated gate) q v = gate-goes gate q v

-- ---- a step of a hart that shows a run's shadow

abbrev Goes : World → Run → Held → Core → Space → Type 0
Goes w r h c s = let o : Outcome = stepped (lacks_frame c.view h) (effect_here c s) c s in ShadowGoes o.event w r o.core o.space

shown-core : (w : World) (r : Run) (c : Core) (s : Space) → ShowsShadow w r c s → shown r c.site ≡ c
shown-core w r c s h =
    sym
    (ap (λ (v : View). record c { view = v }) h.view
    ∙ ap (λ (rs : Registers). record c { view = Shadow; registers = rs }) h.registers
    ∙ ap (λ (pc : ℕ). record c { view = Shadow; registers = r.shadow.registers; pc = pc }) h.pc)

goes : (w : World) (r : Run) → Accepted w → (h : Held) (c : Core) (s : Space) → ShowsShadow w r c s → Goes w r h c s
goes w r a h c s shows =
    let run : Goes w r h (shown r c.site) (space_of_run w r) =
    effect-goes w r shows.state c.site a h (shadow_effect w r) refl (effects_of_view Shadow (space_of_run w r) r.shadow.registers r.shadow.pc) in
    subst (λ (s : Space). Goes w r h c s) (sym shows.space) (subst (λ (c : Core). Goes w r h c (space_of_run w r)) (shown-core w r c s shows) run)

-- by what the step tells
pub shadow_words_lead : ShadowWordsLead
shadow_words_lead w r a h e c s d t shows q = subst (λ (o : Outcome). ShadowGoes o.event w r o.core o.space) (sym q) (goes w r a h c s shows)
