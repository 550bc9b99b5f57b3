-- What the event of a step tells of the word of a run's shadow.
use Rattle.std.specs.Prelude.{⊤}
use Rattle.std.proofs.Common.{◌≡◌, ℕ, Bool, true, false, Option, Some, None, refl, sym, ap, subst, ◌∙◌}
use Rattle.std.specs.Option.{option_map}
use Rattle.spec_base.specs.declared.machine.View.TheVariants.{Shadow}
use Rattle.spec_base.specs.declared.machine.Trap.{Trap}
use Rattle.own_laws.proofs.Reached.{false_true, none_some}
use Rattle.rv_decode.specs.Instruction.{instr_of}
use Rattle.rv_decode.specs.declared.instr.Instr.{Instr}
use Rattle.rv_decode.specs.declared.instr.Instr.TheVariants.{Hkey, Hcall, Hpark}
use Rattle.rv_model.specs.Registers.{Registers}
use Rattle.rv_model.specs.Rights.{rights_of}
use Rattle.rv_model.specs.Effect.{Effect, Next, Stored, Trapped, Called, Gated, gate_effect, effect}
use Rattle.rv_model.specs.Space.{Space, sees, word_at, word_effect, effect_at}
use Rattle.run_model.specs.Run.{World, Run}
use Rattle.run_model.specs.ShadowMoves.{fetch_shadow, is_call_word}
use Rattle.run_laws.specs.OwnLaws.{Accepted}
use Rattle.run_laws.specs.Completes.{Completes, WordCompletes}
use Rattle.machine_laws.specs.OneMachine.{space_of_run, shadow_effect, IsOfView, instr_in}
use Rattle.machine_laws.proofs.Fetches.{fetches_same}
use Rattle.machine_laws.proofs.Gates.{effects_of_view}
use Rattle.hint_laws.proofs.WithinSteps.{IsQuiet}
use Rattle.hart_mem.specs.Held.{Held, lacks_frame}
use Rattle.hart_step.specs.Core.{Core}
use Rattle.hart_step.specs.Step.{stepped, gate_outcome, effect_here}
use Rattle.hart_step.specs.declared.event.Event.{Event}
use Rattle.hart_step.specs.declared.event.Event.TheVariants as event
use Rattle.word_laws.specs.Shown.{ShowsShadow}
use Rattle.shadow_walk.proofs.Effects.{gate_word}

-- where a step is done, its word is no HCALL; where it parks, an HPARK; where it traps, one that doesn't complete
abbrev pub Tells : Event → World → Run → Type 0
Tells event.Done w r = IsQuiet w r
Tells (event.Park cause) w r = fetch_shadow w r.shadow.pc ≡ Some (Hpark cause)
Tells (event.Trap trap) w r = WordCompletes w r → ⊥
Tells _ w r = ⊤

-- a trap doesn't complete
traps-not : {t : Trap} → Completes (Trapped t) → ⊥
traps-not c = elim c [ ]

-- an HCALL is met at its word
call-effect : (s : Space) (rs : Registers) (pc : ℕ) (o : Option ℕ) → is_call_word (option_map instr_of o) ≡ true → (unhinted : Bool) × (word_effect Shadow s rs pc o ≡ Gated (Hcall unhinted))
call-effect s rs pc None e = false_true e
call-effect s rs pc (Some word) e = by_instr (instr_of word) e
  where
    by_instr : (i : Instr) → is_call_word (Some i) ≡ true → (unhinted : Bool) × (effect Shadow (rights_of Shadow s.layout) (sees Shadow s) rs pc i ≡ Gated (Hcall unhinted))
    by_instr (Hcall unhinted) e = (unhinted, refl)
    by_instr _ e = false_true e

module _ (w : World) (a : Accepted w) (r : Run) where
  abbrev space : Space
  space = space_of_run w r

  -- a word that meets no gate is no HCALL
  quiet-word : ((unhinted : Bool) → shadow_effect w r ≡ Gated (Hcall unhinted) → ⊥) → IsQuiet w r
  unfolding effect_at
  quiet-word never = ap is_call_word ((fetches_same w a r r.shadow.pc).shadow) ∙ by_test (is_call_word (instr_in Shadow space r.shadow.pc)) refl
    where
      by_test : (b : Bool) → is_call_word (instr_in Shadow space r.shadow.pc) ≡ b → b ≡ false
      by_test false e = refl
      by_test true e = let f = call-effect space r.shadow.registers r.shadow.pc (word_at Shadow space r.shadow.pc) e in absurd (never f.0 f.1)

  -- a word that traps doesn't complete
  trapped-word : (t : Trap) → shadow_effect w r ≡ Trapped t → WordCompletes w r → ⊥
  unfolding effect_at space_of_run
  trapped-word t e c = by_word (word_at Shadow space r.shadow.pc) (sym (fetches_same w a r r.shadow.pc).shadow ∙ c.fetched) e
    where
      by_word : (o : Option ℕ) → option_map instr_of o ≡ Some c.word → word_effect Shadow space r.shadow.registers r.shadow.pc o ≡ Trapped t → ⊥
      by_word None f g = none_some f
      by_word (Some word) f g =
          let same : instr_of word ≡ c.word = cc in
          traps-not (subst Completes (ap (effect Shadow (rights_of Shadow space.layout) (sees Shadow space) r.shadow.registers r.shadow.pc) (sym same) ∙ g) c.completes)

  -- a word that meets a gate
  gate-tells : (gate : Instr) (c : Core) (s : Space) → shadow_effect w r ≡ Gated gate → gate_effect Shadow gate ≡ Gated gate → Tells (gate_outcome gate c s).event w r
  gate-tells (Hkey rd) c s q v = tt
  gate-tells (Hcall unhinted) c s q v = tt
  gate-tells (Hpark cause) c s q v = (fetches_same w a r r.shadow.pc).shadow ∙ gate_word space r.shadow.registers r.shadow.pc (Hpark cause) q
  gate-tells _ c s q v = absurd cc

  next-calls : {rs : Registers} {pc : ℕ} {gate : Instr} → Next rs pc ≡ Gated gate → ⊥
  next-calls e = cc

  stored-calls : {x width v : ℕ} {gate : Instr} → Stored x width v ≡ Gated gate → ⊥
  stored-calls e = cc

  -- each effect
  effect-tells : (h : Held) (e : Effect) (c : Core) (s : Space) → shadow_effect w r ≡ e → IsOfView Shadow e → Tells (stepped (lacks_frame Shadow h) e c s).event w r
  unfolding lacks_frame
  effect-tells h (Next rs pc) c s q v = quiet-word (λ unhinted e. next-calls (sym q ∙ e))
  effect-tells h (Stored x width value) c s q v = quiet-word (λ unhinted e. stored-calls (sym q ∙ e))
  effect-tells h (Trapped cause) c s q v = trapped-word cause q
  effect-tells h Called c s q v = absurd cc
  effect-tells h (Gated gate) c s q v = gate-tells gate c s q v

  -- the event of a step of a hart that shows the run
  pub tells : (h : Held) (c : Core) (s : Space) → ShowsShadow w r c s → Tells (stepped (lacks_frame c.view h) (effect_here c s) c s).event w r
  tells h c s shows =
      let same : effect_here c s ≡ shadow_effect w r = (λ i. effect_at (shows.view i) (shows.space i) (shows.registers i) (shows.pc i)) in
      subst (λ (v : _). Tells (stepped (lacks_frame v h) (effect_here c s) c s).event w r) (sym shows.view)
      (subst (λ (e : Effect). Tells (stepped (lacks_frame Shadow h) e c s).event w r) (sym same)
      (effect-tells h (shadow_effect w r) c s refl (effects_of_view Shadow space r.shadow.registers r.shadow.pc)))
