-- A run goes on by the effect of the word at the hart's pc, and its stores are stores to its memory.
use Rattle.std.proofs.Common.{◌≡◌, ℕ, Bool, true, false, ◌&&◌, Option, Some, None, refl, ap, ◌∙◌}
use Rattle.std.specs.Option.{option_map}
use Rattle.spec_base.specs.declared.machine.View.TheVariants.{Program, Stub, Shadow}
use Rattle.spec_base.specs.declared.note.ShadowState.{ShadowState}
use Rattle.spec_base.specs.declared.note.ShadowState.TheVariants.{Running}
use Rattle.rv_decode.specs.Instruction.{instr_of}
use Rattle.rv_decode.specs.declared.instr.Instr.{Instr}
use Rattle.rv_decode.specs.declared.instr.Instr.TheVariants.{Hgate, Hleave, Hsite, Hkey, Hstop, Hrestart, Hpark}
use Rattle.rv_model.specs.Rights.{in_private}
use Rattle.rv_model.specs.Effect.{Effect, Next, Stored, Trapped, Gated}
use Rattle.rv_model.specs.Space.{word_at, stub_stored, shadow_stored, stored_in, word_effect, effect_at}
use Rattle.run_model.specs.Run.{World, Run, Answer}
use Rattle.run_model.specs.OwnMoves.{program_at, program_step, program_after, stub_at, stub_step, stub_after, stub_stores}
use Rattle.run_model.specs.ShadowMoves.{shadow_at_word, shadow_in, shadow_step, shadow_after, shadow_stores, arrived, arrived_if, is_arrival, is_running, word_counted}
use Rattle.machine_laws.specs.OneMachine.{space_of_run, PartsChange, own_effect, shadow_effect, shadow_moved, SameFetches, StepsSame, StoresSame, is_quiet, QuietLeaves}
use Rattle.machine_laws.proofs.Fetches.{fetches_same}

pub parts_change : PartsChange
unfolding space_of_run
parts_change w r later = refl

-- ---- steps

module _ (w : World) (r : Run) (x : Answer) where
  -- a word and its instruction do the same
  program-word : (word : Option ℕ) → program_at w r (option_map instr_of word) ≡ program_after r (word_effect Program (space_of_run w r) r.own.registers r.own.pc word)
  unfolding space_of_run
  program-word None = refl
  program-word (Some word) = refl

  stub-word : (word : Option ℕ) → stub_at w x r (option_map instr_of word) ≡ stub_after w x r (word_effect Stub (space_of_run w r) r.own.registers r.own.pc word)
  unfolding space_of_run
  stub-word None = refl
  stub-word (Some word) = refl

  shadow-word :
      (word : Option ℕ) →
      shadow_at_word w x r (option_map instr_of word)
      ≡ arrived w.image.layout (shadow_after w x r (word_effect Shadow (space_of_run w r) r.shadow.registers r.shadow.pc word))
  unfolding space_of_run
  shadow-word None = refl
  shadow-word (Some word) = refl

  program-step : SameFetches w r r.own.pc → program_step w r ≡ program_after r (own_effect Program w r)
  unfolding effect_at
  program-step f = ap (program_at w r) f.program ∙ program-word (word_at Program (space_of_run w r) r.own.pc)

  stub-step : SameFetches w r r.own.pc → stub_step w x r ≡ stub_after w x r (own_effect Stub w r)
  unfolding effect_at
  stub-step f = ap (stub_at w x r) f.stub ∙ stub-word (word_at Stub (space_of_run w r) r.own.pc)

  shadow-step : SameFetches w r r.shadow.pc → r.shadow.state ≡ Running → shadow_step w x r ≡ shadow_moved w x r (shadow_effect w r)
  unfolding effect_at
  shadow-step f running =
      ap (λ (state : ShadowState). shadow_in state w x r) running
      ∙ ap (λ (i : Option Instr). word_counted (shadow_at_word w x r i)) f.shadow
      ∙ ap word_counted (shadow-word (word_at Shadow (space_of_run w r) r.shadow.pc))

pub steps_same : StepsSame
steps_same w a r x =
    record { program = program-step w r x (fetches_same w a r r.own.pc); stub = stub-step w r x (fetches_same w a r r.own.pc); shadow = shadow-step w r x (fetches_same w a r r.shadow.pc) }

-- ---- stores

module _ (w : World) (r : Run) (x : Answer) where
  -- an arrival, and the count of words, leave the memory
  arrived-leaves : (b : Bool) (s : Run) → space_of_run w (arrived_if b s) ≡ space_of_run w s
  unfolding space_of_run
  arrived-leaves true s = refl
  arrived-leaves false s = refl

  pub moved-leaves : (e : Effect) → space_of_run w (shadow_moved w x r e) ≡ space_of_run w (shadow_after w x r e)
  unfolding space_of_run
  moved-leaves e = arrived-leaves (is_running (shadow_after w x r e).shadow.state && is_arrival w.image.layout (shadow_after w x r e).shadow.pc) (shadow_after w x r e)

  module _ (a width v : ℕ) where
    stub-stores : (b : Bool) → space_of_run w (stub_stores b r a width v) ≡ stub_stored b (space_of_run w r) a width v
    unfolding space_of_run
    stub-stores true = refl
    stub-stores false = refl

    shadow-stores : (b : Bool) → space_of_run w (shadow_stores b r a width v) ≡ shadow_stored b (space_of_run w r) a width v
    unfolding space_of_run
    shadow-stores true = refl
    shadow-stores false = refl

    program-stores : space_of_run w (program_after r (Stored a width v)) ≡ stored_in Program (space_of_run w r) a width v
    unfolding space_of_run
    program-stores = refl

pub stores_same : StoresSame
stores_same w r x a width v =
    record {
      program = program-stores w r x a width v;
      stub = stub-stores w r x a width v (in_private a);
      shadow = moved-leaves w r x (Stored a width v) ∙ shadow-stores w r x a width v (in_private a);
    }

-- ---- what leaves the memory

module _ (w : World) (r : Run) (x : Answer) where
  program-leaves : (e : Effect) → is_quiet Program e ≡ true → space_of_run w (program_after r e) ≡ space_of_run w r
  unfolding space_of_run
  program-leaves (Next rs pc) q = refl
  program-leaves (Trapped cause) q = refl
  program-leaves (Gated Hgate) q = refl
  program-leaves _ q = absurd cc

  stub-leaves : (e : Effect) → is_quiet Stub e ≡ true → space_of_run w (stub_after w x r e) ≡ space_of_run w r
  unfolding space_of_run
  stub-leaves (Next rs pc) q = refl
  stub-leaves (Trapped cause) q = refl
  stub-leaves (Gated Hleave) q = refl
  stub-leaves (Gated (Hsite rd)) q = refl
  stub-leaves (Gated (Hkey rd)) q = refl
  stub-leaves (Gated Hstop) q = refl
  stub-leaves (Gated Hrestart) q = refl
  stub-leaves _ q = absurd cc

  shadow-leaves : (e : Effect) → is_quiet Shadow e ≡ true → space_of_run w (shadow_after w x r e) ≡ space_of_run w r
  unfolding space_of_run
  shadow-leaves (Next rs pc) q = refl
  shadow-leaves (Trapped cause) q = refl
  shadow-leaves (Gated (Hkey rd)) q = refl
  shadow-leaves (Gated (Hpark cause)) q = refl
  shadow-leaves _ q = absurd cc

pub quiet_leaves : QuietLeaves
quiet_leaves w r x e =
    record { program = λ q. program-leaves w r x e q; stub = λ q. stub-leaves w r x e q; shadow = λ q. moved-leaves w r x e ∙ shadow-leaves w r x e q }
