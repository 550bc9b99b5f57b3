-- Several steps of a shadow hart, up to one behind which whoever steps it looks at it (this project's own).
use Rattle.std.specs.Prelude.{◌≡◌, ◌≢◌, ◌⊎◌, ℕ, suc, ◌<◌, ◌≤◌, ◌%◌, ◌==◌, Bool, true, false}
use Rattle.rv_model.specs.Effect.{Effect, Stored}
use Rattle.rv_model.specs.Space.{Space}
use Rattle.hart_mem.specs.Held.{Held, lacks_frame}
use Rattle.hart_step.specs.Core.{Core}
use Rattle.hart_step.specs.Step.{outcome, stepped, effect_here}
use Rattle.hart_step.specs.declared.event.Event.{Event}
use Rattle.hart_step.specs.declared.event.Event.TheVariants as event

-- a step of a hart tells this, and leads to another hart and memory, beside the spare frames of a memory
abbrev pub IsStepOf : Held → Event → Core → Space → Core → Space → Type 0
IsStepOf h told c s next there = outcome told next there ≡ stepped (lacks_frame c.view h) (effect_here c s) c s

-- a look is due behind an instruction that stores, and where the next one is word 1 of a block of 64 bytes
abbrev pub is_look_due : Effect → Core → Bool
is_look_due (Stored a width v) next = true
is_look_due other next = next.pc % 64 == 4

-- n instructions complete, and behind none of them a look is due: the memory stays as it is
pub data Passes (c : Core) (s : Space) : ℕ → Core → Type 0 where
  none : Passes c s 0 c
  more : (n : ℕ) (at next : Core) (h : Held) → Passes c s n at → IsStepOf h event.Done at s next s → is_look_due (effect_here at s) next ≡ false → Passes c s (suc n) next

-- one more instruction completes, and behind it a look is due
pub record Looks (at : Core) (s : Space) (next : Core) (there : Space) : Type 0 where
  pub spare : Held
  pub step : IsStepOf spare event.Done at s next there
  pub due : is_look_due (effect_here at s) next ≡ true

-- the next instruction tells what isn't the completion of one
pub record Stops (told : Event) (at : Core) (s : Space) (next : Core) (there : Space) : Type 0 where
  pub other : told ≢ event.Done
  pub spare : Held
  pub step : IsStepOf spare told at s next there

-- n steps of a shadow ended so: all of `most` passed; or behind the last of them a look is due; or after fewer than `most` one told something else
pub record ShadowStepsTo (most n : ℕ) (told : Event) (c : Core) (s : Space) (next : Core) (there : Space) : Type 0 where
  pub passed : ℕ
  pub at : Core
  pub passes : Passes c s passed at
  pub ends :
      ((n ≡ most) × (n ≡ passed) × (told ≡ event.Done) × (next ≡ at) × (there ≡ s))
      ⊎ ((n ≤ most) × (n ≡ suc passed) × (told ≡ event.Done) × Looks at s next there)
      ⊎ ((n < most) × (n ≡ passed) × Stops told at s next there)
