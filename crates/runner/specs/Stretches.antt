-- Words that one hart makes one after the other: those of the program, and those of the shadow (this project's own).
use Rattle.std.specs.Prelude.{◌≡◌, ◌≢◌, ◌⊎◌, ℕ, zero, suc, ◌+◌, Bool, true, false, ◌&&◌, [], replicate, Option, Some, None}
use Rattle.spec_base.specs.declared.machine.View.TheVariants.{Program}
use Rattle.spec_base.specs.declared.note.Move.TheVariants.{O, S}
use Rattle.spec_base.specs.declared.note.ShadowState.TheVariants.{Running}
use Rattle.rv_decode.specs.declared.instr.Instr.{Instr}
use Rattle.rv_decode.specs.declared.instr.Instr.TheVariants.{Hkey, Hcall}
use Rattle.run_model.specs.Run.{World, Run, Usual}
use Rattle.run_model.specs.OwnMoves.{stays_behind}
use Rattle.run_model.specs.ShadowMoves.{fetch_shadow}
use Rattle.run_model.specs.Moves.{Moves, step, run_from}
use Rattle.hart_mem.specs.Held.{Held, lacks_frame, space_of}
use Rattle.hart_step.specs.Core.{HeldCore, core_of}
use Rattle.hart_step.specs.Step.{stepped, effect_here}
use Rattle.hart_step.specs.declared.event.Event.TheVariants as event
use Rattle.runner.specs.Shows.{Shows}
use Rattle.runner.specs.declared.runner.Runner.{Runner}

-- ---- which words

-- a run that goes on, whose own hart is in the program and waits for nothing
pub record IsInProgram (r : Run) : Type 0 where
  pub on : r.end ≡ None
  pub goes : r.stalled ≡ false
  pub view : r.view ≡ Program

-- so many moves of the own hart
abbrev pub own_moves : ℕ → Moves
own_moves n = replicate n (O, Usual)

-- each of so many moves of the own hart is a word of the program, and none ends the run
abbrev pub AreOwnWords : World → ℕ → Run → Type 0
AreOwnWords w zero r = Unit {0}
AreOwnWords w (suc n) r = IsInProgram r × ((step w r (O, Usual)).end ≡ None) × AreOwnWords w n (step w r (O, Usual))

-- a runner made them
pub record MakesOwnWords (n : ℕ) (u : Runner) (w : World) (r : Run) : Type 0 where
  pub words : AreOwnWords w n r
  pub shows : Shows u w (run_from w r (own_moves n))

-- a step of the own hart stores into a page that has no frame, and none is spare
abbrev pub WantsPage : HeldCore → Held → Type 0
WantsPage own mem = (stepped (lacks_frame (core_of own).view mem) (effect_here (core_of own) (space_of mem)) (core_of own) (space_of mem)).event ≡ event.NoMemory

-- there is no further one: the run has ended, or its own hart waits or is in the stub; or its next word traps, or wants a page
abbrev pub StopsOwn : Runner → World → Run → Type 0
StopsOwn u w r = (IsInProgram r → ⊥) ⊎ ((step w r (O, Usual)).end ≢ None) ⊎ WantsPage u.own u.mem

-- ---- what is counted of them

-- the run in which so many instructions more are completed, each in a move
abbrev pub words_done : ℕ → Run → Run
words_done zero r = r
words_done (suc n) r =
    record r {
      own_done = r.own_done + suc n;
      since = record r.since { own = r.since.own + suc n; ahead = r.since.ahead && stays_behind r.restarts (r.since.own + suc n) r.since.shadow };
      moves = r.moves + suc n;
      notes = [];
      text = [];
    }

-- ---- words of the shadow

-- HKEY, HCALL 0 or HCALL 1
abbrev pub is_key_or_call : Option Instr → Bool
is_key_or_call (Some (Hkey rd)) = true
is_key_or_call (Some (Hcall unhinted)) = true
is_key_or_call _ = false

-- the next move of the shadow, in a run that goes on, is a word that is none of these
pub record IsShadowWord (w : World) (r : Run) : Type 0 where
  pub on : r.end ≡ None
  pub runs : r.shadow.state ≡ Running
  pub no_call : is_key_or_call (fetch_shadow w r.shadow.pc) ≡ false

-- so many moves of the shadow
abbrev pub shadow_moves : ℕ → Moves
shadow_moves n = replicate n (S, Usual)

-- each of so many moves of the shadow is such a word
abbrev pub AreShadowWords : World → ℕ → Run → Type 0
AreShadowWords w zero r = Unit {0}
AreShadowWords w (suc n) r = IsShadowWord w r × AreShadowWords w n (step w r (S, Usual))

-- a runner made them
pub record MakesShadowWords (n : ℕ) (u : Runner) (w : World) (r : Run) : Type 0 where
  pub words : AreShadowWords w n r
  pub shows : Shows u w (run_from w r (shadow_moves n))

-- there is no further one: the run has ended, or the shadow doesn't run, or its next word is an HKEY or an HCALL
abbrev pub StopsShadow : World → Run → Type 0
StopsShadow w r = (r.end ≢ None) ⊎ (r.shadow.state ≢ Running) ⊎ (is_key_or_call (fetch_shadow w r.shadow.pc) ≡ true)
