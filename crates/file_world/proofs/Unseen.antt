-- A plain program doesn't see the number of regions of its layout.
use Rattle.std.proofs.Common.{◌≡◌, ℕ, zero, suc, Option, Some, None, refl, ap, sym, subst, ◌∙◌}
use Rattle.std.specs.Option.{option_and_then}
use Rattle.spec_base.specs.Files.{Files}
use Rattle.rv_decode.specs.declared.instr.Instr.{Instr}
use Rattle.spec_base.specs.declared.machine.View.TheVariants.{Plain}
use Rattle.rv_model.specs.Rights.{data_rights}
use Rattle.rv_model.specs.Effect.{Effect, Next, Stored, Trapped, Called, Gated, effect, fetched}
use Rattle.program_model.specs.PlainRun.{Image as Program, State, Taken, End, state_after, next_state, next_unless, completed, at_word, after_effect, text_of, end_of, end_unless, end_of_step}

-- the program with so many regions in its layout
abbrev pub with_regions : Program → ℕ → Program
with_regions p k = record p { layout = record p.layout { regions = k } }

module _ (p : Program) (k : ℕ) (files : Files) (t : Taken) where
  by_effect : (s : State) (e : Effect) → after_effect (with_regions p k) files t s e ≡ after_effect p files t s e
  by_effect s (Next rs pc) = refl
  by_effect s (Stored a width v) = refl
  by_effect s (Trapped cause) = refl
  by_effect s Called = refl
  by_effect s (Gated i) = refl

  by_word : (s : State) (o : Option Instr) → at_word (with_regions p k) files t s o ≡ at_word p files t s o
  by_word s None = refl
  by_word s (Some i) = by_effect s (effect Plain (data_rights p.layout) s.memory s.registers s.pc i)

  by_exit : (s : State) (e : Option ℕ) → next_unless e (with_regions p k) files t s ≡ next_unless e p files t s
  by_exit s (Some code) = refl
  by_exit s None = ap completed (by_word s (fetched (text_of p) p.layout.text_start s.pc))

  by_state : (o : Option State) → option_and_then (next_state (with_regions p k) files t) o ≡ option_and_then (next_state p files t) o
  by_state None = refl
  by_state (Some s) = by_exit s s.exited

  -- its states
  pub after-unseen : (s : State) (n : ℕ) → state_after (with_regions p k) files t s n ≡ state_after p files t s n
  unfolding state_after
  after-unseen s zero = refl
  after-unseen s (suc n) =
      by_state (state_after (with_regions p k) files t s n) ∙ ap (λ o. option_and_then (next_state p files t) o) (after-unseen s n)

  end-by_exit : (s : State) (e : Option ℕ) → end_unless e (with_regions p k) files t s ≡ end_unless e p files t s
  end-by_exit s (Some code) = refl
  end-by_exit s None = ap (λ step. end_of_step step s.pc) (by_word s (fetched (text_of p) p.layout.text_start s.pc))

  -- and its end
  pub end-unseen : (s : State) → end_of (with_regions p k) files t s ≡ end_of p files t s
  end-unseen s = end-by_exit s s.exited
