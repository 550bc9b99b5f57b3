-- A shadow hart whose call is answered.
use Rattle.std.proofs.Common.{◌≡◌, ℕ, refl, ap, ◌∙◌}
use Rattle.spec_base.specs.declared.note.ShadowState.{ShadowState}
use Rattle.rv_model.specs.Registers.{with_reg}
use Rattle.rv_model.specs.Effect.{after}
use Rattle.program_model.specs.Descriptors.{Descriptors}
use Rattle.run_model.specs.Run.{ShadowHart}
use Rattle.hart_step.specs.Core.{Core}
use Rattle.runner_parts.specs.Parts.{ShowsHart}

pub answered :
    (h : ShadowHart) (core d : Core) (f g : Descriptors) (state : ShadowState) (rd v n : ℕ) → ShowsHart h core f state
    → d ≡ record core { registers = with_reg core.registers rd v; pc = after core.pc } → rd ≡ 10 → v ≡ n
    → ShowsHart (record h { files = g; registers = with_reg h.registers 10 n; pc = after h.pc }) d g state
answered h core d f g state rd v n shows e at is =
    record {
      view = ap (λ (d : Core). d.view) e ∙ shows.view;
      registers = ap (λ (d : Core). d.registers) e ∙ (λ i. with_reg (shows.registers i) (at i) (is i));
      pc = ap (λ (d : Core). d.pc) e ∙ ap after shows.pc;
      files_are = refl;
      state_is = shows.state_is;
    }
