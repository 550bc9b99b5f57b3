-- The word at a pc, of which an instruction is.
use Rattle.std.proofs.Common.{◌≡◌, ℕ, Option, Some, None, ap, subst}
use Rattle.std.specs.Option.{option_map}
use Rattle.spec_base.specs.declared.machine.View.{View}
use Rattle.rv_decode.specs.Instruction.{instr_of}
use Rattle.rv_decode.specs.declared.instr.Instr.{Instr}
use Rattle.rv_model.specs.Space.{Space, word_at, word_effect, effect_at}
use Rattle.hart_step.specs.Core.{Core}
use Rattle.hart_step.specs.Step.{effect_of, effect_here}

module _ (c : Core) (s : Space) where
  by-word : (i : Instr) (o : Option ℕ) → Some i ≡ option_map instr_of o → effect_of c s i ≡ word_effect c.view s c.registers c.pc o
  by-word i None q = absurd (cc)
  by-word i (Some word) q = let same : i ≡ instr_of word = cc in ap (λ (j : Instr). effect_of c s j) same

  pub here-is : (v : View) → v ≡ c.view → (i : Instr) → Some i ≡ option_map instr_of (word_at v s c.pc) → effect_of c s i ≡ effect_here c s
  unfolding effect_at
  here-is v view i q = by-word i (word_at c.view s c.pc) (subst (λ (w : View). Some i ≡ option_map instr_of (word_at w s c.pc)) view q)
