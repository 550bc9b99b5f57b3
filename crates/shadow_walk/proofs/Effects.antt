-- Which word stands where a gate is met.
use Rattle.std.proofs.Common.{◌≡◌, ℕ, Bool, true, false, Option, Some, None, refl, subst}
use Rattle.std.specs.Option.{option_map}
use Rattle.std.specs.Prelude.{⊤}
use Rattle.spec_base.specs.Word.{plus_int}
use Rattle.spec_base.specs.declared.machine.View.TheVariants.{Shadow}
use Rattle.rv_decode.specs.Instruction.{instr_of}
use Rattle.rv_decode.specs.declared.instr.Instr.{Instr}
use Rattle.rv_decode.specs.declared.instr.Instr.TheVariants.{Lui, Auipc, Jal, Jalr, Branch, Load, Store, OpImm, OpImmW, Op, OpW, Fence, Ecall, Ebreak, Hgate, Hleave, Hsite, Hkey, Hstop, Hrestart, Hcall, Hpark, Illegal}
use Rattle.rv_decode.specs.declared.instr.LoadOp.{LoadOp}
use Rattle.rv_model.specs.Memory.{Memory}
use Rattle.rv_model.specs.Registers.{Registers, reg}
use Rattle.rv_model.specs.Rights.{Rights, rights_of}
use Rattle.rv_model.specs.Arithmetic.{is_taken}
use Rattle.rv_model.specs.Effect.{Effect, Next, Stored, Trapped, Called, Gated, effect, jump_if, branch_if, load_if, store_if}
use Rattle.rv_model.specs.Space.{Space, sees, word_at, word_effect, effect_at}

-- a gate is met at its own word
abbrev MetAt : Option Instr → Effect → Type 0
MetAt i (Gated gate) = i ≡ Some gate
MetAt i (Next rs pc) = ⊤
MetAt i (Stored a width value) = ⊤
MetAt i (Trapped cause) = ⊤
MetAt i Called = ⊤

-- neither a jump, nor a branch, nor a load or a store meets one
module _ (i : Option Instr) where
  jump-met : (b : Bool) (rs : Registers) (target : ℕ) → MetAt i (jump_if b rs target)
  jump-met true rs target = tt
  jump-met false rs target = tt

  branch-met : (b : Bool) (rs : Registers) (pc target : ℕ) → MetAt i (branch_if b rs pc target)
  branch-met true rs pc target = jump-met _ rs target
  branch-met false rs pc target = tt

  load-met : (x y : Bool) (m : Memory) (op : LoadOp) (rs : Registers) (pc rd a : ℕ) → MetAt i (load_if x y m op rs pc rd a)
  load-met false y m op rs pc rd a = tt
  load-met true false m op rs pc rd a = tt
  load-met true true m op rs pc rd a = tt

  store-met : (x y : Bool) (a width value : ℕ) → MetAt i (store_if x y a width value)
  store-met false y a width value = tt
  store-met true false a width value = tt
  store-met true true a width value = tt

-- in the shadow's view
module _ (r : Rights) (m : Memory) (rs : Registers) (pc : ℕ) where
  instr-met : (i : Instr) → MetAt (Some i) (effect Shadow r m rs pc i)
  instr-met (Lui rd z) = tt
  instr-met (Auipc rd z) = tt
  instr-met (Jal rd z) = jump-met _ _ _ _
  instr-met (Jalr rd rs1 z) = jump-met _ _ _ _
  instr-met (Branch op rs1 rs2 z) = branch-met _ (is_taken op (reg rs rs1) (reg rs rs2)) rs pc (plus_int pc z)
  instr-met (Load op rd rs1 z) = load-met _ _ _ m op rs pc rd _
  instr-met (Store op rs1 rs2 z) = store-met _ _ _ _ _ _
  instr-met (OpImm op rd rs1 z) = tt
  instr-met (OpImmW op rd rs1 z) = tt
  instr-met (Op op rd rs1 rs2) = tt
  instr-met (OpW op rd rs1 rs2) = tt
  instr-met (Fence word) = tt
  instr-met Ecall = tt
  instr-met Ebreak = tt
  instr-met Illegal = tt
  instr-met Hgate = tt
  instr-met Hleave = tt
  instr-met (Hsite rd) = tt
  instr-met (Hkey rd) = refl
  instr-met Hstop = tt
  instr-met Hrestart = tt
  instr-met (Hcall unhinted) = refl
  instr-met (Hpark cause) = refl

word-met : (s : Space) (rs : Registers) (pc : ℕ) (word : Option ℕ) → MetAt (option_map instr_of word) (word_effect Shadow s rs pc word)
word-met s rs pc None = tt
word-met s rs pc (Some word) = instr-met (rights_of Shadow s.layout) (sees Shadow s) rs pc (instr_of word)

-- the word at pc is the gate that the shadow meets there
pub gate_word : (s : Space) (rs : Registers) (pc : ℕ) (met : Instr) → effect_at Shadow s rs pc ≡ Gated met → option_map instr_of (word_at Shadow s pc) ≡ Some met
unfolding effect_at
gate_word s rs pc met e = subst (MetAt (option_map instr_of (word_at Shadow s pc))) e (word-met s rs pc (word_at Shadow s pc))
