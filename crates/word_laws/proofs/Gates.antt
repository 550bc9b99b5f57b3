-- What stands where a gate is met, and that no call stands where none is.
use Rattle.std.proofs.Common.{◌≡◌, ℕ, Bool, true, false, not, ◌||◌, Option, Some, None, refl}
use Rattle.std.specs.Option.{option_map}
use Rattle.spec_base.specs.Word.{plus_int}
use Rattle.spec_base.specs.declared.machine.View.{View}
use Rattle.spec_base.specs.declared.machine.View.TheVariants.{Plain, Program, Stub, Shadow}
use Rattle.rv_decode.specs.Instruction.{instr_of}
use Rattle.rv_decode.specs.declared.instr.Instr.{Instr}
use Rattle.rv_decode.specs.declared.instr.Instr.TheVariants.{Lui, Auipc, Jal, Jalr, Branch, Load, Store, OpImm, OpImmW, Op, OpW, Fence, Ecall, Ebreak, Hgate, Hleave, Hsite, Hkey, Hstop, Hrestart, Hcall, Hpark, Illegal}
use Rattle.rv_decode.specs.declared.instr.LoadOp.{LoadOp}
use Rattle.rv_model.specs.Memory.{Memory}
use Rattle.rv_model.specs.Registers.{Registers, reg}
use Rattle.rv_model.specs.Rights.{Rights, rights_of}
use Rattle.rv_model.specs.Arithmetic.{is_taken}
use Rattle.rv_model.specs.Effect.{Effect, Next, Stored, Trapped, Called, Gated, effect, gate_effect, call_effect, jump_if, branch_if, load_if, store_if}
use Rattle.rv_model.specs.Space.{Space, sees, word_at, word_effect, effect_at}
use Rattle.run_model.specs.ShadowMoves.{is_call_word}
use Rattle.word_laws.specs.Shown.{is_performed}

-- HCALL 0, and HCALL 1 where that is one too
abbrev pub calls_with : Bool → Option Instr → Bool
calls_with both (Some (Hcall unhinted)) = not unhinted || both
calls_with both _ = false

-- the shadow's calls
pub shadow_calls : (i : Option Instr) → is_call_word i ≡ calls_with true i
shadow_calls (Some (Hcall true)) = refl
shadow_calls (Some (Hcall false)) = refl
shadow_calls _ = refl

-- the stub's
pub stub_calls : (i : Option Instr) → is_performed i ≡ calls_with false i
stub_calls (Some (Hcall true)) = refl
stub_calls (Some (Hcall false)) = refl
stub_calls _ = refl

-- a gate is met at its own word, and a word with another effect is no call
abbrev pub MetAt : Bool → Option Instr → Effect → Type 0
MetAt both i (Gated gate) = i ≡ Some gate
MetAt both i (Next rs pc) = calls_with both i ≡ false
MetAt both i (Stored a width value) = calls_with both i ≡ false
MetAt both i (Trapped cause) = calls_with both i ≡ false
MetAt both i Called = calls_with both i ≡ false

-- a jump, a branch, a load and a store
module _ (both : Bool) (i : Option Instr) (none : calls_with both i ≡ false) where
  jump-met : (b : Bool) (rs : Registers) (target : ℕ) → MetAt both i (jump_if b rs target)
  jump-met true rs target = none
  jump-met false rs target = none

  branch-met : (b : Bool) (rs : Registers) (pc target : ℕ) → MetAt both i (branch_if b rs pc target)
  branch-met true rs pc target = jump-met _ rs target
  branch-met false rs pc target = none

  load-met : (x y : Bool) (m : Memory) (op : LoadOp) (rs : Registers) (pc rd a : ℕ) → MetAt both i (load_if x y m op rs pc rd a)
  load-met false y m op rs pc rd a = none
  load-met true false m op rs pc rd a = none
  load-met true true m op rs pc rd a = none

  store-met : (x y : Bool) (a width value : ℕ) → MetAt both i (store_if x y a width value)
  store-met false y a width value = none
  store-met true false a width value = none
  store-met true true a width value = none

  call-met : (v : View) → MetAt both i (call_effect v)
  call-met Plain = none
  call-met Program = none
  call-met Stub = none
  call-met Shadow = none

-- ---- in a view whose gates are met so

module _ (both : Bool) (v : View) (gates : (i : Instr) → MetAt both (Some i) (gate_effect v i)) where
  module _ (r : Rights) (m : Memory) (rs : Registers) (pc : ℕ) where
    instr-met : (i : Instr) → MetAt both (Some i) (effect v r m rs pc i)
    instr-met (Lui rd z) = refl
    instr-met (Auipc rd z) = refl
    instr-met (Jal rd z) = jump-met both (Some (Jal rd z)) refl _ _ _
    instr-met (Jalr rd rs1 z) = jump-met both (Some (Jalr rd rs1 z)) refl _ _ _
    instr-met (Branch op rs1 rs2 z) = branch-met both (Some (Branch op rs1 rs2 z)) refl (is_taken op (reg rs rs1) (reg rs rs2)) rs pc (plus_int pc z)
    instr-met (Load op rd rs1 z) = load-met both (Some (Load op rd rs1 z)) refl _ _ m op rs pc rd _
    instr-met (Store op rs1 rs2 z) = store-met both (Some (Store op rs1 rs2 z)) refl _ _ _ _ _
    instr-met (OpImm op rd rs1 z) = refl
    instr-met (OpImmW op rd rs1 z) = refl
    instr-met (Op op rd rs1 rs2) = refl
    instr-met (OpW op rd rs1 rs2) = refl
    instr-met (Fence word) = refl
    instr-met Ecall = call-met both (Some Ecall) refl v
    instr-met Ebreak = refl
    instr-met Illegal = refl
    instr-met Hgate = gates Hgate
    instr-met Hleave = gates Hleave
    instr-met (Hsite rd) = gates (Hsite rd)
    instr-met (Hkey rd) = gates (Hkey rd)
    instr-met Hstop = gates Hstop
    instr-met Hrestart = gates Hrestart
    instr-met (Hcall unhinted) = gates (Hcall unhinted)
    instr-met (Hpark cause) = gates (Hpark cause)

  word-met : (s : Space) (rs : Registers) (pc : ℕ) (word : Option ℕ) → MetAt both (option_map instr_of word) (word_effect v s rs pc word)
  word-met s rs pc None = refl
  word-met s rs pc (Some word) = instr-met (rights_of v s.layout) (sees v s) rs pc (instr_of word)

  met-here : (s : Space) (rs : Registers) (pc : ℕ) → MetAt both (option_map instr_of (word_at v s pc)) (effect_at v s rs pc)
  unfolding effect_at
  met-here s rs pc = word-met s rs pc (word_at v s pc)

shadow-gates : (i : Instr) → MetAt true (Some i) (gate_effect Shadow i)
shadow-gates (Hkey rd) = refl
shadow-gates (Hcall true) = refl
shadow-gates (Hcall false) = refl
shadow-gates (Hpark cause) = refl
shadow-gates _ = refl

stub-gates : (i : Instr) → MetAt false (Some i) (gate_effect Stub i)
stub-gates Hleave = refl
stub-gates (Hsite rd) = refl
stub-gates (Hkey rd) = refl
stub-gates Hstop = refl
stub-gates Hrestart = refl
stub-gates (Hcall true) = refl
stub-gates (Hcall false) = refl
stub-gates _ = refl

-- what the shadow meets at a pc
pub shadow_met : (s : Space) (rs : Registers) (pc : ℕ) → MetAt true (option_map instr_of (word_at Shadow s pc)) (effect_at Shadow s rs pc)
shadow_met = met-here true Shadow shadow-gates

-- what the stub meets at a pc
pub stub_met : (s : Space) (rs : Registers) (pc : ℕ) → MetAt false (option_map instr_of (word_at Stub s pc)) (effect_at Stub s rs pc)
stub_met = met-here false Stub stub-gates
