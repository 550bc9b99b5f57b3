-- A call is made in the plain view alone, and a gate is met in its own view.
use Rattle.std.proofs.Common.{ℕ, ◌%◌, Bool, true, false, Option, Some, None, ◌==◌, refl}
use Rattle.spec_base.specs.Word.{plus_int}
use Rattle.spec_base.specs.declared.machine.View.{View}
use Rattle.spec_base.specs.declared.machine.View.TheVariants.{Plain, Program, Stub, Shadow}
use Rattle.rv_decode.specs.Instruction.{instr_of}
use Rattle.rv_decode.specs.declared.instr.Instr.{Instr}
use Rattle.rv_decode.specs.declared.instr.Instr.TheVariants.{Lui, Auipc, Jal, Jalr, Branch, Load, Store, OpImm, OpImmW, Op, OpW, Fence, Ecall, Ebreak, Hgate, Hleave, Hsite, Hkey, Hstop, Hrestart, Hcall, Hpark, Illegal}
use Rattle.rv_decode.specs.declared.instr.LoadOp.{LoadOp}
use Rattle.rv_model.specs.Memory.{Memory}
use Rattle.rv_model.specs.Registers.{Registers, reg}
use Rattle.rv_model.specs.Rights.{Rights, rights_of}
use Rattle.rv_model.specs.Arithmetic.{is_taken}
use Rattle.rv_model.specs.Effect.{effect, jump_if, branch_if, load_if, store_if, call_effect, gate_effect}
use Rattle.rv_model.specs.Space.{Space, sees, word_at, word_effect, effect_at}
use Rattle.machine_laws.specs.OneMachine.{IsOfView, EffectsOfView}

-- neither a jump, nor a branch, nor a load or a store is a call or a gate
jump-of_view : (v : View) (b : Bool) (rs : Registers) (target : ℕ) → IsOfView v (jump_if b rs target)
jump-of_view v true rs target = tt
jump-of_view v false rs target = tt

branch-of_view : (v : View) (b : Bool) (rs : Registers) (pc target : ℕ) → IsOfView v (branch_if b rs pc target)
branch-of_view v true rs pc target = jump-of_view v (target % 4 == 0) rs target
branch-of_view v false rs pc target = tt

load-of_view : (v : View) (x y : Bool) (m : Memory) (op : LoadOp) (rs : Registers) (pc rd a : ℕ) → IsOfView v (load_if x y m op rs pc rd a)
load-of_view v false y m op rs pc rd a = tt
load-of_view v true false m op rs pc rd a = tt
load-of_view v true true m op rs pc rd a = tt

store-of_view : (v : View) (x y : Bool) (a width value : ℕ) → IsOfView v (store_if x y a width value)
store-of_view v false y a width value = tt
store-of_view v true false a width value = tt
store-of_view v true true a width value = tt

call-of_view : (v : View) → IsOfView v (call_effect v)
call-of_view Plain = refl
call-of_view Program = tt
call-of_view Stub = tt
call-of_view Shadow = tt

-- a gate instruction is met, or traps
gate-of_view : (v : View) (i : Instr) → IsOfView v (gate_effect v i)
gate-of_view Program Hgate = refl
gate-of_view Stub Hleave = refl
gate-of_view Stub (Hsite rd) = refl
gate-of_view Stub (Hkey rd) = refl
gate-of_view Stub Hstop = refl
gate-of_view Stub Hrestart = refl
gate-of_view Stub (Hcall false) = refl
gate-of_view Shadow (Hkey rd) = refl
gate-of_view Shadow (Hcall unhinted) = refl
gate-of_view Shadow (Hpark cause) = refl
gate-of_view v i = tt

module _ (v : View) (r : Rights) (m : Memory) (rs : Registers) (pc : ℕ) where
  instr-of_view : (i : Instr) → IsOfView v (effect v r m rs pc i)
  instr-of_view (Lui rd z) = tt
  instr-of_view (Auipc rd z) = tt
  instr-of_view (Jal rd z) = jump-of_view v _ _ _
  instr-of_view (Jalr rd rs1 z) = jump-of_view v _ _ _
  instr-of_view (Branch op rs1 rs2 z) = branch-of_view v (is_taken op (reg rs rs1) (reg rs rs2)) rs pc (plus_int pc z)
  instr-of_view (Load op rd rs1 z) = load-of_view v _ _ m op rs pc rd _
  instr-of_view (Store op rs1 rs2 z) = store-of_view v _ _ _ _ _
  instr-of_view (OpImm op rd rs1 z) = tt
  instr-of_view (OpImmW op rd rs1 z) = tt
  instr-of_view (Op op rd rs1 rs2) = tt
  instr-of_view (OpW op rd rs1 rs2) = tt
  instr-of_view (Fence word) = tt
  instr-of_view Ecall = call-of_view v
  instr-of_view Ebreak = tt
  instr-of_view Illegal = tt
  instr-of_view Hgate = gate-of_view v Hgate
  instr-of_view Hleave = gate-of_view v Hleave
  instr-of_view (Hsite rd) = gate-of_view v (Hsite rd)
  instr-of_view (Hkey rd) = gate-of_view v (Hkey rd)
  instr-of_view Hstop = gate-of_view v Hstop
  instr-of_view Hrestart = gate-of_view v Hrestart
  instr-of_view (Hcall unhinted) = gate-of_view v (Hcall unhinted)
  instr-of_view (Hpark cause) = gate-of_view v (Hpark cause)

word-of_view : (v : View) (s : Space) (rs : Registers) (pc : ℕ) (word : Option ℕ) → IsOfView v (word_effect v s rs pc word)
word-of_view v s rs pc None = tt
word-of_view v s rs pc (Some word) = instr-of_view v (rights_of v s.layout) (sees v s) rs pc (instr_of word)

pub effects_of_view : EffectsOfView
unfolding effect_at
effects_of_view v s rs pc = word-of_view v s rs pc (word_at v s pc)
