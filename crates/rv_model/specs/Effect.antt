-- What one instruction does (RISC-V Unprivileged ISA 20191213, chapters 2, 5 and 7; the gate instructions are this project's own).
use Rattle.std.specs.Prelude.{ℕ, ◌+◌, ◌-◌, ◌/◌, ◌%◌, Bool, true, false, ◌&&◌, List, slice_get, nat_le, ◌==◌, Option, None}
use Rattle.spec_base.specs.Word.{wrap, word_of_int, plus_int}
use Rattle.spec_base.specs.declared.machine.Trap.{Trap}
use Rattle.spec_base.specs.declared.machine.Trap.TheVariants as trap
use Rattle.spec_base.specs.declared.machine.View.{View}
use Rattle.spec_base.specs.declared.machine.View.TheVariants.{Plain, Program, Stub, Shadow}
use Rattle.rv_decode.specs.declared.instr.Instr.{Instr}
use Rattle.rv_decode.specs.declared.instr.Instr.TheVariants.{Lui, Auipc, Jal, Jalr, Branch, Load, Store, OpImm, OpImmW, Op, OpW, Fence, Ecall, Ebreak, Hgate, Hleave, Hsite, Hkey, Hstop, Hrestart, Hcall, Hpark, Illegal}
use Rattle.rv_decode.specs.declared.instr.LoadOp.{LoadOp}
use Rattle.rv_model.specs.Memory.{Memory, loaded, all_from}
use Rattle.rv_model.specs.Registers.{Registers, reg, with_reg}
use Rattle.rv_model.specs.Rights.{Rights}
use Rattle.rv_model.specs.Arithmetic.{reg_result, reg_w_result, imm_result, imm_w_result, is_taken, load_width, extended, store_width}

-- the hart goes on with these registers at this pc, stores a number, traps, makes a call, or meets a gate instruction of its view
pub data Effect : Type 0 where
  Next : (registers : Registers) (pc : ℕ) → Effect
  Stored : (address width value : ℕ) → Effect
  Trapped : Trap → Effect
  Called : Effect
  Gated : Instr → Effect

-- ---- going on

-- the address of the next word
abbrev pub after : ℕ → ℕ
after pc = wrap (pc + 4)

-- goes on at the next word
abbrev pub steps_on : Registers → ℕ → Effect
steps_on rs pc = Next rs (after pc)

-- a jump's target must be a multiple of 4
abbrev pub jump_if : Bool → Registers → ℕ → Effect
jump_if true rs target = Next rs target
jump_if false rs target = Trapped trap.Misaligned

-- goes on at a target, or traps
abbrev pub jumps_to : Registers → ℕ → Effect
jumps_to rs target = jump_if (target % 4 == 0) rs target

-- jumps where the branch is taken, and else goes on at the next word
abbrev pub branch_if : Bool → Registers → ℕ → ℕ → Effect
branch_if true rs pc target = jumps_to rs target
branch_if false rs pc target = steps_on rs pc

-- JALR clears the lowest bit of its target
abbrev pub even : ℕ → ℕ
even t = t - t % 2

-- ---- loads and stores: first whether the address is a multiple of the width, then whether the view has each byte

-- by the two tests: a trap, or rd with what was loaded
abbrev pub load_if : Bool → Bool → Memory → LoadOp → Registers → ℕ → ℕ → ℕ → Effect
load_if false inside m op rs pc rd a = Trapped trap.Misaligned
load_if true false m op rs pc rd a = Trapped trap.LoadOut
load_if true true m op rs pc rd a = steps_on (with_reg rs rd (extended op (loaded m a (load_width op)))) pc

-- a load from an address
abbrev pub load_effect : Rights → Memory → LoadOp → Registers → ℕ → ℕ → ℕ → Effect
load_effect rights m op rs pc rd a = load_if (a % load_width op == 0) (all_from rights.load a (load_width op)) m op rs pc rd a

-- by the two tests: a trap, or a store
abbrev pub store_if : Bool → Bool → ℕ → ℕ → ℕ → Effect
store_if false inside a width v = Trapped trap.Misaligned
store_if true false a width v = Trapped trap.StoreOut
store_if true true a width v = Stored a width v

-- a store to an address
abbrev pub store_effect : Rights → ℕ → ℕ → ℕ → Effect
store_effect rights a width v = store_if (a % width == 0) (all_from rights.store a width) a width v

-- ---- calls and gates, each in its view alone

-- a call is made in the plain view alone
abbrev pub call_effect : View → Effect
call_effect Plain = Called
call_effect Program = Trapped trap.Illegal
call_effect Stub = Trapped trap.Illegal
call_effect Shadow = Trapped trap.Illegal

-- a gate instruction is met in its own view, and illegal in each other
abbrev pub gate_effect : View → Instr → Effect
gate_effect Program Hgate = Gated Hgate
gate_effect Stub Hleave = Gated Hleave
gate_effect Stub (Hsite rd) = Gated (Hsite rd)
gate_effect Stub (Hkey rd) = Gated (Hkey rd)
gate_effect Stub Hstop = Gated Hstop
gate_effect Stub Hrestart = Gated Hrestart
gate_effect Stub (Hcall false) = Gated (Hcall false)
gate_effect Shadow (Hkey rd) = Gated (Hkey rd)
gate_effect Shadow (Hcall unhinted) = Gated (Hcall unhinted)
gate_effect Shadow (Hpark cause) = Gated (Hpark cause)
gate_effect v i = Trapped trap.Illegal

-- ---- the instructions

-- what an instruction does in a view, at a pc
abbrev pub effect : View → Rights → Memory → Registers → ℕ → Instr → Effect
effect v r m rs pc (Lui rd imm) = steps_on (with_reg rs rd (word_of_int imm)) pc
effect v r m rs pc (Auipc rd imm) = steps_on (with_reg rs rd (plus_int pc imm)) pc
effect v r m rs pc (Jal rd imm) = jumps_to (with_reg rs rd (after pc)) (plus_int pc imm)
effect v r m rs pc (Jalr rd rs1 imm) = jumps_to (with_reg rs rd (after pc)) (even (plus_int (reg rs rs1) imm))
effect v r m rs pc (Branch op rs1 rs2 imm) = branch_if (is_taken op (reg rs rs1) (reg rs rs2)) rs pc (plus_int pc imm)
effect v r m rs pc (Load op rd rs1 imm) = load_effect r m op rs pc rd (plus_int (reg rs rs1) imm)
effect v r m rs pc (Store op rs1 rs2 imm) = store_effect r (plus_int (reg rs rs1) imm) (store_width op) (reg rs rs2)
effect v r m rs pc (OpImm op rd rs1 imm) = steps_on (with_reg rs rd (imm_result op (reg rs rs1) imm)) pc
effect v r m rs pc (OpImmW op rd rs1 imm) = steps_on (with_reg rs rd (imm_w_result op (reg rs rs1) imm)) pc
effect v r m rs pc (Op op rd rs1 rs2) = steps_on (with_reg rs rd (reg_result op (reg rs rs1) (reg rs rs2))) pc
effect v r m rs pc (OpW op rd rs1 rs2) = steps_on (with_reg rs rd (reg_w_result op (reg rs rs1) (reg rs rs2))) pc
effect v r m rs pc (Fence word) = steps_on rs pc
effect v r m rs pc Ecall = call_effect v
effect v r m rs pc Ebreak = Trapped trap.Break
effect v r m rs pc Illegal = Trapped trap.Illegal
effect v r m rs pc other = gate_effect v other

-- what stands at pc in code from an address on; nothing outside it, nor off a multiple of 4
abbrev pub fetched : {A : Type 0} → List A → ℕ → ℕ → Option A
fetched code start pc = elim (nat_le start pc && (pc % 4 == 0)) [ true ↦ slice_get code ((pc - start) / 4) | false ↦ None ]
