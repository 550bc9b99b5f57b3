-- An instruction of the rewritten text does in the program's view what the original does in the plain one; a call is a gate there.
use Rattle.std.proofs.Common.{◌≡◌, ℕ, ◌-◌, ◌/◌, ◌%◌, Bool, true, false, ◌&&◌, List, map, nat_le, ◌==◌, slice_get, None, refl}
use Rattle.std.specs.Prelude.{⊤}
use Rattle.std.specs.Option.{option_map}
use Rattle.std.proofs.lemmas.Option.{slice_get-map}
use Rattle.spec_base.specs.Word.{plus_int}
use Rattle.spec_base.specs.declared.machine.View.TheVariants.{Plain, Program}
use Rattle.rv_decode.specs.declared.instr.Instr.{Instr}
use Rattle.rv_decode.specs.declared.instr.Instr.TheVariants.{Lui, Auipc, Jal, Jalr, Branch, Load, Store, OpImm, OpImmW, Op, OpW, Fence, Ecall, Ebreak, Hgate, Hleave, Hsite, Hkey, Hstop, Hrestart, Hcall, Hpark, Illegal}
use Rattle.rv_decode.specs.declared.instr.LoadOp.{LoadOp}
use Rattle.rv_model.specs.Memory.{Memory}
use Rattle.rv_model.specs.Registers.{Registers, reg}
use Rattle.rv_model.specs.Rights.{Rights}
use Rattle.rv_model.specs.Arithmetic.{is_taken}
use Rattle.rv_model.specs.Effect.{Effect, Next, Stored, Trapped, Called, Gated, effect, fetched, jump_if, branch_if, load_if, store_if}
use Rattle.code_model.specs.Patch.{patched_instr}

-- ---- the same effect, but that a call is a gate

-- an effect in which a call is a gate
abbrev pub gated : Effect → Effect
gated Called = Gated Hgate
gated (Next rs pc) = Next rs pc
gated (Stored a width v) = Stored a width v
gated (Trapped cause) = Trapped cause
gated (Gated i) = Gated i

-- a jump makes no call
jump_if-gated : (b : Bool) (rs : Registers) (target : ℕ) → jump_if b rs target ≡ gated (jump_if b rs target)
jump_if-gated true rs target = refl
jump_if-gated false rs target = refl

-- nor does a branch
branch_if-gated : (b : Bool) (rs : Registers) (pc target : ℕ) → branch_if b rs pc target ≡ gated (branch_if b rs pc target)
branch_if-gated true rs pc target = jump_if-gated (target % 4 == 0) rs target
branch_if-gated false rs pc target = refl

-- nor does a load
load_if-gated : (x y : Bool) (m : Memory) (op : LoadOp) (rs : Registers) (pc rd a : ℕ) → load_if x y m op rs pc rd a ≡ gated (load_if x y m op rs pc rd a)
load_if-gated false y m op rs pc rd a = refl
load_if-gated true false m op rs pc rd a = refl
load_if-gated true true m op rs pc rd a = refl

-- nor does a store
store_if-gated : (x y : Bool) (a width v : ℕ) → store_if x y a width v ≡ gated (store_if x y a width v)
store_if-gated false y a width v = refl
store_if-gated true false a width v = refl
store_if-gated true true a width v = refl

module _ (r : Rights) (m : Memory) (rs : Registers) (pc : ℕ) where
  -- the patched instruction has the original's effect, with a gate for a call
  pub effect-patched : (i : Instr) → effect Program r m rs pc (patched_instr i) ≡ gated (effect Plain r m rs pc i)
  effect-patched (Lui rd imm) = refl
  effect-patched (Auipc rd imm) = refl
  effect-patched (Jal rd imm) = jump_if-gated _ _ _
  effect-patched (Jalr rd rs1 imm) = jump_if-gated _ _ _
  effect-patched (Branch op rs1 rs2 imm) = branch_if-gated (is_taken op (reg rs rs1) (reg rs rs2)) rs pc (plus_int pc imm)
  effect-patched (Load op rd rs1 imm) = load_if-gated _ _ m op rs pc rd _
  effect-patched (Store op rs1 rs2 imm) = store_if-gated _ _ _ _ _
  effect-patched (OpImm op rd rs1 imm) = refl
  effect-patched (OpImmW op rd rs1 imm) = refl
  effect-patched (Op op rd rs1 rs2) = refl
  effect-patched (OpW op rd rs1 rs2) = refl
  effect-patched (Fence word) = refl
  effect-patched Ecall = refl
  effect-patched Ebreak = refl
  effect-patched Hgate = refl
  effect-patched Hleave = refl
  effect-patched (Hsite rd) = refl
  effect-patched (Hkey rd) = refl
  effect-patched Hstop = refl
  effect-patched Hrestart = refl
  effect-patched (Hcall unhinted) = refl
  effect-patched (Hpark cause) = refl
  effect-patched Illegal = refl

-- ---- no instruction of a plain program is a gate

-- an effect that is no gate
abbrev NoGateIn : Effect → Type 0
NoGateIn (Gated i) = ⊥
NoGateIn (Next rs pc) = ⊤
NoGateIn (Stored a width v) = ⊤
NoGateIn (Trapped cause) = ⊤
NoGateIn Called = ⊤

pub record NoGate (e : Effect) : Type 0 where
  pub by : NoGateIn e

-- a jump is no gate
jump_if-no_gate : (b : Bool) (rs : Registers) (target : ℕ) → NoGate (jump_if b rs target)
jump_if-no_gate true rs target = record { by = tt }
jump_if-no_gate false rs target = record { by = tt }

-- nor is a branch
branch_if-no_gate : (b : Bool) (rs : Registers) (pc target : ℕ) → NoGate (branch_if b rs pc target)
branch_if-no_gate true rs pc target = jump_if-no_gate (target % 4 == 0) rs target
branch_if-no_gate false rs pc target = record { by = tt }

-- nor is a load
load_if-no_gate : (x y : Bool) (m : Memory) (op : LoadOp) (rs : Registers) (pc rd a : ℕ) → NoGate (load_if x y m op rs pc rd a)
load_if-no_gate false y m op rs pc rd a = record { by = tt }
load_if-no_gate true false m op rs pc rd a = record { by = tt }
load_if-no_gate true true m op rs pc rd a = record { by = tt }

-- nor is a store
store_if-no_gate : (x y : Bool) (a width v : ℕ) → NoGate (store_if x y a width v)
store_if-no_gate false y a width v = record { by = tt }
store_if-no_gate true false a width v = record { by = tt }
store_if-no_gate true true a width v = record { by = tt }

-- in the plain view no instruction is a gate
pub effect-no_gate : (r : Rights) (m : Memory) (rs : Registers) (pc : ℕ) (i : Instr) → NoGate (effect Plain r m rs pc i)
effect-no_gate r m rs pc (Jal rd imm) = jump_if-no_gate _ _ _
effect-no_gate r m rs pc (Jalr rd rs1 imm) = jump_if-no_gate _ _ _
effect-no_gate r m rs pc (Branch op rs1 rs2 imm) = branch_if-no_gate (is_taken op (reg rs rs1) (reg rs rs2)) rs pc _
effect-no_gate r m rs pc (Load op rd rs1 imm) = load_if-no_gate _ _ m op rs pc rd _
effect-no_gate r m rs pc (Store op rs1 rs2 imm) = store_if-no_gate _ _ _ _ _
effect-no_gate r m rs pc _ = record { by = tt }

-- ---- fetches

-- what is fetched of the patched text is the patched instruction
pub fetched-map : (f : Instr → Instr) (text : List Instr) (start pc : ℕ) → fetched (map f text) start pc ≡ option_map f (fetched text start pc)
fetched-map f text start pc = by_test (nat_le start pc && (pc % 4 == 0))
  where
    i : ℕ
    i = (pc - start) / 4

    by_test : (t : Bool) → elim t [ true ↦ slice_get (map f text) i | false ↦ None ] ≡ option_map f (elim t [ true ↦ slice_get text i | false ↦ None ])
    by_test true = slice_get-map f text i
    by_test false = refl
