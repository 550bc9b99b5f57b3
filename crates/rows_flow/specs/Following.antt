-- How the block of an instruction follows the program: it arrives where the instruction goes on, with the registers that it gives, or parks where it can't go on (this project's own).
use Rattle.std.specs.Prelude.{ℕ, ◌≡◌, Bool, true, false}
use Rattle.spec_base.specs.declared.layout.Layout.{Layout}
use Rattle.spec_base.specs.declared.machine.Trap.{Trap}
use Rattle.spec_base.specs.declared.machine.View.TheVariants.{Plain}
use Rattle.spec_base.specs.declared.park.Park.{Park}
use Rattle.spec_base.specs.declared.park.Park.TheVariants as park
use Rattle.rv_decode.specs.declared.instr.Instr.{Instr}
use Rattle.rv_decode.specs.declared.instr.Instr.TheVariants.{Jal, Jalr, Branch}
use Rattle.rv_model.specs.Memory.{Memory}
use Rattle.rv_model.specs.Registers.{Registers}
use Rattle.rv_model.specs.Rights.{Rights, in_text}
use Rattle.rv_model.specs.Arithmetic.{is_taken}
use Rattle.rv_model.specs.Effect.{Effect, Next, Trapped, effect}
use Rattle.side_model.specs.Hart.{Regs, get, Priv}
use Rattle.code_model.specs.Tables.{Tabs}
use Rattle.side_model.specs.Places.{Place}
use Rattle.side_model.specs.Words.{Out}
use Rattle.side_model.specs.Rows.{Led}
use Rattle.side_model.specs.Sees.{HasRegs}
use Rattle.side_model.specs.Tables.{IsUnchanged}

-- ---- what an instruction does

-- it goes on at this pc with these registers
pub record GoesOn (e : Effect) (pc : ℕ) (q : Regs) : Type 0 where
  pub registers : Registers
  pub next : e ≡ Next registers pc
  pub shown : HasRegs registers q

-- it traps, or goes on outside the text
pub data GoesOut (l : Layout) : Effect → Type 0 where
  traps : (t : Trap) → GoesOut l (Trapped t)
  leaves : (rs : Registers) (pc : ℕ) → in_text l pc ≡ false → GoesOut l (Next rs pc)

-- ---- its block, for the instruction i at p with the program's registers q at word 1

-- whether an instruction jumps, or branches and is taken
abbrev pub jumps : Regs → Instr → Bool
jumps q (Jal rd imm) = true
jumps q (Jalr rd rs1 imm) = true
jumps q (Branch op rs1 rs2 imm) = is_taken op (get rs1 q) (get rs2 q)
jumps q _ = false

-- the block arrives where the program goes on, with the program's registers there. A jump, or a branch that is taken, arrives in the text alone
pub record FlowArrives (l : Layout) (p : ℕ) (i : Instr) (q : Regs) (target : ℕ) (rs : Regs) : Type 0 where
  pub goes : (rights : Rights) (memory : Memory) (was : Registers) → HasRegs was q → GoesOn (effect Plain rights memory was p i) target rs
  pub inside : jumps q i ≡ true → in_text l target ≡ true

-- it traps
pub record IsTrap (e : Effect) : Type 0 where
  pub cause : Trap
  pub trap : e ≡ Trapped cause

-- the block parks at FAULT where the program traps, or goes on outside the text by a jump or a branch that is taken, where it would trap next
pub record FlowFaults (l : Layout) (p : ℕ) (i : Instr) (q : Regs) (cause : Park) : Type 0 where
  pub fault : cause ≡ park.Fault
  pub out : (rights : Rights) (memory : Memory) (was : Registers) → HasRegs was q → GoesOut l (effect Plain rights memory was p i)
  pub other : jumps q i ≡ false → (rights : Rights) (memory : Memory) (was : Registers) → IsTrap (effect Plain rights memory was p i)

-- a word with n words left leads to a row of the block, to an arrival or to a park, and leaves the tables t and the memory m
abbrev pub Follows : Layout → Memory → ℕ → Instr → Regs → ℕ → (Place → Regs → Priv → Tabs → ℕ → Type 0) → Tabs → Memory → ℕ → Out → Type 0
Follows l program p i q base Row t m n =
    Led l program base (λ place rs s t' m' k. Row place rs s t' k × IsUnchanged t m t' m') (λ target rs t' m'. FlowArrives l p i q target rs × IsUnchanged t m t' m')
    (λ cause t' m'. FlowFaults l p i q cause × IsUnchanged t m t' m') n
