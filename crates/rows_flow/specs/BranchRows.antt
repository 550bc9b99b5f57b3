-- The rows of the block of a branch (this project's own).
use Rattle.std.specs.Prelude.{ℕ, ◌≡◌, Bool, true, false, ℤ}
use Rattle.spec_base.specs.declared.layout.Layout.{Layout}
use Rattle.rv_decode.specs.declared.instr.Instr.TheVariants.{Branch}
use Rattle.rv_decode.specs.declared.instr.BranchOp.{BranchOp}
use Rattle.rv_model.specs.Memory.{Memory}
use Rattle.rv_model.specs.Arithmetic.{is_taken}
use Rattle.code_model.specs.Blocks.{block}
use Rattle.code_model.specs.Places.{block_at}
use Rattle.side_model.specs.Hart.{Regs, get, Priv}
use Rattle.code_model.specs.Tables.{Tabs, TableOk}
use Rattle.side_model.specs.Places.{Place, InBlock, code, IsInstruction}
use Rattle.side_model.specs.Words.{exec_some}
use Rattle.rows_flow.specs.Following.{Follows}

module _ (op : BranchOp) (rs1 rs2 : ℕ) (q : Regs) where
  -- whether the program's branch is taken
  abbrev pub taken : Bool
  taken = is_taken op (get rs1 q) (get rs2 q)

  -- the same branch, over NEXT, to a jump to the target's block or a park
  pub data BranchRow : Place → Regs → Priv → Tabs → ℕ → Type 0 where
    b1 : (s : Priv) {t : Tabs} → BranchRow (InBlock 1) q s t 2
    b2 : (s : Priv) {t : Tabs} → taken ≡ false → BranchRow (InBlock 2) q s t 1
    b3 : (s : Priv) {t : Tabs} → taken ≡ true → BranchRow (InBlock 3) q s t 1

-- each word of its block follows it
abbrev pub BranchLeads : Type 0
BranchLeads =
    (l : Layout) (p : ℕ) (op : BranchOp) (rs1 rs2 : ℕ) (imm : ℤ) (q : Regs) (program : Memory) → IsInstruction l p
    → (n : ℕ) (place : Place) (rs : Regs) (s : Priv) (t : Tabs) (m : Memory) → TableOk l t → BranchRow op rs1 rs2 q place rs s t n
    → Follows l program p (Branch op rs1 rs2 imm) q (block_at l p) (BranchRow op rs1 rs2 q) t m n
    (exec_some (block_at l p) (code l (block l p (Branch op rs1 rs2 imm)) place) (record { place = place; regs = rs; priv = s; tabs = t }) m)

-- Each word of the block of a branch goes on to the next one, to the block of the next instruction
-- where the branch isn't taken, and to the target's where it is, or parks, and this only where it is
-- taken to no place in the text. The registers, the tables and the memory are left.

-- at word 1 there are 2 words left at most
abbrev pub BranchStarts : Type 0
BranchStarts = (op : BranchOp) (rs1 rs2 : ℕ) (q : Regs) (s : Priv) (t : Tabs) → BranchRow op rs1 rs2 q (InBlock 1) q s t 2
