-- The rows of the block of jal, and of the pad of its target's block, to which it jumps by register (this project's own).
use Rattle.std.specs.Prelude.{ℕ, ◌+◌, ◌≡◌, true, ℤ, nat_lt, List, slice_get, Option, Some}
use Rattle.spec_base.specs.Word.{plus_int}
use Rattle.spec_base.specs.declared.layout.Layout.{Layout}
use Rattle.rv_decode.specs.declared.instr.Instr.{Instr}
use Rattle.rv_decode.specs.declared.instr.Instr.TheVariants.{Jal, Jalr}
use Rattle.rv_model.specs.Memory.{Memory}
use Rattle.rv_model.specs.Effect.{even}
use Rattle.code_model.specs.Assembly.{ld, X31}
use Rattle.code_model.specs.Blocks.{block, is_target}
use Rattle.code_model.specs.Places.{block_at}
use Rattle.side_model.specs.Hart.{Regs, get, put, Priv}
use Rattle.code_model.specs.Tables.{Tabs, TableOk}
use Rattle.side_model.specs.Places.{Place, InBlock, code, IsInstruction}
use Rattle.side_model.specs.Words.{exec_some}
use Rattle.side_model.specs.JumpRows.{high_part, with_31}
use Rattle.rows_flow.specs.Following.{Follows}

-- jal at p to target
module _ (l : Layout) (p rd target : ℕ) (q : Regs) where
  -- the program's registers behind it
  abbrev pub linked : Regs
  linked = put rd (p + 4) q

  -- the private places then
  abbrev pub kept : Priv → Priv
  kept s = record s { x31 = linked.x31 }

  -- the link, and a jump through x31. Where the target isn't in the text, word 1 parks
  pub data JalRow : Place → Regs → Priv → Tabs → ℕ → Type 0 where
    k1 : (s : Priv) {t : Tabs} → JalRow (InBlock 1) q s t 6
    k2 : (s : Priv) {t : Tabs} → is_target l target ≡ true → JalRow (InBlock 2) (put rd (high_part (p + 4)) q) s t 5
    k3 : (s : Priv) {t : Tabs} → is_target l target ≡ true → JalRow (InBlock 3) linked s t 4
    k4 : (s : Priv) {t : Tabs} → is_target l target ≡ true → JalRow (InBlock 4) linked (kept s) t 3
    k5 : (s : Priv) {t : Tabs} → is_target l target ≡ true → JalRow (InBlock 5) (with_31 linked (high_part (block_at l target))) (kept s) t 2

  -- word 0 of the target's block: x31 is the program's again
  pub data PadRow : Place → Regs → Priv → Tabs → ℕ → Type 0 where
    pad : {v : ℕ} (s : Priv) {t : Tabs} → is_target l target ≡ true → PadRow (InBlock 0) (with_31 linked v) (kept s) t 1

-- a word of the block at base with n words left: it follows there, or jumps by register to the pad of the block at other, where fewer words are left
pub data Crosses (l : Layout) (program : Memory) (p : ℕ) (i : Instr) (q : Regs) (base other : ℕ) (Row Pad : Place → Regs → Priv → Tabs → ℕ → Type 0)
    (word : Option Instr) (place : Place) (rs : Regs) (s : Priv) (t : Tabs) (m : Memory) (n : ℕ) : Type 0 where
  stays : Follows l program p i q base Row t m n (exec_some base word (record { place = place; regs = rs; priv = s; tabs = t }) m)
      → Crosses l program p i q base other Row Pad word place rs s t m n
  crosses : (k register : ℕ) (offset : ℤ) → word ≡ Some (Jalr 0 register offset) → even (plus_int (get register rs) offset) ≡ other → Pad (InBlock 0) rs s t k → nat_lt k n ≡ true
      → Crosses l program p i q base other Row Pad word place rs s t m n

-- each word of its block follows it, but for the last, which jumps to the pad of the target's block
abbrev pub JalLeads : Type 0
JalLeads =
    (l : Layout) (p rd : ℕ) (imm : ℤ) (q : Regs) (program : Memory) → IsInstruction l p
    → (n : ℕ) (place : Place) (rs : Regs) (s : Priv) (t : Tabs) (m : Memory) → TableOk l t → JalRow l p rd (plus_int p imm) q place rs s t n
    → Crosses l program p (Jal rd imm) q (block_at l p) (block_at l (plus_int p imm)) (JalRow l p rd (plus_int p imm) q) (PadRow l p rd (plus_int p imm) q)
    (code l (block l p (Jal rd imm)) place) place rs s t m n

-- the pad of the target's block, whose words these are, follows it
abbrev pub PadLeads : Type 0
PadLeads =
    (l : Layout) (p rd : ℕ) (imm : ℤ) (q : Regs) (words : List Instr) (program : Memory) → IsInstruction l p → slice_get words 0 ≡ Some (ld 31 X31 0)
    → (n : ℕ) (place : Place) (rs : Regs) (s : Priv) (t : Tabs) (m : Memory) → TableOk l t → PadRow l p rd (plus_int p imm) q place rs s t n
    → Follows l program p (Jal rd imm) q (block_at l (plus_int p imm)) (PadRow l p rd (plus_int p imm) q) t m n
    (exec_some (block_at l (plus_int p imm)) (code l words place) (record { place = place; regs = rs; priv = s; tabs = t }) m)

-- Each word of the block of jal goes on to the next one, and the last to word 0 of the target's
-- block, and this to its word 1, with the link in its register; at most 6 words from word 1 on. It
-- parks only where the target isn't in the text. No word changes the tables or the memory.

-- at word 1 there are 6 words left at most
abbrev pub JalStarts : Type 0
JalStarts = (l : Layout) (p rd target : ℕ) (q : Regs) (s : Priv) (t : Tabs) → JalRow l p rd target q (InBlock 1) q s t 6
