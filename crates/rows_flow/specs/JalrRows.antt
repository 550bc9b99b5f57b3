-- The rows of the block of jalr, which goes on in the helper JUMP (this project's own).
use Rattle.std.specs.Prelude.{ℕ, ◌+◌, ◌≡◌, ◌⊎◌, ℤ, List}
use Rattle.spec_base.specs.Word.{plus_int}
use Rattle.spec_base.specs.Layout.{helpers_start}
use Rattle.spec_base.specs.declared.layout.Layout.{Layout}
use Rattle.rv_decode.specs.declared.instr.Instr.{Instr}
use Rattle.rv_decode.specs.declared.instr.Instr.TheVariants.{Jalr}
use Rattle.rv_model.specs.Memory.{Memory}
use Rattle.code_model.specs.Blocks.{block}
use Rattle.code_model.specs.Places.{block_at, JUMP}
use Rattle.side_model.specs.Hart.{Regs, get, put, Priv}
use Rattle.code_model.specs.Tables.{Tabs, TableOk}
use Rattle.side_model.specs.Places.{Jumping, Place, InBlock, InHelper, code, IsInstruction}
use Rattle.side_model.specs.Words.{exec_some}
use Rattle.side_model.specs.JumpRows.{high_part, with_31, JumpRow, JumpFits}
use Rattle.rows_flow.specs.Following.{Follows}

-- jalr at p
module _ (l : Layout) (p rd rs1 : ℕ) (imm : ℤ) (q : Regs) where
  -- the address that it goes to, before its lowest bit is cleared
  abbrev pub at : ℕ
  at = plus_int (get rs1 q) imm

  -- the program's registers behind it
  abbrev pub linked : Regs
  linked = put rd (p + 4) q

  -- the private places behind words 1 and 3, and behind word 6, as JUMP finds them
  abbrev pub spilled : Priv → Priv
  spilled s = record s { x31 = q.x31 }

  abbrev pub asked : Priv → Priv
  asked s = record s { x31 = q.x31; adr = at }

  abbrev pub kept : Priv → Priv
  kept s = record s { x31 = linked.x31; adr = at }

  -- the target is taken before the link is written, since they may be the same register
  pub data JalrRow : Place → Regs → Priv → Tabs → ℕ → Type 0 where
    r1 : (s : Priv) {t : Tabs} → JalrRow (InBlock 1) q s t 25
    r2 : (s : Priv) {t : Tabs} → JalrRow (InBlock 2) q (spilled s) t 24
    r3 : (s : Priv) {t : Tabs} → JalrRow (InBlock 3) (with_31 q at) (spilled s) t 23
    r4 : (s : Priv) {t : Tabs} → JalrRow (InBlock 4) (with_31 q at) (asked s) t 22
    r5 : (s : Priv) {t : Tabs} → JalrRow (InBlock 5) (put rd (high_part (p + 4)) (with_31 q at)) (asked s) t 21
    r6 : (s : Priv) {t : Tabs} → JalrRow (InBlock 6) (put rd (p + 4) (with_31 q at)) (asked s) t 20
    r7 : (s : Priv) {t : Tabs} → JalrRow (InBlock 7) (put rd (p + 4) (with_31 q at)) (kept s) t 19
    r8 : (s : Priv) {t : Tabs} → JalrRow (InBlock 8) (with_31 linked (high_part (helpers_start + JUMP))) (kept s) t 18

  -- the rows of the block, and the first one of JUMP
  abbrev pub JalrsRow : Place → Regs → Priv → Tabs → ℕ → Type 0
  JalrsRow place rs s t n = JalrRow place rs s t n ⊎ ((place ≡ InHelper Jumping 0) × JumpRow l at linked place rs s t n)

-- each word of its block follows it, into JUMP
abbrev pub JalrLeads : Type 0
JalrLeads =
    (l : Layout) (p rd rs1 : ℕ) (imm : ℤ) (q : Regs) (program : Memory) → IsInstruction l p
    → (n : ℕ) (place : Place) (rs : Regs) (s : Priv) (t : Tabs) (m : Memory) → TableOk l t → JalrRow l p rd rs1 imm q place rs s t n
    → Follows l program p (Jalr rd rs1 imm) q (block_at l p) (JalrsRow l p rd rs1 imm q) t m n
    (exec_some (block_at l p) (code l (block l p (Jalr rd rs1 imm)) place) (record { place = place; regs = rs; priv = s; tabs = t }) m)

-- and so does each word of JUMP, up to word 0 of the target's block, which begins at base
abbrev pub JumpFollows : Type 0
JumpFollows =
    (l : Layout) (p rd rs1 : ℕ) (imm : ℤ) (q : Regs) (base : ℕ) (words : List Instr) (program : Memory) → IsInstruction l p
    → JumpFits l (plus_int (get rs1 q) imm) (put rd (p + 4) q) base words
    → (n : ℕ) (place : Place) (rs : Regs) (s : Priv) (t : Tabs) (m : Memory) → TableOk l t → JumpRow l (plus_int (get rs1 q) imm) (put rd (p + 4) q) place rs s t n
    → Follows l program p (Jalr rd rs1 imm) q base (JumpRow l (plus_int (get rs1 q) imm) (put rd (p + 4) q)) t m n
    (exec_some base (code l words place) (record { place = place; regs = rs; priv = s; tabs = t }) m)

-- Each word of the block of jalr, and of JUMP, goes on to the next one, at most 25 from word 1 on, to
-- the block of the address that the program goes to, with the link in its register, or parks, and
-- this only where that address isn't in the text, or is no multiple of 4. No word changes the tables
-- or the memory.

-- at word 1 there are 25 words left at most
abbrev pub JalrStarts : Type 0
JalrStarts = (l : Layout) (p rd rs1 : ℕ) (imm : ℤ) (q : Regs) (s : Priv) (t : Tabs) → JalrRow l p rd rs1 imm q (InBlock 1) q s t 25
