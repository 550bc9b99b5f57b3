-- The rows of blocks of instructions that only compute, of auipc, and of those that park; and of the guard block (this project's own).
use Rattle.std.specs.Prelude.{ℕ, ◌+◌, ◌/◌, ◌≡◌, Bool, false, ℤ}
use Rattle.spec_base.specs.Word.{wrap, word_of_int, plus_int}
use Rattle.spec_base.specs.declared.layout.Layout.{Layout}
use Rattle.spec_base.specs.declared.park.Park.{Park}
use Rattle.spec_base.specs.declared.park.Park.TheVariants as park
use Rattle.rv_decode.specs.Encoding.{IsEncodable}
use Rattle.rv_decode.specs.declared.instr.Instr.{Instr}
use Rattle.rv_decode.specs.declared.instr.Instr.TheVariants.{Lui, Auipc, OpImm, OpImmW, Op, OpW, Fence, Ebreak, Hgate, Hleave, Hsite, Hkey, Hstop, Hrestart, Hcall, Hpark, Illegal}
use Rattle.rv_decode.specs.declared.instr.ImmOp.{ImmOp}
use Rattle.rv_decode.specs.declared.instr.ImmWOp.{ImmWOp}
use Rattle.rv_decode.specs.declared.instr.RegOp.{RegOp}
use Rattle.rv_decode.specs.declared.instr.RegWOp.{RegWOp}
use Rattle.rv_model.specs.Memory.{Memory}
use Rattle.rv_model.specs.Arithmetic.{imm_result, imm_w_result, reg_result, reg_w_result}
use Rattle.rv_model.specs.Rights.{in_text}
use Rattle.code_model.specs.Assembly.{lo}
use Rattle.code_model.specs.Blocks.{block, guard_block}
use Rattle.code_model.specs.Places.{block_at}
use Rattle.side_model.specs.Hart.{Regs, get, put, Priv}
use Rattle.code_model.specs.Tables.{Tabs, TableOk}
use Rattle.side_model.specs.Places.{Place, InBlock, code, IsInstruction}
use Rattle.side_model.specs.Words.{exec_some}
use Rattle.side_model.specs.Rows.{Led}
use Rattle.side_model.specs.JumpRows.{high_part}
use Rattle.side_model.specs.Tables.{IsUnchanged}
use Rattle.rows_flow.specs.Following.{Follows}

-- ---- instructions that only compute: two words

-- an instruction that only computes
pub data Computes : Instr → Type 0 where
  a_lui : (rd : ℕ) (imm : ℤ) → Computes (Lui rd imm)
  an_imm : (op : ImmOp) (rd rs1 : ℕ) (imm : ℤ) → Computes (OpImm op rd rs1 imm)
  an_imm_w : (op : ImmWOp) (rd rs1 : ℕ) (imm : ℤ) → Computes (OpImmW op rd rs1 imm)
  an_op : (op : RegOp) (rd rs1 rs2 : ℕ) → Computes (Op op rd rs1 rs2)
  an_op_w : (op : RegWOp) (rd rs1 rs2 : ℕ) → Computes (OpW op rd rs1 rs2)
  a_fence : (word : ℕ) → Computes (Fence word)

-- the registers behind it
abbrev pub computed : Instr → Regs → Regs
computed (Lui rd imm) q = put rd (word_of_int imm) q
computed (OpImm op rd rs1 imm) q = put rd (imm_result op (get rs1 q) imm) q
computed (OpImmW op rd rs1 imm) q = put rd (imm_w_result op (get rs1 q) imm) q
computed (Op op rd rs1 rs2) q = put rd (reg_result op (get rs1 q) (get rs2 q)) q
computed (OpW op rd rs1 rs2) q = put rd (reg_w_result op (get rs1 q) (get rs2 q)) q
computed _ q = q

-- the instruction itself, and NEXT
pub data PlainRow (i : Instr) (q : Regs) : Place → Regs → Priv → Tabs → ℕ → Type 0 where
  w1 : (s : Priv) {t : Tabs} → PlainRow i q (InBlock 1) q s t 2
  w2 : (s : Priv) {t : Tabs} → PlainRow i q (InBlock 2) (computed i q) s t 1

-- each word of the block of such an instruction follows it
abbrev pub PlainLeads : Type 0
PlainLeads =
    (l : Layout) (p : ℕ) (i : Instr) (q : Regs) (program : Memory) → IsInstruction l p → Computes i
    → (n : ℕ) (place : Place) (rs : Regs) (s : Priv) (t : Tabs) (m : Memory) → TableOk l t → PlainRow i q place rs s t n
    → Follows l program p i q (block_at l p) (PlainRow i q) t m n
    (exec_some (block_at l p) (code l (block l p i) place) (record { place = place; regs = rs; priv = s; tabs = t }) m)

-- Each word of the block of an instruction that only computes, two of them, goes on to the next one,
-- or to the block of the next instruction with the registers that the instruction gives. No word
-- changes the tables or the memory.

-- at word 1 there are 2 words left at most
abbrev pub PlainStarts : Type 0
PlainStarts = (i : Instr) (q : Regs) (s : Priv) (t : Tabs) → PlainRow i q (InBlock 1) q s t 2

-- ---- auipc: four words

-- what two words build of a quarter of v: it, with its lower 32 bits extended by their sign
abbrev pub quarter_of : ℕ → ℕ
quarter_of v = wrap (high_part (v / 4) + word_of_int (lo (v / 4)))

-- a quarter of the result v is built, and shifted
pub data AuipcRow (rd v : ℕ) (q : Regs) : Place → Regs → Priv → Tabs → ℕ → Type 0 where
  u1 : (s : Priv) {t : Tabs} → AuipcRow rd v q (InBlock 1) q s t 4
  u2 : (s : Priv) {t : Tabs} → AuipcRow rd v q (InBlock 2) (put rd (high_part (v / 4)) q) s t 3
  u3 : (s : Priv) {t : Tabs} → AuipcRow rd v q (InBlock 3) (put rd (quarter_of v) q) s t 2
  u4 : (s : Priv) {t : Tabs} → AuipcRow rd v q (InBlock 4) (put rd v q) s t 1

-- each word of its block follows it
abbrev pub AuipcLeads : Type 0
AuipcLeads =
    (l : Layout) (p rd : ℕ) (imm : ℤ) (q : Regs) (program : Memory) → IsInstruction l p → IsEncodable (Auipc rd imm)
    → (n : ℕ) (place : Place) (rs : Regs) (s : Priv) (t : Tabs) (m : Memory) → TableOk l t → AuipcRow rd (plus_int p imm) q place rs s t n
    → Follows l program p (Auipc rd imm) q (block_at l p) (AuipcRow rd (plus_int p imm) q) t m n
    (exec_some (block_at l p) (code l (block l p (Auipc rd imm)) place) (record { place = place; regs = rs; priv = s; tabs = t }) m)

-- The same of auipc, whose block has four words.

-- at word 1 there are 4 words left at most
abbrev pub AuipcStarts : Type 0
AuipcStarts = (rd v : ℕ) (q : Regs) (s : Priv) (t : Tabs) → AuipcRow rd v q (InBlock 1) q s t 4

-- ---- parks: one word

-- an instruction at which every program traps: ebreak, and what is illegal outside emitted code
pub data Stops : Instr → Type 0 where
  at_ebreak : Stops Ebreak
  at_gate : Stops Hgate
  at_leave : Stops Hleave
  at_site : (rd : ℕ) → Stops (Hsite rd)
  at_key : (rd : ℕ) → Stops (Hkey rd)
  at_stop : Stops Hstop
  at_restart : Stops Hrestart
  at_call : (unhinted : Bool) → Stops (Hcall unhinted)
  at_halt : (cause : Park) → Stops (Hpark cause)
  at_illegal : Stops Illegal

-- HPARK
pub data ParkRow (q : Regs) : Place → Regs → Priv → Tabs → ℕ → Type 0 where
  h1 : (s : Priv) {t : Tabs} → ParkRow q (InBlock 1) q s t 1

-- the word of its block follows it: it parks
abbrev pub ParkLeads : Type 0
ParkLeads =
    (l : Layout) (p : ℕ) (i : Instr) (q : Regs) (program : Memory) → IsInstruction l p → Stops i
    → (n : ℕ) (place : Place) (rs : Regs) (s : Priv) (t : Tabs) (m : Memory) → TableOk l t → ParkRow q place rs s t n
    → Follows l program p i q (block_at l p) (ParkRow q) t m n
    (exec_some (block_at l p) (code l (block l p i) place) (record { place = place; regs = rs; priv = s; tabs = t }) m)

-- The block of an instruction at which every program traps parks at its first word, and so does the
-- guard block behind the text.

-- at word 1 there is 1 word left
abbrev pub ParkStarts : Type 0
ParkStarts = (q : Regs) (s : Priv) (t : Tabs) → ParkRow q (InBlock 1) q s t 1

-- ---- the guard block

-- it parks at FAULT, since the text has no instruction there
pub record GuardFaults (l : Layout) (cause : Park) : Type 0 where
  pub fault : cause ≡ park.Fault
  pub outside : in_text l l.text_end ≡ false

-- its word parks
abbrev pub GuardLeads : Type 0
GuardLeads =
    (l : Layout) (q : Regs) (program : Memory)
    → (n : ℕ) (place : Place) (rs : Regs) (s : Priv) (t : Tabs) (m : Memory) → TableOk l t → ParkRow q place rs s t n
    → Led l program (block_at l l.text_end) (λ place rs s t' m' k. ParkRow q place rs s t' k × IsUnchanged t m t' m') (λ target rs t' m'. ⊥)
    (λ cause t' m'. GuardFaults l cause × IsUnchanged t m t' m') n
    (exec_some (block_at l l.text_end) (code l guard_block place) (record { place = place; regs = rs; priv = s; tabs = t }) m)
