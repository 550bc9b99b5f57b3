-- The rows of the helper JUMP, which leads to the block of the address in ADR, with the program's registers there (this project's own).
use Rattle.std.specs.Prelude.{ℕ, ◌-◌, ◌*◌, ◌^◌, ◌≡◌, ◌<◌, Bool, true, false, ◌==◌, bit_and, List, slice_get, Some, IsTrue}
use Rattle.spec_base.specs.Word.{word_of_int}
use Rattle.spec_base.specs.Layout.{is_lawful}
use Rattle.spec_base.specs.declared.layout.Layout.{Layout}
use Rattle.spec_base.specs.declared.park.Park.{Park}
use Rattle.spec_base.specs.declared.park.Park.TheVariants as park
use Rattle.rv_decode.specs.Fields.{sign_extended}
use Rattle.rv_decode.specs.declared.instr.Instr.{Instr}
use Rattle.rv_model.specs.Memory.{Memory}
use Rattle.rv_model.specs.Arithmetic.{minus}
use Rattle.rv_model.specs.Effect.{even}
use Rattle.code_model.specs.Assembly.{hi, ld, X31}
use Rattle.code_model.specs.Blocks.{is_target}
use Rattle.code_model.specs.Places.{block_at}
use Rattle.side_model.specs.Hart.{Regs, Priv}
use Rattle.code_model.specs.Tables.{Tabs, TableOk}
use Rattle.side_model.specs.Places.{Place, InBlock, InHelper, Jumping, Faulting, code}
use Rattle.side_model.specs.Words.{exec_some}
use Rattle.side_model.specs.Rows.{Led}

-- what lui makes of the high part of a number
abbrev pub high_part : ℕ → ℕ
high_part v = word_of_int (sign_extended 32 (4096 * hi v))

-- registers with another x31, or another x30 and x31
abbrev pub with_31 : Regs → ℕ → Regs
with_31 q v = record q { x31 = v }

abbrev pub with_30_31 : Regs → ℕ → ℕ → Regs
with_30_31 q u v = record q { x30 = u; x31 = v }

-- to the address `at`, with the program's registers q. The target's block begins at base
module _ (l : Layout) (at : ℕ) (q : Regs) where
  -- where the jump goes, and whether it may
  abbrev pub goal : ℕ
  goal = even at

  abbrev pub may : Bool
  may = is_target l goal

  -- private places: x31 and the address stand there from the beginning, and x30 behind word 1
  abbrev pub entered : Priv → Priv
  entered p = record p { x31 = q.x31; adr = at }

  abbrev pub spilled : Priv → Priv
  spilled p = record p { x31 = q.x31; x30 = q.x30; adr = at }

  pub data JumpRow : Place → Regs → Priv → Tabs → ℕ → Type 0 where
    j1 : {v : ℕ} (p : Priv) {t : Tabs} → JumpRow (InHelper Jumping 0) (with_31 q v) (entered p) t 17
    j2 : {u v : ℕ} (p : Priv) {t : Tabs} → JumpRow (InHelper Jumping 1) (with_30_31 q u v) (spilled p) t 16
    j3 : {u : ℕ} (p : Priv) {t : Tabs} → JumpRow (InHelper Jumping 2) (with_30_31 q u at) (spilled p) t 15
    j4 : {u : ℕ} (p : Priv) {t : Tabs} → JumpRow (InHelper Jumping 3) (with_30_31 q u goal) (spilled p) t 14
    j5 : (p : Priv) {t : Tabs} → JumpRow (InHelper Jumping 4) (with_30_31 q (bit_and goal 2) goal) (spilled p) t 13
    j6 : {u : ℕ} (p : Priv) {t : Tabs} → (bit_and goal 2 == 0) ≡ true → JumpRow (InHelper Jumping 5) (with_30_31 q u goal) (spilled p) t 12
    j7 : (p : Priv) {t : Tabs} → (bit_and goal 2 == 0) ≡ true → JumpRow (InHelper Jumping 6) (with_30_31 q (high_part l.text_start) goal) (spilled p) t 11
    j8 : (p : Priv) {t : Tabs} → (bit_and goal 2 == 0) ≡ true → JumpRow (InHelper Jumping 7) (with_30_31 q l.text_start goal) (spilled p) t 10
    j9 : {u : ℕ} (p : Priv) {t : Tabs} → (bit_and goal 2 == 0) ≡ true → JumpRow (InHelper Jumping 8) (with_30_31 q u (minus goal l.text_start)) (spilled p) t 9
    j10 : (p : Priv) {t : Tabs} → (bit_and goal 2 == 0) ≡ true → JumpRow (InHelper Jumping 9) (with_30_31 q (high_part (l.text_end - l.text_start)) (minus goal l.text_start)) (spilled p) t 8
    j11 : (p : Priv) {t : Tabs} → (bit_and goal 2 == 0) ≡ true → JumpRow (InHelper Jumping 10) (with_30_31 q (l.text_end - l.text_start) (minus goal l.text_start)) (spilled p) t 7
    j12 : {u : ℕ} (p : Priv) {t : Tabs} → may ≡ true → JumpRow (InHelper Jumping 11) (with_30_31 q u (goal - l.text_start)) (spilled p) t 6
    j13 : {u : ℕ} (p : Priv) {t : Tabs} → may ≡ true → JumpRow (InHelper Jumping 12) (with_30_31 q u (16 * (goal - l.text_start))) (spilled p) t 5
    j14 : (p : Priv) {t : Tabs} → may ≡ true → JumpRow (InHelper Jumping 13) (with_30_31 q 0x4000_0000 (16 * (goal - l.text_start))) (spilled p) t 4
    j15 : {u : ℕ} (p : Priv) {t : Tabs} → may ≡ true → JumpRow (InHelper Jumping 14) (with_30_31 q u (block_at l goal)) (spilled p) t 3
    j16 : (p : Priv) {t : Tabs} → may ≡ true → JumpRow (InHelper Jumping 15) (with_31 q (block_at l goal)) (spilled p) t 2
    -- word 0 of the target's block
    lands : {v : ℕ} (p : Priv) {t : Tabs} → may ≡ true → JumpRow (InBlock 0) (with_31 q v) (spilled p) t 1
    -- the target isn't in the text, or no multiple of 4
    faults : {rs : Regs} (p : Priv) {t : Tabs} → may ≡ false → JumpRow (InHelper Faulting 0) rs p t 1

  -- it arrives in the text alone, and there the registers are the program's
  pub record JumpArrives (p : ℕ) (rs : Regs) (t : Tabs) (m : Memory) : Type 0 where
    pub target : p ≡ goal
    pub inside : may ≡ true
    pub registers : rs ≡ q

  -- it parks where the program would trap
  pub record JumpFaults (cause : Park) (t : Tabs) (m : Memory) : Type 0 where
    pub fault : cause ≡ park.Fault
    pub trap : may ≡ false

  -- what is so of the layout, the address, and the target's block
  pub record JumpFits (base : ℕ) (words : List Instr) : Type 0 where
    pub lawful : IsTrue (is_lawful l)
    pub small : at < 2 ^ 64
    pub place : may ≡ true → base ≡ block_at l goal
    pub pad : may ≡ true → slice_get words 0 ≡ Some (ld 31 X31 0)

-- Each word of the helper JUMP goes on to the next one with fewer words left, to the block of the
-- address that it was given, with the registers that it was given, or parks, and this only where the
-- program would trap: where the address isn't in the text or is no multiple of 4.

-- each word of JUMP, by itself, leads to its next row, to the target's block, or to a park
abbrev pub JumpLeads : Type 0
JumpLeads =
    (l : Layout) (at : ℕ) (q : Regs) (base : ℕ) (words : List Instr) (program : Memory) → JumpFits l at q base words
    → (n : ℕ) (place : Place) (rs : Regs) (p : Priv) (t : Tabs) (m : Memory) → TableOk l t → JumpRow l at q place rs p t n
    → Led l program base (λ place rs p t m k. JumpRow l at q place rs p t k) (JumpArrives l at q) (JumpFaults l at q) n
    (exec_some base (code l words place) (record { place = place; regs = rs; priv = p; tabs = t }) m)
