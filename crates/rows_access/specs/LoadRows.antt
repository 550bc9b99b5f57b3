-- The rows of the block of a load, and of the helper LTAIL, which finds the place to load from (this project's own).
use Rattle.rv_model.specs.Effect.{Trapped, load_effect, steps_on}
use Rattle.rv_model.specs.Rights.{data_rights}
use Rattle.rv_model.specs.Registers.{Registers, with_reg}
use Rattle.spec_base.specs.declared.machine.Trap.{Trap}
use Rattle.std.specs.Prelude.{ℕ, ◌+◌, ◌*◌, ◌/◌, ◌%◌, ◌≡◌, ◌⊎◌, true, false, ◌==◌, ℤ, Option}
use Rattle.spec_base.specs.Word.{plus_int}
use Rattle.spec_base.specs.Layout.{helpers_start, table_start, copies_start}
use Rattle.spec_base.specs.declared.layout.Layout.{Layout}
use Rattle.rv_decode.specs.declared.instr.Instr.TheVariants.{Load}
use Rattle.rv_decode.specs.declared.instr.LoadOp.{LoadOp}
use Rattle.rv_model.specs.Memory.{Memory, loaded}
use Rattle.rv_model.specs.Arithmetic.{load_width, extended}
use Rattle.code_model.specs.Blocks.{block, load_helper}
use Rattle.code_model.specs.Places.{block_at}
use Rattle.code_model.specs.Regions.{entry_address}
use Rattle.side_model.specs.Hart.{Regs, get, put, Priv}
use Rattle.code_model.specs.Tables.{Tabs, TableOk}
use Rattle.side_model.specs.Places.{Width, Loading, LoadTail, Place, InBlock, InHelper, code, IsInstruction}
use Rattle.side_model.specs.Words.{exec_some}
use Rattle.side_model.specs.Rows.{Led}
use Rattle.side_model.specs.JumpRows.{high_part, with_31, with_30_31}
use Rattle.side_model.specs.Tables.{IsUnchanged}
use Rattle.rows_access.specs.Accesses.{load_size, may_access, place_of, seen, Allows, spilled, asked, saved, AccessFaults}
use Rattle.rows_access.specs.CheckRows.{CheckRow}

-- the load at p of the program, with the program's registers q; `given` is the number that it loads, where that is known
module _ (l : Layout) (p : ℕ) (op : LoadOp) (rd rs1 : ℕ) (imm : ℤ) (q : Regs) (given : Option ℕ) where
  -- the address that it loads from
  abbrev pub at : ℕ
  at = plus_int (get rs1 q) imm

  -- how many bytes it takes
  abbrev pub size : Width
  size = load_size op

  -- where its block goes on behind the helper
  abbrev pub back : ℕ
  back = block_at l p + 24

  -- the private places then
  abbrev pub kept : Priv → Priv
  kept s = saved at back q s

  pub data LoadRow : Place → Regs → Priv → Tabs → ℕ → Type 0 where
    -- the block
    b1 : (s : Priv) {t : Tabs} → LoadRow (InBlock 1) q s t 227
    b2 : (s : Priv) {t : Tabs} → LoadRow (InBlock 2) q (spilled at back q s) t 226
    b3 : (s : Priv) {t : Tabs} → LoadRow (InBlock 3) (with_31 q at) (spilled at back q s) t 225
    b4 : (s : Priv) {t : Tabs} → LoadRow (InBlock 4) (with_31 q at) (asked at back q s) t 224
    b5 : (s : Priv) {t : Tabs} → LoadRow (InBlock 5) (with_31 q (high_part (helpers_start + load_helper op))) (asked at back q s) t 223
    -- LTAIL: the entry of the region, and the place by it
    t1 : {u : ℕ} (s : Priv) {t : Tabs} → may_access l size at ≡ true → LoadRow (InHelper LoadTail 0) (with_30_31 q u at) (kept s) t 19
    t2 : (s : Priv) {t : Tabs} → may_access l size at ≡ true → LoadRow (InHelper LoadTail 1) (with_30_31 q (at / 256) at) (kept s) t 18
    t3 : (s : Priv) {t : Tabs} → may_access l size at ≡ true → LoadRow (InHelper LoadTail 2) (with_30_31 q (4 * (at / 256)) at) (kept s) t 17
    t4 : (s : Priv) {t : Tabs} → may_access l size at ≡ true → LoadRow (InHelper LoadTail 3) (with_30_31 q (4 * (at / 256)) table_start) (kept s) t 16
    t5 : {v : ℕ} (s : Priv) {t : Tabs} → may_access l size at ≡ true → LoadRow (InHelper LoadTail 4) (with_30_31 q (entry_address (at / 256)) v) (kept s) t 15
    t6 : {v : ℕ} (s : Priv) {t : Tabs} → may_access l size at ≡ true → LoadRow (InHelper LoadTail 5) (with_30_31 q (t.entry (at / 256)) v) (kept s) t 14
    t7 : (s : Priv) {t : Tabs} → may_access l size at ≡ true → LoadRow (InHelper LoadTail 6) (with_30_31 q (t.entry (at / 256)) at) (kept s) t 13
    t8 : (s : Priv) {t : Tabs} → may_access l size at ≡ true → (t.entry (at / 256) == 0) ≡ false → LoadRow (InHelper LoadTail 7) (with_30_31 q (t.entry (at / 256)) at) (kept s) t 12
    t9 : (s : Priv) {t : Tabs} → may_access l size at ≡ true → (t.entry (at / 256) == 0) ≡ false → LoadRow (InHelper LoadTail 8) (with_30_31 q (256 * t.entry (at / 256)) at) (kept s) t 11
    t10 : (s : Priv) {t : Tabs} → may_access l size at ≡ true → (t.entry (at / 256) == 0) ≡ false → LoadRow (InHelper LoadTail 9) (with_30_31 q (256 * t.entry (at / 256)) (at % 256)) (kept s) t 10
    t11 : {u : ℕ} (s : Priv) {t : Tabs} → may_access l size at ≡ true → (t.entry (at / 256) == 0) ≡ false → LoadRow (InHelper LoadTail 10) (with_30_31 q u (256 * t.entry (at / 256) + at % 256)) (kept s) t 9
    t12 : (s : Priv) {t : Tabs} → may_access l size at ≡ true → (t.entry (at / 256) == 0) ≡ false → LoadRow (InHelper LoadTail 11) (with_30_31 q copies_start (256 * t.entry (at / 256) + at % 256)) (kept s) t 8
    t13 : {u : ℕ} (s : Priv) {t : Tabs} → may_access l size at ≡ true → (t.entry (at / 256) == 0) ≡ false → LoadRow (InHelper LoadTail 12) (with_30_31 q u (copies_start + 256 * t.entry (at / 256) + at % 256)) (kept s) t 7
    t14 : {u : ℕ} (s : Priv) {t : Tabs} → may_access l size at ≡ true → LoadRow (InHelper LoadTail 13) (with_30_31 q u (place_of (t.entry (at / 256)) at)) (kept s) t 6
    t15 : (s : Priv) {t : Tabs} → may_access l size at ≡ true → LoadRow (InHelper LoadTail 14) (with_30_31 q back (place_of (t.entry (at / 256)) at)) (kept s) t 5
    -- the block: the number is loaded, and x31 is the program's again
    b6 : {u : ℕ} (s : Priv) {t : Tabs} → may_access l size at ≡ true → LoadRow (InBlock 6) (with_30_31 q u (place_of (t.entry (at / 256)) at)) (kept s) t 4
    b7 : (s : Priv) {t : Tabs} → may_access l size at ≡ true → LoadRow (InBlock 7) (with_31 q (place_of (t.entry (at / 256)) at)) (kept s) t 3
    b8 : (v : ℕ) (s : Priv) {t : Tabs} → may_access l size at ≡ true → Allows given v → LoadRow (InBlock 8) (put rd (extended op v) (with_31 q (place_of (t.entry (at / 256)) at))) (kept s) t 2
    b9 : (v : ℕ) (s : Priv) {t : Tabs} → may_access l size at ≡ true → Allows given v → LoadRow (InBlock 9) (put rd (extended op v) q) (kept s) t 1

  -- the rows of the block and of both helpers
  abbrev pub LoadsRow : Place → Regs → Priv → Tabs → ℕ → Type 0
  LoadsRow place rs s t n = CheckRow l (Loading size) size at back q place rs s t n ⊎ LoadRow place rs s t n

  -- at the next instruction rd is what was loaded, and all other registers are the program's
  pub record LoadArrives (target : ℕ) (rs : Regs) : Type 0 where
    pub next : target ≡ p + 4
    pub may : may_access l size at ≡ true
    pub number : ℕ
    pub known : Allows given number
    pub registers : rs ≡ put rd (extended op number) q

-- each word of a load leads to its next row, to the next block, or to a park, and changes no memory. Where the number is known, this is asked of the word that loads it
abbrev pub LoadLeads : Type 0
LoadLeads =
    (l : Layout) (p : ℕ) (op : LoadOp) (rd rs1 : ℕ) (imm : ℤ) (q : Regs) (given : Option ℕ) (program : Memory) → IsInstruction l p
    → (n : ℕ) (place : Place) (rs : Regs) (s : Priv) (t : Tabs) (m : Memory) → TableOk l t
    → (place ≡ InBlock 7 → Allows given (loaded (seen t m program) (plus_int (get rs1 q) imm) (load_width op)))
    → LoadsRow l p op rd rs1 imm q given place rs s t n
    → Led l program (block_at l p) (λ place rs s t' m' k. LoadsRow l p op rd rs1 imm q given place rs s t' k × IsUnchanged t m t' m')
    (λ target rs t' m'. LoadArrives l p op rd rs1 imm q given target rs × IsUnchanged t m t' m') (λ cause t' m'. AccessFaults l (load_size op) (plus_int (get rs1 q) imm) cause × IsUnchanged t m t' m') n
    (exec_some (block_at l p) (code l (block l p (Load op rd rs1 imm)) place) (record { place = place; regs = rs; priv = s; tabs = t }) m)

-- the program may access the address just where its load doesn't trap
abbrev pub LoadTraps : Type 0
LoadTraps =
    (l : Layout) (m : Memory) (op : LoadOp) (rs : Registers) (pc rd a : ℕ)
    → (may_access l (load_size op) a ≡ false → (t : Trap) × (load_effect (data_rights l) m op rs pc rd a ≡ Trapped t))
    × (may_access l (load_size op) a ≡ true → load_effect (data_rights l) m op rs pc rd a ≡ steps_on (with_reg rs rd (extended op (loaded m a (load_width op)))) pc)

-- Each word of a load's block, and of the helpers that it calls, goes on to the next one with fewer
-- words left, at most 227 from word 1 on, to the block of the next instruction, or parks, and this
-- only where the program's load would trap. At the next block rd is what the word of the load found
-- at the address's place, and each other register is as it was at word 1. That number is known where
-- the bytes are that the shadow has there at that word. No word changes the tables or the memory.

-- at word 1 of its block there are 227 words left at most
abbrev pub LoadStarts : Type 0
LoadStarts =
    (l : Layout) (p : ℕ) (op : LoadOp) (rd rs1 : ℕ) (imm : ℤ) (q : Regs) (given : Option ℕ) (s : Priv) (t : Tabs)
    → LoadsRow l p op rd rs1 imm q given (InBlock 1) q s t 227
