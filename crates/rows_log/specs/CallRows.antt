-- The rows of a call's block, and of the helper APPEND, which appends a keyed read to the hint log (this project's own).
use Rattle.std.specs.Prelude.{ℕ, ◌+◌, ◌-◌, ◌*◌, ◌%◌, ◌^◌, ◌≡◌, ◌≤◌, ◌<◌, true, false, ◌==◌, negsuc, Bool, ◌&&◌, not, nat_lt}
use Rattle.spec_base.specs.Word.{plus_int}
use Rattle.spec_base.specs.Layout.{helpers_start, link_start}
use Rattle.spec_base.specs.declared.layout.Layout.{Layout}
use Rattle.spec_base.specs.declared.park.Park.{Park}
use Rattle.spec_base.specs.declared.park.Park.TheVariants as park
use Rattle.rv_decode.specs.declared.instr.Instr.TheVariants.{Ecall}
use Rattle.rv_model.specs.Memory.{Memory}
use Rattle.code_model.specs.Blocks.{block}
use Rattle.code_model.specs.Log.{log_head, log_tail, logged, IsQueue}
use Rattle.code_model.specs.Places.{block_at, APPEND}
use Rattle.side_model.specs.Hart.{Regs, get, put, Priv}
use Rattle.code_model.specs.Tables.{Tabs, TableOk}
use Rattle.side_model.specs.Places.{Appending, LogFullUp, Place, InBlock, InHelper, code, IsInstruction}
use Rattle.side_model.specs.Words.{exec_some}
use Rattle.side_model.specs.Rows.{Led}
use Rattle.side_model.specs.JumpRows.{high_part, with_31, with_30_31}
use Rattle.rows_log.specs.Queue.{HasRoom, LogStep, Takes}

-- registers with another x29, x30 and x31
abbrev pub with_29_31 : Regs → ℕ → ℕ → ℕ → Regs
with_29_31 q w u v = record q { x29 = w; x30 = u; x31 = v }

-- ---- the log, as its words are followed

-- how far a call is with the log. Before: nothing is changed; Headed: its head was loaded; Room: one more pair fits; HasKey and HasPair: the key, and the asked count, stand at the place of the next pair; Appended: the pair is appended
pub data Stage : Type 0 where
  Before : Stage
  Headed : (head : ℕ) → Stage
  Room : Stage
  HasKey : (key : ℕ) → Stage
  HasPair : (key : ℕ) → Stage
  Appended : (key : ℕ) → Stage

-- what is so of the log, whose tail was this at word 1, in a call with this asked count
abbrev pub AtStage : ℕ → ℕ → Stage → Memory → Type 0
AtStage tail count Before m = IsQueue m × (log_tail m ≡ tail)
AtStage tail count (Headed head) m = IsQueue m × (log_tail m ≡ tail) × (head ≤ log_head m) × (tail ≤ head + 64)
AtStage tail count Room m = HasRoom m × (log_tail m ≡ tail)
AtStage tail count (HasKey key) m = HasRoom m × (log_tail m ≡ tail) × ((logged m tail).0 ≡ key)
AtStage tail count (HasPair key) m = HasRoom m × (log_tail m ≡ tail) × (logged m tail ≡ (key, count))
AtStage tail count (Appended key) m = IsQueue m × (log_tail m ≡ tail + 1) × (logged m tail ≡ (key, count))

-- a call is done with the log: nothing is appended where it has no key, else its pair
pub data Settled (key : ℕ) : Stage → Type 0 where
  keyless : (key == 0) ≡ true → Settled key Before
  keyed : (key == 0) ≡ false → Settled key (Appended key)

-- ---- rows

-- the call at p, with the program's registers q. The log's tail is `tail` at word 1, and the call's key is `key` from HKEY on
module _ (l : Layout) (p : ℕ) (q : Regs) (tail key : ℕ) where
  -- where APPEND returns to: word 4
  abbrev pub back : ℕ
  back = block_at l p + 16

  -- the place of the next pair, less 256
  abbrev pub pair_place : ℕ
  pair_place = link_start + 16 * (tail % 64)

  -- private places behind word 1 of the block
  abbrev pub spilled : Priv → Priv
  spilled s = record s { x31 = q.x31 }

  -- behind word 1 of APPEND
  abbrev pub linked : Priv → Priv
  linked s = record s { x31 = q.x31; ret = back }

  -- behind word 2
  abbrev pub saved : Priv → Priv
  saved s = record s { x31 = q.x31; x30 = q.x30; ret = back }

  -- behind word 5
  abbrev pub valued : Priv → Priv
  valued s = record s { x31 = q.x31; x30 = q.x30; ret = back; val = key }

  -- behind word 6
  abbrev pub saved_29 : Priv → Priv
  saved_29 s = record s { x31 = q.x31; x30 = q.x30; x29 = q.x29; ret = back; val = key }

  pub data CallRow : Place → Regs → Priv → Stage → ℕ → Type 0 where
    -- the block
    b1 : (s : Priv) → CallRow (InBlock 1) q s Before 31
    b2 : (s : Priv) → CallRow (InBlock 2) q (spilled s) Before 30
    b3 : (s : Priv) → CallRow (InBlock 3) (with_31 q (high_part (helpers_start + APPEND))) (spilled s) Before 29
    -- APPEND: does the call have a key?
    a1 : (s : Priv) → CallRow (InHelper Appending 0) (with_31 q back) (spilled s) Before 28
    a2 : (s : Priv) → CallRow (InHelper Appending 1) (with_31 q back) (linked s) Before 27
    a3 : (s : Priv) → CallRow (InHelper Appending 2) (with_31 q back) (saved s) Before 26
    a4 : (s : Priv) → CallRow (InHelper Appending 3) (with_31 q key) (saved s) Before 25
    -- does a pair fit?
    a5 : (s : Priv) → (key == 0) ≡ false → CallRow (InHelper Appending 4) (with_31 q key) (saved s) Before 24
    a6 : {v : ℕ} (s : Priv) → (key == 0) ≡ false → CallRow (InHelper Appending 5) (with_31 q v) (valued s) Before 23
    a7 : {v : ℕ} (s : Priv) → (key == 0) ≡ false → CallRow (InHelper Appending 6) (with_31 q v) (saved_29 s) Before 22
    a8 : {v : ℕ} (s : Priv) → (key == 0) ≡ false → CallRow (InHelper Appending 7) (with_30_31 q link_start v) (saved_29 s) Before 21
    a9 : (s : Priv) → (key == 0) ≡ false → CallRow (InHelper Appending 8) (with_30_31 q link_start tail) (saved_29 s) Before 20
    a10 : (head : ℕ) (s : Priv) → (key == 0) ≡ false → CallRow (InHelper Appending 9) (with_29_31 q head link_start tail) (saved_29 s) (Headed head) 19
    a11 : (head : ℕ) (s : Priv) → (key == 0) ≡ false → CallRow (InHelper Appending 10) (with_29_31 q (tail - head) link_start tail) (saved_29 s) (Headed head) 18
    a12 : (head : ℕ) (s : Priv) → (key == 0) ≡ false → CallRow (InHelper Appending 11) (with_29_31 q (plus_int (tail - head) (negsuc 63)) link_start tail) (saved_29 s) (Headed head) 17
    -- the pair is written, and then the tail
    a13 : {w : ℕ} (s : Priv) → (key == 0) ≡ false → CallRow (InHelper Appending 12) (with_29_31 q w link_start tail) (saved_29 s) Room 16
    a14 : {v : ℕ} (s : Priv) → (key == 0) ≡ false → CallRow (InHelper Appending 13) (with_29_31 q (tail % 64) link_start v) (saved_29 s) Room 15
    a15 : {v : ℕ} (s : Priv) → (key == 0) ≡ false → CallRow (InHelper Appending 14) (with_29_31 q (16 * (tail % 64)) link_start v) (saved_29 s) Room 14
    a16 : {v : ℕ} (s : Priv) → (key == 0) ≡ false → CallRow (InHelper Appending 15) (with_29_31 q pair_place link_start v) (saved_29 s) Room 13
    a17 : (s : Priv) → (key == 0) ≡ false → CallRow (InHelper Appending 16) (with_29_31 q pair_place link_start key) (saved_29 s) Room 12
    a18 : {v : ℕ} (s : Priv) → (key == 0) ≡ false → CallRow (InHelper Appending 17) (with_29_31 q pair_place link_start v) (saved_29 s) (HasKey key) 11
    a19 : {w v : ℕ} (s : Priv) → (key == 0) ≡ false → CallRow (InHelper Appending 18) (with_29_31 q w link_start v) (saved_29 s) (HasPair key) 10
    a20 : {w : ℕ} (s : Priv) → (key == 0) ≡ false → CallRow (InHelper Appending 19) (with_29_31 q w link_start tail) (saved_29 s) (HasPair key) 9
    a21 : {w : ℕ} (s : Priv) → (key == 0) ≡ false → CallRow (InHelper Appending 20) (with_29_31 q w link_start (tail + 1)) (saved_29 s) (HasPair key) 8
    a22 : {w u v : ℕ} (s : Priv) → (key == 0) ≡ false → CallRow (InHelper Appending 21) (with_29_31 q w u v) (saved_29 s) (Appended key) 7
    -- back in the block all registers are the program's again, and the call is performed
    a23 : {u v : ℕ} {stage : Stage} (s : Priv) → Settled key stage → CallRow (InHelper Appending 22) (with_30_31 q u v) (saved s) stage 6
    a24 : {v : ℕ} {stage : Stage} (s : Priv) → Settled key stage → CallRow (InHelper Appending 23) (with_30_31 q back v) (saved s) stage 5
    b4 : {u v : ℕ} {stage : Stage} (s : Priv) → Settled key stage → CallRow (InBlock 4) (with_30_31 q u v) (saved s) stage 4
    b5 : {v : ℕ} {stage : Stage} (s : Priv) → Settled key stage → CallRow (InBlock 5) (with_31 q v) (saved s) stage 3
    b6 : {stage : Stage} (s : Priv) → Settled key stage → CallRow (InBlock 6) q (saved s) stage 2
    -- no pair fits
    full : {rs : Regs} (head : ℕ) (s : Priv) → (key == 0) ≡ false → tail ≡ head + 64 → CallRow (InHelper LogFullUp 0) rs s (Headed head) 1

-- ---- what a word leads to

-- up to HKEY, word 3 of APPEND, the call's key isn't known
abbrev pub before_key : Place → Bool
before_key (InBlock n) = nat_lt n 4
before_key (InHelper Appending n) = nat_lt n 3
before_key _ = false

-- from one place to the next: only HKEY finds a key, and it alone leads to where the key is known
pub data KeyStep (key : ℕ) : Place → Place → ℕ → Type 0 where
  keeps_key : {from place : Place} → (before_key from && not (before_key place)) ≡ false → KeyStep key from place key
  finds_key : (found : ℕ) → found < 2 ^ 64 → KeyStep key (InHelper Appending 2) (InHelper Appending 3) found

-- only word 9 of APPEND finds a head, which is the log's
abbrev pub is_headed : Stage → Bool
is_headed (Headed head) = true
is_headed _ = false

pub data HeadStep (m : Memory) : Stage → Stage → Type 0 where
  finds_head : HeadStep m Before (Headed (log_head m))
  keeps_head : (head : ℕ) → HeadStep m (Headed head) (Headed head)
  no_head : {from to : Stage} → is_headed to ≡ false → HeadStep m from to

-- from a word at this place, with this key, this stage, these tables and this memory: to the next row, with the tables as they are; or, by the HCALL, to the word behind it, with an answer in x10 and whatever the call leaves
pub data CallNext (l : Layout) (p : ℕ) (q : Regs) (tail key : ℕ) (from : Place) (at : Stage) (t : Tabs) (m : Memory) : Place → Regs → Priv → Tabs → Memory → ℕ → Type 0 where
  word : {place : Place} {rs : Regs} {s : Priv} {m' : Memory} {k : ℕ} (found : ℕ) (stage : Stage) → CallRow l p q tail found place rs s stage k → AtStage tail (get 12 q) stage m'
      → KeyStep key from place found → HeadStep m at stage → LogStep (get 12 q) from m m' → CallNext l p q tail key from at t m place rs s t m' k
  call : {s : Priv} {t' : Tabs} {m' : Memory} (answer : ℕ) → from ≡ InBlock 6 → answer < 2 ^ 64 → CallNext l p q tail key from at t m (InBlock 7) (put 10 answer q) s t' m' 1

-- it parks at LOGFULL only where the call has a key and the log had 64 pairs as its head was loaded
pub record LogIsFull (key : ℕ) (from : Place) (at : Stage) (t : Tabs) (m : Memory) (cause : Park) (t' : Tabs) (m' : Memory) : Type 0 where
  pub parks : cause ≡ park.LogFull
  pub late : before_key from ≡ false
  pub keyed : (key == 0) ≡ false
  pub head : ℕ
  pub loaded : at ≡ Headed head
  pub loaded_before : head ≤ log_head m'
  pub full : log_tail m' ≡ head + 64
  pub tables : t' ≡ t
  pub memory : m' ≡ m

-- behind the call only x10 has changed, and tables and memory stay
pub record CallArrives (p : ℕ) (q : Regs) (answer : ℕ) (t : Tabs) (m : Memory) (target : ℕ) (rs : Regs) (t' : Tabs) (m' : Memory) : Type 0 where
  pub next : target ≡ p + 4
  pub registers : rs ≡ put 10 answer q
  pub tables : t' ≡ t
  pub memory : m' ≡ m

-- ---- statements

-- Each word of a call's block, and of APPEND, goes on to the next one with fewer words left, 31 at
-- most from word 1 on, or parks, and this only where the hint log had 64 pairs as its head was
-- loaded. At the HCALL all registers are the program's. A call without key leaves the log; a keyed
-- one has appended its key and its asked count, and nothing else. Behind the HCALL the shadow arrives
-- at the next block with the answer in x10. The own hart may take pairs between two words.

-- at word 1 there are 31 words left at most
abbrev pub CallStarts : Type 0
CallStarts =
    (l : Layout) (p : ℕ) (q : Regs) (key : ℕ) (s : Priv) (m : Memory) → IsQueue m
    → CallRow l p q (log_tail m) key (InBlock 1) q s Before 31 × AtStage (log_tail m) (get 12 q) Before m

-- each word up to the HCALL leads to its next row, or to a park; none arrives
abbrev pub CallLeads : Type 0
CallLeads =
    (l : Layout) (p : ℕ) (q : Regs) (tail key : ℕ) (program : Memory) → IsInstruction l p → key < 2 ^ 64 → get 12 q < 2 ^ 64
    → (n : ℕ) (place : Place) (rs : Regs) (s : Priv) (stage : Stage) (t : Tabs) (m : Memory) → TableOk l t → log_tail m < 2 ^ 64 - 1
    → CallRow l p q tail key place rs s stage n → AtStage tail (get 12 q) stage m
    → Led l program (block_at l p) (CallNext l p q tail key place stage t m) (λ target rs t' m'. ⊥) (LogIsFull key place stage t m) n
    (exec_some (block_at l p) (code l (block l p Ecall) place) (record { place = place; regs = rs; priv = s; tabs = t }) m)

-- between two words pairs may be taken
abbrev pub StagesStay : Type 0
StagesStay = (tail count : ℕ) (stage : Stage) (m m' : Memory) → AtStage tail count stage m → Takes m m' → AtStage tail count stage m'

-- the word behind the HCALL arrives at the next block
abbrev pub CalledArrives : Type 0
CalledArrives =
    (l : Layout) (p : ℕ) (q : Regs) (answer : ℕ) (program : Memory) → IsInstruction l p → (s : Priv) (t : Tabs) (m : Memory) → TableOk l t
    → Led l program (block_at l p) (λ place rs s t' m' k. ⊥) (CallArrives p q answer t m) (λ cause t' m'. ⊥) 1
    (exec_some (block_at l p) (code l (block l p Ecall) (InBlock 7)) (record { place = InBlock 7; regs = put 10 answer q; priv = s; tabs = t }) m)
