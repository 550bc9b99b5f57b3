-- The words of a call's block, and of APPEND, whatever the hint log has: each leads to its next row, to the next block, or to a park.
use Rattle.std.proofs.Common.{◌≡◌, ℕ, ◌+◌, ◌*◌, ◌%◌, ◌≤◌, inr, Bool, true, false, ◌==◌, pos, refl, arith, bit_and}
use Rattle.std.proofs.lemmas.Nat.{and_mask}
use Rattle.spec_base.specs.Word.{wrap, plus_int, byte_of}
use Rattle.spec_base.specs.Layout.{helpers_start, link_start, table_start}
use Rattle.spec_base.specs.declared.layout.Layout.{Layout}
use Rattle.spec_base.specs.declared.park.Park.TheVariants as park
use Rattle.rv_decode.specs.declared.instr.Instr.TheVariants.{Ecall}
use Rattle.rv_model.specs.Memory.{Memory, stored}
use Rattle.rv_model.specs.Effect.{even}
use Rattle.code_model.specs.Blocks.{block}
use Rattle.code_model.specs.Places.{block_at, APPEND}
use Rattle.own_laws.proofs.Reached.{false_true}
use Rattle.side_model.specs.Hart.{Regs, put, Priv}
use Rattle.code_model.specs.Tables.{Tabs, TableOk}
use Rattle.side_model.specs.Places.{Away, Appending, LogFullUp, Place, InBlock, InHelper, code, IsInstruction}
use Rattle.side_model.specs.Words.{Out, exec_some}
use Rattle.side_model.specs.Rows.{Led, on, leaps, arrives, takes_link, puts_link, keys, calls, parks}
use Rattle.side_model.specs.JumpRows.{high_part, with_31, with_30_31}
use Rattle.side_model.proofs.Numbers.{TextFits, text-fits}
use Rattle.side_model.proofs.JumpWords.{forks}
use Rattle.rows_access.proofs.Copies.{patch-outside}
use Rattle.rows_log.specs.CallRows.{with_29_31}

-- the lowest six bits
and_63 : (n : ℕ) → bit_and n 63 ≡ n % 64
and_63 n = and_mask n 6

-- the table, the list and the copies are left
abbrev pub LeavesTables : Memory → Memory → Type 0
LeavesTables m m' = (b : ℕ) → table_start ≤ b → m' b ≡ m b

-- a store to the link leaves them
link-stored : (m : Memory) (b v : ℕ) → b + 8 ≤ table_start → LeavesTables m (stored m b 8 v)
link-stored m b v h c g = patch-outside m b 8 (byte_of v) c (inr (omega arith))

-- whether a place is the HCALL's, in the block of a call
abbrev pub is_sixth : Place → Bool
is_sixth (InBlock n) = n == 6
is_sixth (InHelper h n) = false
is_sixth (Away b) = false

-- or the one behind it
abbrev pub is_seventh : Place → Bool
is_seventh (InBlock n) = n == 7
is_seventh (InHelper h n) = false
is_seventh (Away b) = false

module _ (l : Layout) (p : ℕ) (q : Regs) where
  -- where APPEND returns to: word 4
  abbrev pub back : ℕ
  back = block_at l p + 16

  -- private places behind word 1 of the block, and behind words 1, 2, 5 and 6 of APPEND
  abbrev pub spilled : Priv → Priv
  spilled s = record s { x31 = q.x31 }

  abbrev pub linked : Priv → Priv
  linked s = record s { x31 = q.x31; ret = back }

  abbrev pub saved : Priv → Priv
  saved s = record s { x31 = q.x31; x30 = q.x30; ret = back }

  abbrev pub saved_29 : Priv → Priv
  saved_29 s = record s { x31 = q.x31; x30 = q.x30; x29 = q.x29; ret = back }

  -- with any key, and any head and tail in the log
  pub data AnyCallRow : Place → Regs → Priv → Tabs → ℕ → Type 0 where
    b1 : (s : Priv) {t : Tabs} → AnyCallRow (InBlock 1) q s t 31
    b2 : (s : Priv) {t : Tabs} → AnyCallRow (InBlock 2) q (spilled s) t 30
    b3 : (s : Priv) {t : Tabs} → AnyCallRow (InBlock 3) (with_31 q (high_part (helpers_start + APPEND))) (spilled s) t 29
    a1 : (s : Priv) {t : Tabs} → AnyCallRow (InHelper Appending 0) (with_31 q back) (spilled s) t 28
    a2 : (s : Priv) {t : Tabs} → AnyCallRow (InHelper Appending 1) (with_31 q back) (linked s) t 27
    a3 : (s : Priv) {t : Tabs} → AnyCallRow (InHelper Appending 2) (with_31 q back) (saved s) t 26
    a4 : (key : ℕ) (s : Priv) {t : Tabs} → AnyCallRow (InHelper Appending 3) (with_31 q key) (saved s) t 25
    a5 : (v : ℕ) (s : Priv) {t : Tabs} → AnyCallRow (InHelper Appending 4) (with_31 q v) (saved s) t 24
    a6 : (v : ℕ) (s : Priv) {t : Tabs} → AnyCallRow (InHelper Appending 5) (with_31 q v) (saved s) t 23
    a7 : (v : ℕ) (s : Priv) {t : Tabs} → AnyCallRow (InHelper Appending 6) (with_31 q v) (saved_29 s) t 22
    a8 : (v : ℕ) (s : Priv) {t : Tabs} → AnyCallRow (InHelper Appending 7) (with_30_31 q link_start v) (saved_29 s) t 21
    a9 : (v : ℕ) (s : Priv) {t : Tabs} → AnyCallRow (InHelper Appending 8) (with_30_31 q link_start v) (saved_29 s) t 20
    a10 : (w v : ℕ) (s : Priv) {t : Tabs} → AnyCallRow (InHelper Appending 9) (with_29_31 q w link_start v) (saved_29 s) t 19
    a11 : (w v : ℕ) (s : Priv) {t : Tabs} → AnyCallRow (InHelper Appending 10) (with_29_31 q w link_start v) (saved_29 s) t 18
    a12 : (w v : ℕ) (s : Priv) {t : Tabs} → AnyCallRow (InHelper Appending 11) (with_29_31 q w link_start v) (saved_29 s) t 17
    a13 : (w v : ℕ) (s : Priv) {t : Tabs} → AnyCallRow (InHelper Appending 12) (with_29_31 q w link_start v) (saved_29 s) t 16
    a14 : (k v : ℕ) (s : Priv) {t : Tabs} → AnyCallRow (InHelper Appending 13) (with_29_31 q (k % 64) link_start v) (saved_29 s) t 15
    a15 : (k v : ℕ) (s : Priv) {t : Tabs} → AnyCallRow (InHelper Appending 14) (with_29_31 q (16 * (k % 64)) link_start v) (saved_29 s) t 14
    a16 : (k v : ℕ) (s : Priv) {t : Tabs} → AnyCallRow (InHelper Appending 15) (with_29_31 q (link_start + 16 * (k % 64)) link_start v) (saved_29 s) t 13
    a17 : (k v : ℕ) (s : Priv) {t : Tabs} → AnyCallRow (InHelper Appending 16) (with_29_31 q (link_start + 16 * (k % 64)) link_start v) (saved_29 s) t 12
    a18 : (k v : ℕ) (s : Priv) {t : Tabs} → AnyCallRow (InHelper Appending 17) (with_29_31 q (link_start + 16 * (k % 64)) link_start v) (saved_29 s) t 11
    a19 : (w v : ℕ) (s : Priv) {t : Tabs} → AnyCallRow (InHelper Appending 18) (with_29_31 q w link_start v) (saved_29 s) t 10
    a20 : (w v : ℕ) (s : Priv) {t : Tabs} → AnyCallRow (InHelper Appending 19) (with_29_31 q w link_start v) (saved_29 s) t 9
    a21 : (w v : ℕ) (s : Priv) {t : Tabs} → AnyCallRow (InHelper Appending 20) (with_29_31 q w link_start v) (saved_29 s) t 8
    a22 : (w u v : ℕ) (s : Priv) {t : Tabs} → AnyCallRow (InHelper Appending 21) (with_29_31 q w u v) (saved_29 s) t 7
    a23 : (u v : ℕ) (s : Priv) {t : Tabs} → AnyCallRow (InHelper Appending 22) (with_30_31 q u v) (saved s) t 6
    a24 : (v : ℕ) (s : Priv) {t : Tabs} → AnyCallRow (InHelper Appending 23) (with_30_31 q back v) (saved s) t 5
    b4 : (u v : ℕ) (s : Priv) {t : Tabs} → AnyCallRow (InBlock 4) (with_30_31 q u v) (saved s) t 4
    b5 : (v : ℕ) (s : Priv) {t : Tabs} → AnyCallRow (InBlock 5) (with_31 q v) (saved s) t 3
    b6 : (s : Priv) {t : Tabs} → AnyCallRow (InBlock 6) q (saved s) t 2
    -- behind the HCALL
    b7 : (answer : ℕ) (s : Priv) {t : Tabs} → AnyCallRow (InBlock 7) (put 10 answer q) s t 1
    -- no pair fits
    full : (rs : Regs) (s : Priv) {t : Tabs} → AnyCallRow (InHelper LogFullUp 0) rs s t 1

  -- from a word at this place: to the next row, with the table, the list and the copies as they are; or, by the HCALL, to the word behind it, with an answer in x10 and whatever the call leaves
  pub data AnyCallNext (from : Place) (t : Tabs) (m : Memory) : Place → Regs → Priv → Tabs → Memory → ℕ → Type 0 where
    word : {place : Place} {rs : Regs} {s : Priv} {m' : Memory} {k : ℕ} → AnyCallRow place rs s t k → is_sixth from ≡ false → is_seventh place ≡ false → LeavesTables m m' → AnyCallNext from t m place rs s t m' k
    call : {s : Priv} {t' : Tabs} {m' : Memory} (answer : ℕ) → from ≡ InBlock 6 → AnyCallNext from t m (InBlock 7) (put 10 answer q) s t' m' 1

  -- both are rows
  pub next-row : {from place : Place} {rs : Regs} {s : Priv} {t t' : Tabs} {m m' : Memory} {k : ℕ} → AnyCallNext from t m place rs s t' m' k → AnyCallRow place rs s t' k
  next-row (word row before other leaves) = row
  next-row {s = s} (call answer from) = b7 answer s

  -- at the HCALL the registers are the program's
  pub at-call : {place : Place} {rs : Regs} {s : Priv} {t : Tabs} {k : ℕ} → AnyCallRow place rs s t k → is_sixth place ≡ true → rs ≡ q
  at-call (b6 s) e = refl
  at-call (b1 s) e = false_true e
  at-call (b2 s) e = false_true e
  at-call (b3 s) e = false_true e
  at-call (a1 s) e = false_true e
  at-call (a2 s) e = false_true e
  at-call (a3 s) e = false_true e
  at-call (a4 key s) e = false_true e
  at-call (a5 v s) e = false_true e
  at-call (a6 v s) e = false_true e
  at-call (a7 v s) e = false_true e
  at-call (a8 v s) e = false_true e
  at-call (a9 v s) e = false_true e
  at-call (a10 w v s) e = false_true e
  at-call (a11 w v s) e = false_true e
  at-call (a12 w v s) e = false_true e
  at-call (a13 w v s) e = false_true e
  at-call (a14 k v s) e = false_true e
  at-call (a15 k v s) e = false_true e
  at-call (a16 k v s) e = false_true e
  at-call (a17 k v s) e = false_true e
  at-call (a18 k v s) e = false_true e
  at-call (a19 w v s) e = false_true e
  at-call (a20 w v s) e = false_true e
  at-call (a21 w v s) e = false_true e
  at-call (a22 w u v s) e = false_true e
  at-call (a23 u v s) e = false_true e
  at-call (a24 v s) e = false_true e
  at-call (b4 u v s) e = false_true e
  at-call (b5 v s) e = false_true e
  at-call (b7 answer s) e = false_true e
  at-call (full rs s) e = false_true e

  module _ (program : Memory) (is : IsInstruction l p) where
    abbrev led : Place → Tabs → Memory → ℕ → Out → Type 0
    led from t m n o = Led l program (block_at l p) (AnyCallNext from t m) (λ target rs t' m'. is_seventh from ≡ true) (λ cause t' m'. cause ≡ park.LogFull) n o

    abbrev leads : ℕ → Place → Regs → Priv → Tabs → Memory → Type 0
    leads n place rs s t m = led place t m n (exec_some (block_at l p) (code l (block l p Ecall) place) (record { place = place; regs = rs; priv = s; tabs = t }) m)

    text : TextFits l
    text = text-fits l is.lawful

    -- APPEND returns to word 4 of the block
    returns : even (plus_int (block_at l p + 16) (pos 0)) ≡ block_at l p + 4 * 4
    returns = omega (arith, is.above, is.below, text.few)

    same : (m : Memory) → LeavesTables m m
    same m b g = refl

    -- each word
    pub any_call-leads : {n : ℕ} {place : Place} {rs : Regs} {s : Priv} {t : Tabs} (m : Memory) → TableOk l t → AnyCallRow place rs s t n → leads n place rs s t m
    any_call-leads m ok (b1 s) = on (word (b2 s) refl refl (same m)) ok refl refl
    any_call-leads m ok (b2 s) = on (word (b3 s) refl refl (same m)) ok refl refl
    any_call-leads m ok (b3 s) = leaps (InHelper Appending 0) refl (on (word (a1 s) refl refl (same m)) ok refl refl)
    any_call-leads m ok (a1 s) = on (word (a2 s) refl refl (same m)) ok refl refl
    any_call-leads m ok (a2 s) = on (word (a3 s) refl refl (same m)) ok refl refl
    any_call-leads m ok (a3 s) = keys (λ found k. on (word (a4 found s) refl refl (same m)) ok refl refl)
    any_call-leads m ok (a4 key s) =
        forks (key == 0)
        (λ e. leaps (InHelper Appending 22) refl (on (word (a23 q.x30 key s) refl refl (same m)) ok refl refl))
        (λ e. on (word (a5 key s) refl refl (same m)) ok refl refl)
    any_call-leads m ok (a5 v s) = on (word (a6 v (record s { val = v })) refl refl (same m)) ok refl refl
    any_call-leads m ok (a6 v s) = on (word (a7 v s) refl refl (same m)) ok refl refl
    any_call-leads m ok (a7 v s) = on (word (a8 v s) refl refl (same m)) ok refl refl
    any_call-leads m ok (a8 v s) = takes_link refl (omega arith) (omega arith) (on (word (a9 _ s) refl refl (same m)) ok refl refl)
    any_call-leads m ok (a9 v s) = takes_link refl (omega arith) (omega arith) (on (word (a10 _ v s) refl refl (same m)) ok refl refl)
    any_call-leads m ok (a10 w v s) = on (word (a11 _ v s) refl refl (same m)) ok refl refl
    any_call-leads m ok (a11 w v s) = on (word (a12 _ v s) refl refl (same m)) ok refl refl
    any_call-leads m ok (a12 w v s) =
        forks (w == 0)
        (λ g. leaps (InHelper LogFullUp 0) refl (on (word (full _ _) refl refl (same m)) ok refl refl))
        (λ g. on (word (a13 w v s) refl refl (same m)) ok refl refl)
    any_call-leads m ok (a13 w v s) = rw (and_63 v) (on (word (a14 v v s) refl refl (same m)) ok refl refl)
    any_call-leads m ok (a14 k v s) = let d : wrap (k % 64 * 16) ≡ 16 * (k % 64) = omega arith in rw d (on (word (a15 k v s) refl refl (same m)) ok refl refl)
    any_call-leads m ok (a15 k v s) = let d : wrap (16 * (k % 64) + link_start) ≡ link_start + 16 * (k % 64) = omega arith in rw d (on (word (a16 k v s) refl refl (same m)) ok refl refl)
    any_call-leads m ok (a16 k v s) = on (word (a17 k s.val s) refl refl (same m)) ok refl refl
    any_call-leads m ok (a17 k v s) =
        let d : plus_int (link_start + 16 * (k % 64)) (pos 256) ≡ link_start + 256 + 16 * (k % 64) = omega arith in
        rw d (puts_link {a = link_start + 256 + 16 * (k % 64)} (omega arith) (omega arith) (omega arith) (on (word (a18 k v s) refl refl (link-stored m (link_start + 256 + 16 * (k % 64)) _ (omega arith))) ok refl refl))
    any_call-leads m ok (a18 k v s) =
        let d : plus_int (link_start + 16 * (k % 64)) (pos 264) ≡ link_start + 264 + 16 * (k % 64) = omega arith in
        rw d (puts_link {a = link_start + 264 + 16 * (k % 64)} (omega arith) (omega arith) (omega arith) (on (word (a19 _ v s) refl refl (link-stored m (link_start + 264 + 16 * (k % 64)) _ (omega arith))) ok refl refl))
    any_call-leads m ok (a19 w v s) = takes_link refl (omega arith) (omega arith) (on (word (a20 w _ s) refl refl (same m)) ok refl refl)
    any_call-leads m ok (a20 w v s) = on (word (a21 w _ s) refl refl (same m)) ok refl refl
    any_call-leads m ok (a21 w v s) = puts_link refl (omega arith) (omega arith) (on (word (a22 w _ v s) refl refl (link-stored m (link_start + 8) _ (omega arith))) ok refl refl)
    any_call-leads m ok (a22 w u v s) = on (word (a23 u v (record s { x29 = q.x29 })) refl refl (same m)) ok refl refl
    any_call-leads m ok (a23 u v s) = on (word (a24 v s) refl refl (same m)) ok refl refl
    any_call-leads m ok (a24 v s) = leaps (InBlock 4) returns (on (word (b4 _ v s) refl refl (same m)) ok refl refl)
    any_call-leads m ok (b4 u v s) = on (word (b5 v s) refl refl (same m)) ok refl refl
    any_call-leads m ok (b5 v s) = on (word (b6 s) refl refl (same m)) ok refl refl
    any_call-leads m ok (b6 s) = calls (λ answer t' m' k ok'. on (call answer refl) ok' refl refl) ok
    any_call-leads m ok (b7 answer s) =
        arrives (p + 4) (omega (arith, is.above, is.below, text.few))
        (record { above = omega (arith, is.above); below = omega (arith, is.below, is.whole, text.end); whole = omega (arith, is.above, is.whole, text.start) })
        refl ok
    any_call-leads m ok (full rs s) = parks refl ok
