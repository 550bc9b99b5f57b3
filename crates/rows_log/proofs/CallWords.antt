-- Each word of a call's block, and of APPEND, leads to its next row, to the next block, or to a park.
use Rattle.std.proofs.Common.{◌≡◌, ℕ, ◌+◌, ◌-◌, ◌*◌, ◌%◌, ◌^◌, ◌<◌, ◌≤◌, true, false, ◌==◌, pos, negsuc, refl, ◌∙◌, ap, ap₂, sym, arith, bit_and, ◌&&◌, not}
use Rattle.std.proofs.lemmas.Bool.Decides.{nat_tests}
use Rattle.std.proofs.lemmas.Nat.{and_mask}
use Rattle.spec_base.specs.Word.{wrap, plus_int, byte_of}
use Rattle.spec_base.specs.Layout.{link_start}
use Rattle.spec_base.specs.declared.layout.Layout.{Layout}
use Rattle.rv_decode.specs.declared.instr.Instr.TheVariants.{Ecall}
use Rattle.rv_model.specs.Memory.{Memory, stored}
use Rattle.rv_model.specs.Arithmetic.{minus}
use Rattle.rv_model.specs.Effect.{even}
use Rattle.rv_model.proofs.Loads.{loaded-below_patch, loaded-above_patch, loaded-stored}
use Rattle.code_model.specs.Blocks.{block}
use Rattle.code_model.specs.Log.{log_head, log_tail, log_place, logged}
use Rattle.code_model.specs.Places.{block_at}
use Rattle.side_model.specs.Hart.{Regs, get, Priv}
use Rattle.code_model.specs.Tables.{Tabs, TableOk}
use Rattle.side_model.specs.Places.{Appending, LogFullUp, Place, InBlock, InHelper, code, IsInstruction}
use Rattle.side_model.specs.Words.{Out, exec_some}
use Rattle.side_model.specs.Rows.{Led, on, leaps, arrives, takes_link, puts_link, keys, calls, parks}
use Rattle.side_model.proofs.Numbers.{TextFits, text-fits}
use Rattle.side_model.proofs.JumpWords.{forks}
use Rattle.rows_log.specs.Queue.{HasRoom, leaves, puts_key, puts_count, raises_tail, Takes}
use Rattle.rows_log.specs.CallRows.{Stage, Before, Headed, Room, HasKey, HasPair, Appended, AtStage, Settled, keyless, keyed, pair_place, CallRow, b1, b2, b3, b4, b5, b6, a1, a2, a3, a4, a5, a6, a7, a8, a9, a10, a11, a12, a13, a14, a15, a16, a17, a18, a19, a20, a21, a22, a23, a24, full, before_key, keeps_key, finds_key, is_headed, HeadStep, finds_head, keeps_head, no_head, CallNext, word, call, LogIsFull, CallStarts, CallLeads, StagesStay, CalledArrives}
use Rattle.rows_log.proofs.QueueLaws.{tail-above, room-above, taking-keeps}

-- ---- numbers

-- the lowest six bits
and_63 : (n : ℕ) → bit_and n 63 ≡ n % 64
and_63 n = and_mask n 6

-- where the difference of tail and head isn't 64, one more fits
not-full : (tail head : ℕ) → head ≤ tail → tail ≤ head + 64 → tail < 2 ^ 64 → (plus_int (tail - head) (negsuc 63) == 0) ≡ false → tail < head + 64
not-full tail head a b c d = grind (arith, nat_tests)

-- where it is, none does
is-full : (tail head : ℕ) → head ≤ tail → tail ≤ head + 64 → tail < 2 ^ 64 → (plus_int (tail - head) (negsuc 63) == 0) ≡ true → tail ≡ head + 64
is-full tail head a b c d = grind (arith, nat_tests)

-- ---- stages

-- while pairs are taken a stage stays
room-stays : (m m' : Memory) → Takes m m' → HasRoom m → HasRoom m'
room-stays m m' t r = record { order = omega (arith, t.tail, t.most); room = omega (arith, t.tail, t.rises, r.room) }

pub stages-stay : StagesStay
stages-stay tail count Before m m' (q, e) t = (taking-keeps m m' q t, t.tail ∙ e)
stages-stay tail count (Headed head) m m' (q, e, h, k) t = (taking-keeps m m' q t, t.tail ∙ e, omega (arith, t.rises, h), k)
stages-stay tail count Room m m' (r, e) t = (room-stays m m' t r, t.tail ∙ e)
stages-stay tail count (HasKey key) m m' (r, e, k) t = (room-stays m m' t r, t.tail ∙ e, ap (λ (z : ℕ × ℕ). z.0) (t.pairs tail) ∙ k)
stages-stay tail count (HasPair key) m m' (r, e, k) t = (room-stays m m' t r, t.tail ∙ e, t.pairs tail ∙ k)
stages-stay tail count (Appended key) m m' (q, e, k) t = (taking-keeps m m' q t, t.tail ∙ e, t.pairs tail ∙ k)

-- a call that is done with the log has no head at hand
settled-unheaded : {key : ℕ} {stage : Stage} → Settled key stage → is_headed stage ≡ false
settled-unheaded (keyless e) = refl
settled-unheaded (keyed e) = refl

-- ---- words

module _ (l : Layout) (p : ℕ) (q : Regs) (tail key : ℕ) (program : Memory) (is : IsInstruction l p) (key_small : key < 2 ^ 64) (count_small : get 12 q < 2 ^ 64) where
  abbrev base : ℕ
  base = block_at l p

  abbrev row : Place → Regs → Priv → Stage → ℕ → Type 0
  row = CallRow l p q tail key

  abbrev count : ℕ
  count = get 12 q

  abbrev spot : ℕ
  spot = pair_place l p q tail key

  -- a word with n words left, from this place, this stage, these tables and this memory
  abbrev led : Place → Stage → Tabs → Memory → ℕ → Out → Type 0
  led from at t m n o = Led l program base (CallNext l p q tail key from at t m) (λ target rs t' m'. ⊥) (LogIsFull key from at t m) n o

  abbrev leads : ℕ → Place → Regs → Priv → Stage → Tabs → Memory → Type 0
  leads n place rs s at t m = led place at t m n (exec_some base (code l (block l p Ecall) place) (record { place = place; regs = rs; priv = s; tabs = t }) m)

  text : TextFits l
  text = text-fits l is.lawful

  -- APPEND returns to word 4 of the block
  returns : even (plus_int (base + 16) (pos 0)) ≡ base + 4 * 4
  returns = omega (arith, is.above, is.below, text.few)

  -- the next row, with this key and the memory as it is
  next : {from place : Place} {rs : Regs} {s : Priv} {t : Tabs} {m : Memory} {k : ℕ} {at stage : Stage} → (before_key from && not (before_key place)) ≡ false → HeadStep m at stage → row place rs s stage k → AtStage tail count stage m
      → CallNext l p q tail key from at t m place rs s t m k
  next same head r a = word key _ r a (keeps_key same) head (leaves refl)

  -- ---- the pair

  puts-key : (m : Memory) → AtStage tail count Room m → AtStage tail count (HasKey key) (stored m (log_place tail) 8 key)
  puts-key m (r, e) = (room-above m (log_place tail) key (omega arith) r, tail-above m (log_place tail) key (omega arith) ∙ e, loaded-stored m (log_place tail) key key_small)

  puts-count : (m : Memory) → AtStage tail count (HasKey key) m → AtStage tail count (HasPair key) (stored m (log_place tail + 8) 8 count)
  puts-count m (r, e, k) = (
    room-above m (log_place tail + 8) count (omega arith) r,
    tail-above m (log_place tail + 8) count (omega arith) ∙ e,
    ap₂ (λ (x y : ℕ). (x, y)) (loaded-below_patch m (log_place tail + 8) 8 (byte_of count) (log_place tail) 8 (omega arith) ∙ k) (loaded-stored m (log_place tail + 8) count count_small),
  )

  raises-tail : (m : Memory) → log_tail m < 2 ^ 64 - 1 → AtStage tail count (HasPair key) m → AtStage tail count (Appended key) (stored m (link_start + 8) 8 (tail + 1))
  raises-tail m small (r, e, k) =
      let v : ℕ = tail + 1 in
      let new : Memory = stored m (link_start + 8) 8 v in
      let head : log_head new ≡ log_head m = loaded-below_patch m (link_start + 8) 8 (byte_of v) link_start 8 (omega arith) in
      let end : log_tail new ≡ v = loaded-stored m (link_start + 8) v (omega (arith, e)) in (
        record { order = omega (arith, head, end, e, r.order); most = omega (arith, head, end, e, r.room) },
        end,
        ap₂ (λ (x y : ℕ). (x, y)) (loaded-above_patch m (link_start + 8) 8 (byte_of v) (log_place tail) 8 (omega arith)) (loaded-above_patch m (link_start + 8) 8 (byte_of v) (log_place tail + 8) 8 (omega arith)) ∙ k,
      )

  -- each word up to the HCALL
  call-words : {n : ℕ} {place : Place} {rs : Regs} {s : Priv} {stage : Stage} {t : Tabs} (m : Memory) → TableOk l t → log_tail m < 2 ^ 64 - 1 → row place rs s stage n → AtStage tail count stage m → leads n place rs s stage t m
  call-words m ok small (b1 s) a = on (next refl (no_head refl) (b2 s) a) ok refl refl
  call-words m ok small (b2 s) a = on (next refl (no_head refl) (b3 s) a) ok refl refl
  call-words m ok small (b3 s) a = leaps (InHelper Appending 0) refl (on (next refl (no_head refl) (a1 s) a) ok refl refl)
  call-words m ok small (a1 s) a = on (next refl (no_head refl) (a2 s) a) ok refl refl
  call-words m ok small (a2 s) a = on (next refl (no_head refl) (a3 s) a) ok refl refl
  call-words m ok small (a3 s) a = keys (λ found k. on (word found Before (a4 s) a (finds_key found k) (no_head refl) (leaves refl)) ok refl refl)
  call-words m ok small (a4 s) a =
      forks (key == 0)
      (λ e. leaps (InHelper Appending 22) refl (on (next refl (no_head refl) (a23 s (keyless e)) a) ok refl refl))
      (λ e. on (next refl (no_head refl) (a5 s e) a) ok refl refl)
  call-words m ok small (a5 s f) a = on (next refl (no_head refl) (a6 s f) a) ok refl refl
  call-words m ok small (a6 s f) a = on (next refl (no_head refl) (a7 s f) a) ok refl refl
  call-words m ok small (a7 s f) a = on (next refl (no_head refl) (a8 s f) a) ok refl refl
  call-words m ok small (a8 s f) (u, e) = takes_link refl (omega arith) (omega arith) (rw e (on (next refl (no_head refl) (a9 s f) (u, e)) ok refl refl))
  call-words m ok small (a9 s f) (u, e) = takes_link refl (omega arith) (omega arith) (on (next refl finds_head (a10 (log_head m) s f) (u, e, omega arith, omega (arith, u.most, e))) ok refl refl)
  call-words m ok small (a10 head s f) (u, e, h, k) =
      let d : minus tail head ≡ tail - head = omega (arith, u.order, e, h, small) in rw d (on (next refl (keeps_head head) (a11 head s f) (u, e, h, k)) ok refl refl)
  call-words m ok small (a11 head s f) a = on (next refl (keeps_head head) (a12 head s f) a) ok refl refl
  call-words m ok small (a12 head s f) (u, e, h, k) =
      forks (plus_int (tail - head) (negsuc 63) == 0)
      (λ g. leaps (InHelper LogFullUp 0) refl (on (next refl (keeps_head head) (full head _ f (is-full tail head (omega (arith, u.order, e, h)) k (omega (arith, e, small)) g)) (u, e, h, k)) ok refl refl))
      (λ g.
      let room : tail < head + 64 = not-full tail head (omega (arith, u.order, e, h)) k (omega (arith, e, small)) g in
      on (next refl (no_head refl) (a13 s f) (record { order = u.order; room = omega (arith, e, h, room) }, e)) ok refl refl)
  call-words m ok small (a13 s f) a = rw (and_63 tail) (on (next refl (no_head refl) (a14 s f) a) ok refl refl)
  call-words m ok small (a14 s f) a = let d : wrap (tail % 64 * 16) ≡ 16 * (tail % 64) = omega arith in rw d (on (next refl (no_head refl) (a15 s f) a) ok refl refl)
  call-words m ok small (a15 s f) a = let d : wrap (16 * (tail % 64) + link_start) ≡ link_start + 16 * (tail % 64) = omega arith in rw d (on (next refl (no_head refl) (a16 s f) a) ok refl refl)
  call-words m ok small (a16 s f) a = on (next refl (no_head refl) (a17 s f) a) ok refl refl
  call-words m ok small (a17 s f) (r, e) =
      let d : plus_int spot (pos 256) ≡ log_place tail = omega arith in
      rw d (puts_link {a = log_place tail} (omega arith) (omega arith) (omega arith)
      (on (word key _ (a18 s f) (puts-key m (r, e)) (keeps_key refl) (no_head refl) (puts_key key refl r (ap (λ (n : ℕ). stored m (log_place n) 8 key) (sym e)))) ok refl refl))
  call-words m ok small (a18 s f) (r, e, k) =
      let d : plus_int spot (pos 264) ≡ log_place tail + 8 = omega arith in
      rw d (puts_link {a = log_place tail + 8} (omega arith) (omega arith) (omega arith)
      (on (word key _ (a19 s f) (puts-count m (r, e, k)) (keeps_key refl) (no_head refl) (puts_count refl r (ap (λ (n : ℕ). stored m (log_place n + 8) 8 count) (sym e)))) ok refl refl))
  call-words m ok small (a19 s f) (r, e, k) = takes_link refl (omega arith) (omega arith) (rw e (on (next refl (no_head refl) (a20 s f) (r, e, k)) ok refl refl))
  call-words m ok small (a20 s f) (r, e, k) = let d : wrap (tail + 1) ≡ tail + 1 = omega (arith, e, small) in rw d (on (next refl (no_head refl) (a21 s f) (r, e, k)) ok refl refl)
  call-words m ok small (a21 s f) (r, e, k) =
      puts_link refl (omega arith) (omega arith)
      (on (word key _ (a22 s f) (raises-tail m small (r, e, k)) (keeps_key refl) (no_head refl)
      (raises_tail key refl r (ap (logged m) e ∙ k) (ap (λ (n : ℕ). stored m (link_start + 8) 8 (n + 1)) (sym e)))) ok refl refl)
  call-words m ok small (a22 s f) a = on (next refl (no_head refl) (a23 (record s { x29 = q.x29; val = key }) (keyed f)) a) ok refl refl
  call-words m ok small (a23 s z) a = on (next refl (no_head (settled-unheaded z)) (a24 s z) a) ok refl refl
  call-words m ok small (a24 s z) a = leaps (InBlock 4) returns (on (next refl (no_head (settled-unheaded z)) (b4 s z) a) ok refl refl)
  call-words m ok small (b4 s z) a = on (next refl (no_head (settled-unheaded z)) (b5 s z) a) ok refl refl
  call-words m ok small (b5 s z) a = on (next refl (no_head (settled-unheaded z)) (b6 s z) a) ok refl refl
  call-words m ok small (b6 s z) a = calls (λ answer t' m' k ok'. on (call answer refl k) ok' refl refl) ok
  call-words m ok small (full head s f h) (u, e, b, k) = parks (record { parks = refl; late = refl; keyed = f; head = head; loaded = refl; loaded_before = b; full = e ∙ h; tables = refl; memory = refl }) ok

pub call_leads : CallLeads
call_leads l p q tail key program is key_small count_small n place rs s stage t m ok small row a = call-words l p q tail key program is key_small count_small m ok small row a

pub call_starts : CallStarts
call_starts l p q key s m h = (b1 s, (h, refl))

pub called_arrives : CalledArrives
called_arrives l p q answer program is s t m ok =
    let text : TextFits l = text-fits l is.lawful in
    arrives (p + 4) (omega (arith, is.above, is.below, text.few))
    (record { above = omega (arith, is.above); below = omega (arith, is.below, is.whole, text.end); whole = omega (arith, is.above, is.whole, text.start) })
    (record { next = refl; registers = refl; tables = refl; memory = refl }) ok
