-- While the hint log is a queue, each word of the shadow leads on with the pair that a call appends, keeps the queue, and only appends to it.
use Rattle.std.proofs.Common.{◌≡◌, ℕ, ◌+◌, ◌-◌, ◌^◌, ◌<◌, ◌≤◌, ◌⊎◌, inl, inr, true, false, Some, refl, ◌∙◌, ap, sym, subst, arith, lit<}
use Rattle.spec_base.specs.Layout.{link_start, table_start}
use Rattle.spec_base.specs.declared.layout.Layout.{Layout}
use Rattle.rv_decode.specs.declared.instr.Instr.{Instr}
use Rattle.rv_decode.specs.declared.instr.Instr.TheVariants.{Ecall, Hcall}
use Rattle.rv_model.specs.Memory.{Memory, stored}
use Rattle.rv_model.specs.Space.{program_byte}
use Rattle.rv_model.proofs.Loads.{loaded-stored}
use Rattle.code_model.specs.Blocks.{block}
use Rattle.code_model.specs.Log.{log_tail, log_place, IsQueue, box_start}
use Rattle.code_model.specs.Places.{block_at}
use Rattle.run_model.specs.Run.{World, Run, Answer, rewritten_words}
use Rattle.run_model.specs.ShadowMoves.{shadow_step}
use Rattle.run_laws.specs.OwnLaws.{Accepted}
use Rattle.own_laws.proofs.Bounds.{Words}
use Rattle.own_laws.proofs.Reached.{false_true}
use Rattle.side_model.specs.Hart.{Regs, get, put, Priv}
use Rattle.code_model.specs.Tables.{Tabs}
use Rattle.side_model.specs.Places.{Place, InBlock, code, IsInstruction}
use Rattle.side_model.specs.Words.{Point, exec_some}
use Rattle.side_model.specs.Rows.{Led}
use Rattle.side_model.specs.Sees.{Shade, shade_of}
use Rattle.rows_log.specs.CallRows.{Stage, Before, AtStage, CallRow, KeyStep, keeps_key, finds_key, CallNext, word, call, CallArrives, LogIsFull}
use Rattle.rows_log.specs.LinkWords.{stores_out}
use Rattle.rows_log.specs.Queue.{LogStep, leaves, puts_key, puts_count, raises_tail, KeepsQueue, LeavesLink, Takes}
use Rattle.rows_log.proofs.CallWords.{call_leads, call_starts, called_arrives, stages-stay}
use Rattle.rows_log.proofs.QueueLaws.{steps-keep, steps-leave_box, leaving-keeps, loaded-left, loaded-apart}
use Rattle.shadow_laws.proofs.ShadowNumbers.{Sized, stock_of}
use Rattle.shadow_laws.proofs.Sound.{CallRows, Starts, At, Sound, calling, Lands}
use Rattle.shadow_laws.proofs.SoundSteps.{landed, settles, next, sound-steps, sound-stays}
use Rattle.shadow_laws.proofs.LinkSteps.{link-steps, stored-by}

-- ---- rows

-- a row of a call with its key and the log at its stage, or the word behind the HCALL
pub data LoggedRow (l : Layout) (p : ℕ) (q : Regs) (place : Place) (rs : Regs) (s : Priv) (m : Memory) (n : ℕ) : Type 0 where
  in_call : (tail key : ℕ) (stage : Stage) → CallRow l p q tail key place rs s stage n → AtStage tail (get 12 q) stage m → key < 2 ^ 64 → get 12 q < 2 ^ 64 → LoggedRow l p q place rs s m n
  behind : (answer : ℕ) → place ≡ InBlock 7 → rs ≡ put 10 answer q → n ≡ 1 → LoggedRow l p q place rs s m n

abbrev pub logged_calls : World → CallRows
logged_calls w p q place rs s t m n = LoggedRow w.image.layout p q place rs s m n

-- a call begins with the log as it is
pub logged-starts : (w : World) (h : Shade) → IsQueue h.shared → Words h.hart.registers → Starts (logged_calls w) h
logged-starts w h queue small p q s t e =
    let c = call_starts w.image.layout p q 0 s h.shared queue in
    in_call (log_tail h.shared) 0 Before c.0 c.1 (lit< tt) (subst (λ n. n < 2 ^ 64) (e.at 12) (small 12))

-- ---- what a word leads to

-- a key that was there, or is found, is a number of 64 bits
pub key-small : {key found : ℕ} {from place : Place} → key < 2 ^ 64 → KeyStep key from place found → found < 2 ^ 64
key-small h (keeps_key same) = h
key-small h (finds_key found small) = small

-- the next row
next-row : {l : Layout} {p : ℕ} {q : Regs} {tail key : ℕ} {from place : Place} {rs : Regs} {s : Priv} {t t' : Tabs} {m m' : Memory} {k : ℕ} {at : Stage} → key < 2 ^ 64 → get 12 q < 2 ^ 64
    → CallNext l p q tail key from at t m place rs s t' m' k → LoggedRow l p q place rs s m' k
next-row {tail = tail} small count (word found stage row a step head log) = in_call tail found stage row a (key-small small step) count
next-row small count (call answer from h) = behind answer refl refl refl

-- what it does to the log, unless it is the HCALL
log-step : {l : Layout} {p : ℕ} {q : Regs} {tail key : ℕ} {from place : Place} {rs : Regs} {s : Priv} {t t' : Tabs} {m m' : Memory} {k : ℕ} {at : Stage}
    → CallNext l p q tail key from at t m place rs s t' m' k → LogStep (get 12 q) from m m' ⊎ (from ≡ InBlock 6)
log-step (word found stage row a step head log) = inl log
log-step (call answer from h) = inr from

-- ---- what a word does to the log

-- the box is left, with all behind it up to the table
pub record LeavesBox (m m' : Memory) : Type 0 where
  pub at : (a : ℕ) → box_start ≤ a → a < table_start → m' a ≡ m a

-- it keeps the queue, only appends, and this at most one pair; and it leaves the box
pub record Appending (m m' : Memory) : Type 0 where
  pub keeps : KeepsQueue m m'
  pub one : log_tail m' ≤ log_tail m + 1
  pub box : LeavesBox m m'

module _ (m m' : Memory) (queue : IsQueue m) (small : log_tail m < 2 ^ 64 - 1) where
  -- all is left
  pub leaving-appends : LeavesLink m m' → Appending m m'
  leaving-appends f =
      let same : log_tail m' ≡ log_tail m = loaded-left m m' f (link_start + 8) 8 (omega arith) in
      record { keeps = leaving-keeps m m' queue (omega (arith, small)) f; one = omega (arith, same); box = record { at = λ a h u. f a u } }

  -- a store of a pair leaves the tail
  tail-left : (a v : ℕ) → link_start + 16 ≤ a → log_tail (stored m a 8 v) ≡ log_tail m
  tail-left a v h = loaded-apart m a v (link_start + 8) (inl (omega arith))

  most : {count : ℕ} {place : Place} → LogStep count place m m' → log_tail m' ≤ log_tail m + 1
  most (leaves e) = omega (arith, ap log_tail e)
  most (puts_key key from room e) = omega (arith, ap log_tail e, tail-left (log_place (log_tail m)) key (omega arith))
  most {count} (puts_count from room e) = omega (arith, ap log_tail e, tail-left (log_place (log_tail m) + 8) count (omega arith))
  most (raises_tail key from room pair e) = omega (arith, ap log_tail e, loaded-stored m (link_start + 8) (log_tail m + 1) (omega (arith, small)))

  -- a word of a call
  step-appends : (count : ℕ) (place : Place) → LogStep count place m m' → Appending m m'
  step-appends count place step = record { keeps = steps-keep count place m m' queue small step; one = most step; box = record { at = λ a h u. steps-leave_box count place m m' step a h } }

-- ---- each word

module _ (w : World) (a : Accepted w) (x : Answer) (r : Run) (z : Sized (stock_of r)) (queue : IsQueue r.shared) (small : log_tail r.shared < 2 ^ 64 - 1) where
  abbrev l : Layout
  l = w.image.layout

  abbrev after : Shade
  after = shade_of (shadow_step w x r)

  abbrev program : Memory
  program = program_byte l (rewritten_words w) r.own.memory

  module _ {n : ℕ} (p : ℕ) (q : Regs) (is : IsInstruction l p) (at : At w (block_at l p) (block l p Ecall) (logged_calls w p q) (shade_of r) n) where
    -- a word up to the HCALL
    call-led : (tail key : ℕ) (stage : Stage) → CallRow l p q tail key at.point.place at.point.regs at.point.priv stage n → AtStage tail (get 12 q) stage r.shared → key < 2 ^ 64 → get 12 q < 2 ^ 64
        → Led l program (block_at l p) (CallNext l p q tail key at.point.place stage at.point.tabs r.shared) (λ target rs t m. ⊥) (LogIsFull key at.point.place stage at.point.tabs r.shared) n
        (exec_some (block_at l p) (code l (block l p Ecall) at.point.place) at.point r.shared)
    call-led tail key stage row b key_small count =
        call_leads l p q tail key program is key_small count n at.point.place at.point.regs at.point.priv stage at.point.tabs r.shared at.ok small row b

    -- the word behind it
    behind-led : (answer : ℕ) → at.point.place ≡ InBlock 7 → at.point.regs ≡ put 10 answer q → n ≡ 1
        → Led l program (block_at l p) (λ place rs s t m k. ⊥) (CallArrives p q answer at.point.tabs r.shared) (λ cause t m. ⊥) n
        (exec_some (block_at l p) (code l (block l p Ecall) at.point.place) at.point r.shared)
    behind-led answer e f one =
        let s : Point = at.point in
        let leads : Place → Regs → ℕ → Type 0 =
        λ place rs k.
        Led l program (block_at l p) (λ place rs s t m k. ⊥) (CallArrives p q answer s.tabs r.shared) (λ cause t m. ⊥) k
        (exec_some (block_at l p) (code l (block l p Ecall) place) (record { place = place; regs = rs; priv = s.priv; tabs = s.tabs }) r.shared) in
        subst (λ k. leads s.place s.regs k) (sym one) (subst (λ place. leads place s.regs 1) (sym e) (subst (λ rs. leads (InBlock 7) rs 1) (sym f) (called_arrives l p q answer program is s.priv s.tabs r.shared at.ok)))

    -- what it does to the log
    call-appends : Appending r.shared after.shared
    call-appends = by_row at.row
      where
        by_next : (from : Place) (i : Instr) → from ≡ at.point.place → code l (block l p Ecall) at.point.place ≡ Some i → stores_out i ≡ true → LogStep (get 12 q) from r.shared after.shared ⊎ (from ≡ InBlock 6)
            → Appending r.shared after.shared
        by_next from i g e b (inl step) = step-appends r.shared after.shared queue small (get 12 q) from step
        by_next from i g e b (inr six) =
            let is : Some (Hcall false) ≡ Some i = ap (code l (block l p Ecall)) (sym six ∙ g) ∙ e in
            let same : Hcall false ≡ i = cc in false_true (subst (λ (j : Instr). stores_out j ≡ true) (sym same) b)

        by_row : LoggedRow l p q at.point.place at.point.regs at.point.priv r.shared n → Appending r.shared after.shared
        by_row (in_call tail key stage row b key_small count) =
            stored-by w a x r z (leaving-appends r.shared after.shared queue small) at (call-led tail key stage row b key_small count)
            (λ i e b s k row. by_next at.point.place i refl e b (log-step row)) (λ to s y. absurd y)
        by_row (behind answer e f one) =
            stored-by w a x r z (leaving-appends r.shared after.shared queue small) at (behind-led answer e f one) (λ i e b s k row. absurd row)
            (λ to s y. leaving-appends r.shared after.shared queue small (λ b g. ap (λ (m : Memory). m b) y.memory))

    -- where it leads
    call-lands : Starts (logged_calls w) after → Lands w (logged_calls w) n after
    call-lands start = by_row at.row
      where
        by_row : LoggedRow l p q at.point.place at.point.regs at.point.priv r.shared n → Lands w (logged_calls w) n after
        by_row (in_call tail key stage row b key_small count) =
            settles w a x r z (logged_calls w) start (λ s k row v ok. calling p q is (next w a x r z at s v ok (next-row key_small count row)))
            (landed w a x r z at (call-led tail key stage row b key_small count))
        by_row (behind answer e f one) = settles w a x r z (logged_calls w) start (λ s k row v ok. absurd row) (landed w a x r z at (behind-led answer e f one))

  -- each word of the shadow keeps the queue, and only appends
  pub logged-appends : {n : ℕ} → Sound w (logged_calls w) (shade_of r) n → Appending r.shared after.shared
  logged-appends h = link-steps w a x r z (leaving-appends r.shared after.shared queue small) (λ p q is at. call-appends p q is at) h

  -- and leads on
  pub logged-steps : {n : ℕ} → Words after.hart.registers → Sound w (logged_calls w) (shade_of r) n → Lands w (logged_calls w) n after
  logged-steps words h =
      let start : Starts (logged_calls w) after = logged-starts w after (logged-appends h).keeps.queue words in
      sound-steps w a x r z (logged_calls w) start (λ p q is at. call-lands p q is at start) h

-- ---- the own hart takes pairs

-- a row of a call stays where pairs are taken
row-stays : (l : Layout) (p : ℕ) (q : Regs) (place : Place) (rs : Regs) (s : Priv) (m m' : Memory) (n : ℕ) → Takes m m' → LoggedRow l p q place rs s m n → LoggedRow l p q place rs s m' n
row-stays l p q place rs s m m' n takes (in_call tail key stage row b key_small count) = in_call tail key stage row (stages-stay tail (get 12 q) stage m m' b takes) key_small count
row-stays l p q place rs s m m' n takes (behind answer e f one) = behind answer e f one

-- so does the place of the shadow
pub logged-stays : (w : World) → Accepted w → (h : Shade) (n v : ℕ) → Takes h.shared (stored h.shared link_start 8 v) → Sound w (logged_calls w) h n → Sound w (logged_calls w) (record h { shared = stored h.shared link_start 8 v }) n
logged-stays w a h n v takes s =
    sound-stays w a (logged_calls w) h n v (λ p q at. row-stays w.image.layout p q at.point.place at.point.regs at.point.priv h.shared (stored h.shared link_start 8 v) n takes at.row) s
