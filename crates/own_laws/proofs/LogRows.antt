-- The stub and the hint log, by rows: what is known of the log at each word, and that each word leads on.
use Rattle.std.proofs.Common.{◌≡◌, ℕ, suc, ◌+◌, ◌-◌, ◌*◌, ◌%◌, ◌^◌, ◌≤◌, ◌<◌, ◌⊎◌, inl, inr, Bool, true, false, not, refl, ◌∙◌, ap, sym, subst, ◌==◌, arith, bit_and, lit<, eqb→eq, ap₂}
use Rattle.std.proofs.lemmas.Nat.{and_mask}
use Rattle.std.proofs.lemmas.Bool.{cases_lt}
use Rattle.std.proofs.lemmas.Bool.Decides.{nat_tests}
use Rattle.spec_base.specs.Word.{wrap}
use Rattle.spec_base.specs.declared.note.ShadowState.{ShadowState}
use Rattle.spec_base.specs.declared.note.ShadowState.TheVariants.{Stopped}
use Rattle.rv_model.specs.Memory.{Memory, stored, loaded}
use Rattle.program_model.specs.Calls.{key_of}
use Rattle.program_model.specs.PlainRun.{State, plan_of}
use Rattle.code_model.specs.Log.{log_head, log_tail, log_place, logged}
use Rattle.run_model.specs.Run.{World, Run, Answer}
use Rattle.run_laws.specs.StubLaws.{Appends, IsOldest, IsEmpty, Outcome, keyless, takes, empties}
use Rattle.own_laws.proofs.LogChanges.{Appends-same, takes-oldest, head-emptied, tail-emptied, empty-box_stored, BoxedTo, site_boxed, register_boxed}
use Rattle.rv_model.proofs.Loads.{loaded-stored}
use Rattle.own_laws.proofs.Side.{side_of, with_side, Tally}
use Rattle.own_laws.proofs.StubRows.{Saved31, SavedTwo, SavedAll, save31, save30, save29, save_key, in_log}
use Rattle.own_laws.proofs.StubWords.{three, three-own, three-low, stub_side, at, restarted_tally, branched, after_word, linked, stopped, boxed_in, InLog, word_1, word_2, word_3, word_4, word_5, word_6, word_7, word_8, word_9, word_10, word_11, word_12, word_13, word_14, word_15, word_16, word_17, word_18, word_19, word_20, word_21, word_22, word_23, word_24, word_25, word_28, word_29, word_30, word_31, word_32, word_33, word_34, word_35, word_36, word_37-66, word_67, word_68, word_69, word_70, word_71}

-- ---- what is known of the log

-- nothing yet; the call is keyed; the head was loaded; the log is being judged, has a pair, whose key is the call's, which is the call's; what becomes of the log is settled; the pair is another, the shadow is halted, the head is emptied, the tail too, the box has its site and registers up to j
pub data Phase : Type 0 where
  fresh : Phase
  keyed : Phase
  headed : (head : ℕ) → Phase
  judging : (log : Memory) → Phase
  found : (log : Memory) → Phase
  matching : (log : Memory) → Phase
  oldest : (log : Memory) → Phase
  settled : (asked : Bool) → Phase
  missed : (log : Memory) → Phase
  halted : (log : Memory) → Phase
  headless : (log : Memory) → Phase
  emptied : (log : Memory) → Phase
  boxing : (log : Memory) (j : ℕ) → Phase

-- the shadow was restarted for this call
abbrev pub is_asked : Phase → Bool
is_asked (settled asked) = asked
is_asked fresh = false
is_asked keyed = false
is_asked (headed head) = false
is_asked (judging log) = false
is_asked (found log) = false
is_asked (matching log) = false
is_asked (oldest log) = false
is_asked (missed log) = false
is_asked (halted log) = false
is_asked (headless log) = false
is_asked (emptied log) = false
is_asked (boxing log j) = false

-- a keyed call is judged by this log
pub record Judged (J : Memory → Type 0) (key : ℕ) (before log : Memory) : Type 0 where
  pub now : J log
  pub keyed : 0 < key
  pub grown : Appends before log

-- its oldest pair isn't the call's
pub record Missed (J : Memory → Type 0) (key count : ℕ) (before log : Memory) : Type 0 where
  pub judged : Judged J key before log
  pub other : IsOldest log key count → ⊥

-- what is known of the log in a phase, of the link and of the shadow's state
abbrev pub Fact : (Memory → Type 0) → Type 0 → State → ℕ → ℕ → Memory → Phase → Memory → ShadowState → Type 0
Fact J R q key count before fresh m s = Appends before m
Fact J R q key count before keyed m s = (0 < key) × Appends before m
Fact J R q key count before (headed head) m s = (0 < key) × Appends before m × (head ≡ log_head m)
Fact J R q key count before (judging log) m s = Judged J key before log × Appends log m
Fact J R q key count before (found log) m s = Judged J key before log × Appends log m × (log_head log < log_tail log)
Fact J R q key count before (matching log) m s = Judged J key before log × Appends log m × (log_head log < log_tail log) × ((logged log (log_head log)).0 ≡ key)
Fact J R q key count before (oldest log) m s = Judged J key before log × Appends log m × IsOldest log key count
Fact J R q key count before (settled asked) m s = Outcome J R q key count before asked m
Fact J R q key count before (missed log) m s = Missed J key count before log
Fact J R q key count before (halted log) m s = Missed J key count before log × (s ≡ Stopped)
Fact J R q key count before (headless log) m s = Missed J key count before log × (s ≡ Stopped) × (log_head m ≡ 0)
Fact J R q key count before (emptied log) m s = Missed J key count before log × (s ≡ Stopped) × IsEmpty m
Fact J R q key count before (boxing log j) m s = Missed J key count before log × (s ≡ Stopped) × IsEmpty m × BoxedTo m q.pc q.registers j

-- ---- rows

-- the key's place holds it
abbrev Value : Memory → ℕ → Type 0
Value page key = loaded page (2 ^ 64 - 64) 8 ≡ key

-- x31 is the place of the oldest pair, less 256
pub record Place (log : Memory) (c : ℕ) : Type 0 where
  pub in_log : InLog c
  pub is : c + 256 ≡ log_place (log_head log)

pub data LogRow (q : State) (key : ℕ) : Phase → ℕ → ℕ → ℕ → ℕ → Memory → Type 0 where
  r1 : {page : Memory} → LogRow q key fresh 1 (q.registers 29) (q.registers 30) (q.registers 31) page
  r2 : {page : Memory} → Saved31 page q.registers → LogRow q key fresh 2 (q.registers 29) (q.registers 30) (q.registers 31) page
  r3 : {page : Memory} → Saved31 page q.registers → LogRow q key fresh 3 (q.registers 29) (q.registers 30) key page
  r4 : {page : Memory} → Saved31 page q.registers → LogRow q key keyed 4 (q.registers 29) (q.registers 30) key page
  r5 : {page : Memory} → SavedTwo page q.registers → LogRow q key keyed 5 (q.registers 29) (q.registers 30) key page
  r6 : {a b : ℕ} {page : Memory} → SavedAll page q.registers → LogRow q key keyed 6 a b key page
  r7 : {a b c : ℕ} {page : Memory} → SavedAll page q.registers → Value page key → LogRow q key keyed 7 a b c page
  r8 : {a c : ℕ} {page : Memory} → SavedAll page q.registers → Value page key → LogRow q key keyed 8 a 0x4200_0000 c page
  r9 : {a c : ℕ} {page : Memory} → SavedAll page q.registers → Value page key → LogRow q key (headed a) 9 a 0x4200_0000 c page
  r10 : {log page : Memory} → SavedAll page q.registers → Value page key → LogRow q key (judging log) 10 (log_head log) 0x4200_0000 (log_tail log) page
  r11 : {c : ℕ} {log page : Memory} → SavedAll page q.registers → Value page key → LogRow q key (found log) 11 (log_head log) 0x4200_0000 c page
  r12 : {log page : Memory} → SavedAll page q.registers → Value page key → LogRow q key (found log) 12 (log_head log) 0x4200_0000 (bit_and (log_head log) 63) page
  r13 : {log page : Memory} → SavedAll page q.registers → Value page key → LogRow q key (found log) 13 (log_head log) 0x4200_0000 (wrap (bit_and (log_head log) 63 * 2 ^ 4)) page
  r14 : {a b c : ℕ} {log page : Memory} → SavedAll page q.registers → Value page key → Place log c → LogRow q key (found log) 14 a b c page
  r15 : {b c : ℕ} {log page : Memory} → SavedAll page q.registers → Value page key → Place log c → LogRow q key (found log) 15 ((logged log (log_head log)).0) b c page
  r16 : {c : ℕ} {log page : Memory} → SavedAll page q.registers → Place log c → LogRow q key (found log) 16 ((logged log (log_head log)).0) key c page
  r17 : {a b c : ℕ} {log page : Memory} → SavedAll page q.registers → Place log c → LogRow q key (matching log) 17 a b c page
  r18 : {b c : ℕ} {log page : Memory} → SavedAll page q.registers → LogRow q key (matching log) 18 ((logged log (log_head log)).1) b c page
  r19 : {a b c : ℕ} {log page : Memory} → SavedAll page q.registers → LogRow q key (oldest log) 19 a b c page
  r20 : {a c : ℕ} {log page : Memory} → SavedAll page q.registers → LogRow q key (oldest log) 20 a 0x4200_0000 c page
  r21 : {c : ℕ} {log page : Memory} → SavedAll page q.registers → LogRow q key (oldest log) 21 (log_head log) 0x4200_0000 c page
  r22 : {c : ℕ} {log page : Memory} → SavedAll page q.registers → LogRow q key (oldest log) 22 (log_head log + 1) 0x4200_0000 c page
  r23 : {a b c : ℕ} {page : Memory} → SavedAll page q.registers → LogRow q key (settled false) 23 a b c page
  r24 : {b c : ℕ} {page : Memory} → SavedTwo page q.registers → LogRow q key (settled false) 24 (q.registers 29) b c page
  r25 : {asked : Bool} {c : ℕ} {page : Memory} → Saved31 page q.registers → LogRow q key (settled asked) 25 (q.registers 29) (q.registers 30) c page
  r28 : {a b c : ℕ} {log page : Memory} → SavedAll page q.registers → LogRow q key (missed log) 28 a b c page
  r29 : {a b c : ℕ} {log page : Memory} → SavedAll page q.registers → LogRow q key (halted log) 29 a b c page
  r30 : {a c : ℕ} {log page : Memory} → SavedAll page q.registers → LogRow q key (halted log) 30 a 0x4200_0000 c page
  r31 : {a c : ℕ} {log page : Memory} → SavedAll page q.registers → LogRow q key (headless log) 31 a 0x4200_0000 c page
  r32 : {a b c : ℕ} {log page : Memory} → SavedAll page q.registers → LogRow q key (emptied log) 32 a b c page
  r33 : {a b : ℕ} {log page : Memory} → SavedAll page q.registers → LogRow q key (emptied log) 33 a b 0x4200_1000 page
  r34 : {a : ℕ} {log page : Memory} → SavedAll page q.registers → LogRow q key (emptied log) 34 a q.pc 0x4200_1000 page
  r35 : {a b : ℕ} {log page : Memory} → SavedAll page q.registers → LogRow q key (boxing log 0) 35 a b 0x4200_1000 page
  r36 : {a : ℕ} {log page : Memory} → SavedAll page q.registers → LogRow q key (boxing log 0) 36 a (q.registers 30) 0x4200_1000 page
  r37-66 : (j : ℕ) {log page : Memory} → j < 30 → SavedTwo page q.registers → LogRow q key (boxing log j) (37 + j) (q.registers 29) (q.registers 30) 0x4200_1000 page
  r67 : {log page : Memory} → SavedTwo page q.registers → LogRow q key (boxing log 30) 67 (q.registers 29) (q.registers 30) 0x4200_1000 page
  r68 : {log page : Memory} → SavedTwo page q.registers → LogRow q key (boxing log 30) 68 (q.registers 29) (q.registers 31) 0x4200_1000 page
  r69 : {b : ℕ} {log page : Memory} → SavedTwo page q.registers → LogRow q key (boxing log 31) 69 (q.registers 29) b 0x4200_1000 page
  r70 : {c : ℕ} {log page : Memory} → Saved31 page q.registers → LogRow q key (boxing log 31) 70 (q.registers 29) (q.registers 30) c page
  r71 : {c : ℕ} {page : Memory} → Saved31 page q.registers → LogRow q key (settled true) 71 (q.registers 29) (q.registers 30) c page

-- a word leads to a row with the restarts as they are, to the row behind a restart, or to the call
pub data Onward (J : Memory → Type 0) (R : Type 0) (q : State) (key count : ℕ) (before : Memory) (t : Tally) (p : Phase) (next : Run) : Type 0 where
  to_row : (p' : Phase) (l a b c : ℕ) (page : Memory) → LogRow q key p' l a b c page → Fact J R q key count before p' next.shared next.shadow.state → is_asked p' ≡ is_asked p → (l == 27) ≡ false
      → side_of next ≡ stub_side q t l (three q.registers a b c) page → Onward J R q key count before t p next
  to_restarted : (c : ℕ) (page : Memory) → Saved31 page q.registers → Outcome J R q key count before true next.shared → is_asked p ≡ false
      → side_of next ≡ stub_side q (restarted_tally q t) 71 (three q.registers (q.registers 29) (q.registers 30) c) page → Onward J R q key count before t p next
  to_call : (asked : Bool) (page : Memory) → Outcome J R q key count before asked next.shared → asked ≡ is_asked p → side_of next ≡ stub_side q t 26 q.registers page → Onward J R q key count before t p next

-- ---- each word

-- words 11 to 13 find the place of the oldest pair
place_found : (log : Memory) → Place log (wrap (wrap (bit_and (log_head log) 63 * 2 ^ 4) + 0x4200_0000))
place_found log =
    let e : bit_and (log_head log) 63 ≡ log_head log % 2 ^ 6 = and_mask (log_head log) 6 in
    record { in_log = in_log (log_head log); is = omega (arith, e) }

module _ (J : Memory → Type 0) (R : Type 0) (w : World) (x : Answer) (q : State) (t : Tally) (fits : (n : ℕ) → q.registers n < 2 ^ 64) (place : q.pc < 2 ^ 64)
    (small_key : key_of (plan_of w.image.layout q) < 2 ^ 64) (before : Memory) (order : log_head before ≤ log_tail before) where
  abbrev key : ℕ
  key = key_of (plan_of w.image.layout q)

  abbrev count : ℕ
  count = q.registers 12

  abbrev Leads : Phase → Run → Type 0
  Leads p next = Onward J R q key count before t p next

  abbrev Known : Phase → Run → Type 0
  Known p r = Fact J R q key count before p r.shared r.shadow.state

  -- a word that leads to a row
  to : {next : Run} (p p' : Phase) (r' : Run) (l a b c : ℕ) (page : Memory)
      → next ≡ at q t r' l a b c page → LogRow q key p' l a b c page → Known p' r' → is_asked p' ≡ is_asked p → (l == 27) ≡ false → Leads p next
  to p p' r' l a b c page e row f same n = subst (λ next. Leads p next) (sym e) (to_row p' l a b c page row f same n refl)

  -- ---- the branches

  -- a branch that is taken at 0 finds no key
  no_key : {b : Bool} → (key == 0) ≡ b → b ≡ true → key ≡ 0
  no_key e f = eqb→eq key 0 (rw (e ∙ f) tt)

  -- and one that isn't finds one
  has_key : (key == 0) ≡ false → 0 < key
  has_key e = grind (arith, nat_tests)

  -- word 3 leads on: without key to word 25
  branch_3 : (b : Bool) → (key == 0) ≡ b → (r : Run) (page : Memory) → Saved31 page q.registers → Appends before r.shared
      → Leads fresh (at q t r (branched b 25 4) (q.registers 29) (q.registers 30) key page)
  branch_3 true e r page s f = to fresh (settled false) r 25 _ _ key page refl (r25 s) (keyless (no_key e refl) f) refl refl
  branch_3 false e r page s f = to fresh keyed r 4 _ _ key page refl (r4 s) (has_key e, f) refl refl

  -- a log that has no pair has no oldest pair
  no_pair : (log : Memory) → (log_head log == log_tail log) ≡ true → IsOldest log key count → ⊥
  no_pair log e o =
      let same : log_head log ≡ log_tail log = eqb→eq _ _ (rw e tt) in
      omega (arith, same, o.some)

  -- a log whose head isn't its tail has a pair
  some_pair : (log : Memory) → Judged J key before log → (log_head log == log_tail log) ≡ false → log_head log < log_tail log
  some_pair log j e =
      let below : log_head log ≤ log_tail log = omega (arith, order, j.grown.head, j.grown.tail) in
      grind (arith, nat_tests, below, e)

  -- word 10 leads on: a log without pair to word 28
  branch_10 : (log : Memory) (b : Bool) → (log_head log == log_tail log) ≡ b → (r : Run) (page : Memory) → SavedAll page q.registers → loaded page (2 ^ 64 - 64) 8 ≡ key
      → Judged J key before log → Appends log r.shared → Leads (judging log) (at q t r (branched b 28 11) (log_head log) 0x4200_0000 (log_tail log) page)
  branch_10 log true e r page s v j f = to (judging log) (missed log) r 28 _ _ _ page refl (r28 s) (record { judged = j; other = no_pair log e }) refl refl
  branch_10 log false e r page s v j f = to (judging log) (found log) r 11 _ _ _ page refl (r11 s v) (j, f, some_pair log j e) refl refl

  -- what a test for inequality shows to differ isn't equal
  unequal : {A : Type 0} (m n : ℕ) → not (m == n) ≡ true → m ≡ n → A
  unequal {A} m n e f = absurd (grind (arith, nat_tests, e, f))

  -- and what it doesn't is
  equal : (m n : ℕ) → not (m == n) ≡ false → m ≡ n
  equal m n e = grind (arith, nat_tests, e)

  -- word 16 leads on: another key to word 28
  branch_16 : (log : Memory) (b : Bool) → not ((logged log (log_head log)).0 == key) ≡ b → (r : Run) (c : ℕ) (page : Memory) → SavedAll page q.registers → Place log c
      → Judged J key before log → Appends log r.shared → log_head log < log_tail log → Leads (found log) (at q t r (branched b 28 17) ((logged log (log_head log)).0) key c page)
  branch_16 log true e r c page s l j f h =
      to (found log) (missed log) r 28 _ _ c page refl (r28 s) (record { judged = j; other = λ o. unequal (logged log (log_head log)).0 key e (ap (λ p. p.0) o.pair) }) refl refl
  branch_16 log false e r c page s l j f h = to (found log) (matching log) r 17 _ _ c page refl (r17 s l) (j, f, h, equal _ key e) refl refl

  -- word 18 leads on: another count to word 28
  branch_18 : (log : Memory) (b : Bool) → not ((logged log (log_head log)).1 == count) ≡ b → (r : Run) (b' c : ℕ) (page : Memory) → SavedAll page q.registers
      → Judged J key before log → Appends log r.shared → log_head log < log_tail log → (logged log (log_head log)).0 ≡ key
      → Leads (matching log) (at q t r (branched b 28 19) ((logged log (log_head log)).1) b' c page)
  branch_18 log true e r b' c page s j f h k =
      to (matching log) (missed log) r 28 _ b' c page refl (r28 s) (record { judged = j; other = λ o. unequal (logged log (log_head log)).1 count e (ap (λ p. p.1) o.pair) }) refl refl
  branch_18 log false e r b' c page s j f h k =
      to (matching log) (oldest log) r 19 _ b' c page refl (r19 s) (j, f, record { some = h; pair = ap₂ (λ (x y : ℕ). (x, y)) k (equal _ count e) }) refl refl

  -- ---- the stores to the box

  -- word 37 + j leads to the next register, and the last to word 67
  register_stored : (log : Memory) (r : Run) (j : ℕ) → j < 30 → Known (boxing log j) r → Known (boxing log (suc j)) (boxed_in w x q t r (q.registers 29) (q.registers 30) j)
  register_stored log r j h (m, s, e, b) =
      let is : three q.registers (q.registers 29) (q.registers 30) 0x4200_1000 (suc j) ≡ q.registers (suc j) = three-low q.registers 0x4200_1000 j h in (
        m,
        s,
        empty-box_stored r.shared (0x4200_1000 + 8 * suc j) _ (omega arith) e,
        subst (λ v. BoxedTo (stored r.shared (0x4200_1000 + 8 * suc j) 8 v) q.pc q.registers (suc j)) (sym is) (register_boxed r.shared q.pc q.registers j (fits (suc j)) b),
      )

  next_register : (log : Memory) (r : Run) (j : ℕ) (page : Memory) → j < 30 → SavedTwo page q.registers → Known (boxing log j) r → (j + 1 < 30) ⊎ (30 ≤ j + 1)
      → Leads (boxing log j) (after_word w x q t r (37 + j) (q.registers 29) (q.registers 30) 0x4200_1000 page)
  next_register log r j page h s f (inl l) =
      let r' : Run = boxed_in w x q t r (q.registers 29) (q.registers 30) j in
      let next : 38 + j ≡ 37 + suc j = omega arith in
      to (boxing log j) (boxing log (suc j)) r' (37 + suc j) _ _ _ page
      (word_37-66 w x q t r _ _ j page h ∙ ap (λ k. at q t r' k (q.registers 29) (q.registers 30) 0x4200_1000 page) next)
      (r37-66 (suc j) (omega arith) s) (register_stored log r j h f) refl (grind (arith, nat_tests))
  next_register log r j page h s f (inr l) =
      let r' : Run = boxed_in w x q t r (q.registers 29) (q.registers 30) j in
      let next : 38 + j ≡ 67 = omega arith in
      let last : suc j ≡ 30 = omega arith in
      to (boxing log j) (boxing log 30) r' 67 _ _ _ page
      (word_37-66 w x q t r _ _ j page h ∙ ap (λ k. at q t r' k (q.registers 29) (q.registers 30) 0x4200_1000 page) next)
      (r67 s) (subst (λ n. Known (boxing log n) r') last (register_stored log r j h f)) refl refl

  -- ---- each word

  -- the log that is judged is the one from which word 9 loads the tail
  judged_now : (r : Run) → J r.shared → 0 < key → Appends before r.shared → Judged J key before r.shared × Appends r.shared r.shared
  judged_now r j h f = (record { now = j; keyed = h; grown = f }, Appends-same r.shared f.below)

  -- what is loaded of the oldest pair is what the judged log has
  oldest_key : (log : Memory) (r : Run) (c : ℕ) → Place log c → Appends log r.shared → log_head log < log_tail log → loaded r.shared (c + 256) 8 ≡ (logged log (log_head log)).0
  oldest_key log r c l f h = ap (λ p. loaded r.shared p 8) l.is ∙ ap (λ (p : ℕ × ℕ). p.0) (f.pairs (log_head log) (omega arith) h)

  oldest_count : (log : Memory) (r : Run) (c : ℕ) → Place log c → Appends log r.shared → log_head log < log_tail log → loaded r.shared (c + 264) 8 ≡ (logged log (log_head log)).1
  oldest_count log r c l f h =
      let place : c + 264 ≡ log_place (log_head log) + 8 = omega (arith, l.is) in
      ap (λ p. loaded r.shared p 8) place ∙ ap (λ (p : ℕ × ℕ). p.1) (f.pairs (log_head log) (omega arith) h)

  -- a pair's number is below 2^64
  next_head : (log : Memory) → Judged J key before log → IsOldest log key count → wrap (log_head log + 1) ≡ log_head log + 1
  next_head log j o = omega (arith, j.grown.below, o.some)

  -- each word leads on
  pub log_word_goes : (r : Run) (p : Phase) (k a b c : ℕ) (page : Memory) → LogRow q key p k a b c page → Known p r → (k ≡ 9 → J r.shared) → (k ≡ 70 → R)
      → Leads p (after_word w x q t r k a b c page)
  log_word_goes r _ _ a b c page r1 f now restart = to fresh fresh r 2 _ _ _ _ (word_1 w x q t r _ _ _ page) (r2 (save31 page q.registers fits)) f refl refl
  log_word_goes r _ _ a b c page (r2 s) f now restart = to fresh fresh r 3 _ _ _ page (word_2 w x q t r _ _ _ page) (r3 s) f refl refl
  log_word_goes r _ _ a b c page (r3 s) f now restart = subst (λ n. Leads fresh n) (sym (word_3 w x q t r _ _ key page)) (branch_3 (key == 0) refl r page s f)
  log_word_goes r _ _ a b c page (r4 s) f now restart = to keyed keyed r 5 _ _ key _ (word_4 w x q t r _ _ key page) (r5 (save30 page q.registers fits s)) f refl refl
  log_word_goes r _ _ a b c page (r5 s) f now restart = to keyed keyed r 6 _ _ key _ (word_5 w x q t r _ _ key page) (r6 (save29 page q.registers fits s)) f refl refl
  log_word_goes r _ _ a b c page (r6 s) f now restart = to keyed keyed r 7 a b key _ (word_6 w x q t r a b key page) (r7 (save_key page q.registers fits key s) (loaded-stored page (2 ^ 64 - 64) key small_key)) f refl refl
  log_word_goes r _ _ a b c page (r7 s v) f now restart = to keyed keyed r 8 a _ c page (word_7 w x q t r a b c page) (r8 s v) f refl refl
  log_word_goes r _ _ a b c page (r8 s v) (h, f) now restart = to keyed (headed (log_head r.shared)) r 9 _ _ c page (word_8 w x q t r a 0 c page) (r9 s v) (h, f, refl) refl refl
  log_word_goes r _ _ a b c page (r9 s v) (h, f, e) now restart =
      to (headed a) (judging r.shared) r 10 _ _ _ page (word_9 w x q t r a 0 c page ∙ ap (λ n. at q t r 10 n 0x4200_0000 (log_tail r.shared) page) e) (r10 s v) (judged_now r (now refl) h f) refl refl
  log_word_goes r (judging log) _ a b c page (r10 s v) (j, f) now restart = subst (λ n. Leads (judging log) n) (sym (word_10 w x q t r _ _ _ page)) (branch_10 log (log_head log == log_tail log) refl r page s v j f)
  log_word_goes r (found log) _ a b c page (r11 s v) f now restart = to (found log) (found log) r 12 _ _ _ page (word_11 w x q t r _ _ c page) (r12 s v) f refl refl
  log_word_goes r (found log) _ a b c page (r12 s v) f now restart = to (found log) (found log) r 13 _ _ _ page (word_12 w x q t r _ _ _ page) (r13 s v) f refl refl
  log_word_goes r (found log) _ a b c page (r13 s v) f now restart = to (found log) (found log) r 14 _ _ _ page (word_13 w x q t r _ _ _ page) (r14 s v (place_found log)) f refl refl
  log_word_goes r (found log) _ a b c page (r14 s v l) (j, f, h) now restart =
      to (found log) (found log) r 15 _ b c page (word_14 w x q t r a b c page l.in_log ∙ ap (λ n. at q t r 15 n b c page) (oldest_key log r c l f h)) (r15 s v l) (j, f, h) refl refl
  log_word_goes r (found log) _ a b c page (r15 s v l) f now restart =
      to (found log) (found log) r 16 _ _ c page (word_15 w x q t r _ b c page ∙ ap (λ n. at q t r 16 ((logged log (log_head log)).0) n c page) v) (r16 s l) f refl refl
  log_word_goes r (found log) _ a b c page (r16 s l) (j, f, h) now restart =
      subst (λ n. Leads (found log) n) (sym (word_16 w x q t r _ key c page)) (branch_16 log (not ((logged log (log_head log)).0 == key)) refl r c page s l j f h)
  log_word_goes r (matching log) _ a b c page (r17 s l) (j, f, h, k) now restart =
      to (matching log) (matching log) r 18 _ b c page (word_17 w x q t r a b c page l.in_log ∙ ap (λ n. at q t r 18 n b c page) (oldest_count log r c l f h)) (r18 s) (j, f, h, k) refl refl
  log_word_goes r (matching log) _ a b c page (r18 s) (j, f, h, k) now restart =
      subst (λ n. Leads (matching log) n) (sym (word_18 w x q t r _ b c page)) (branch_18 log (not ((logged log (log_head log)).1 == count)) refl r b c page s j f h k)
  log_word_goes r (oldest log) _ a b c page (r19 s) f now restart = to (oldest log) (oldest log) r 20 a _ c page (word_19 w x q t r a b c page) (r20 s) f refl refl
  log_word_goes r (oldest log) _ a b c page (r20 s) (j, f, o) now restart =
      to (oldest log) (oldest log) r 21 _ _ c page (word_20 w x q t r a 0 c page ∙ ap (λ n. at q t r 21 n 0x4200_0000 c page) f.head) (r21 s) (j, f, o) refl refl
  log_word_goes r (oldest log) _ a b c page (r21 s) (j, f, o) now restart =
      to (oldest log) (oldest log) r 22 _ _ c page (word_21 w x q t r _ _ c page ∙ ap (λ n. at q t r 22 n 0x4200_0000 c page) (next_head log j o)) (r22 s) (j, f, o) refl refl
  log_word_goes r (oldest log) _ a b c page (r22 s) (j, f, o) now restart =
      to (oldest log) (settled false) (linked w x q t r 0x4200_0000 (log_head log + 1)) 23 _ _ c page (word_22 w x q t r _ 0 c page) (r23 s)
      (takes log j.now j.keyed j.grown o (takes-oldest log r.shared key count j.grown.below o f)) refl refl
  log_word_goes r _ _ a b c page (r23 s) f now restart =
      to (settled false) (settled false) r 24 _ b c page (word_23 w x q t r a b c page ∙ ap (λ n. at q t r 24 n b c page) s.x29) (r24 (record { x31 = s.x31; x30 = s.x30 })) f refl refl
  log_word_goes r _ _ a b c page (r24 s) f now restart =
      to (settled false) (settled false) r 25 _ _ c page (word_24 w x q t r _ b c page ∙ ap (λ n. at q t r 25 (q.registers 29) n c page) s.x30) (r25 s.x31) f refl refl
  log_word_goes r (settled asked) _ a b c page (r25 s) f now restart =
      subst (λ n. Leads (settled asked) n)
      (sym (word_25 w x q t r _ _ c page ∙ ap (λ n. at q t r 26 (q.registers 29) (q.registers 30) n page) s ∙ ap (λ rs. with_side r (stub_side q t 26 rs page)) (three-own q.registers)))
      (to_call asked page f refl refl)
  log_word_goes r (missed log) _ a b c page (r28 s) f now restart = to (missed log) (halted log) (stopped w x q t r) 29 a b c page (word_28 w x q t r a b c page) (r29 s) (f, refl) refl refl
  log_word_goes r (halted log) _ a b c page (r29 s) f now restart = to (halted log) (halted log) r 30 a _ c page (word_29 w x q t r a b c page) (r30 s) f refl refl
  log_word_goes r (halted log) _ a b c page (r30 s) (f, h) now restart =
      to (halted log) (headless log) (linked w x q t r 0x4200_0000 0) 31 a _ c page (word_30 w x q t r a 0 c page) (r31 s) (f, h, head-emptied r.shared) refl refl
  log_word_goes r (headless log) _ a b c page (r31 s) (f, h, e) now restart =
      to (headless log) (emptied log) (linked w x q t r 0x4200_0008 0) 32 a _ c page (word_31 w x q t r a 0 c page) (r32 s) (f, h, tail-emptied r.shared e) refl refl
  log_word_goes r (emptied log) _ a b c page (r32 s) f now restart = to (emptied log) (emptied log) r 33 a b _ page (word_32 w x q t r a b c page) (r33 s) f refl refl
  log_word_goes r (emptied log) _ a b c page (r33 s) f now restart = to (emptied log) (emptied log) r 34 a _ _ page (word_33 w x q t r a b _ page) (r34 s) f refl refl
  log_word_goes r (emptied log) _ a b c page (r34 s) (f, h, e) now restart =
      to (emptied log) (boxing log 0) (linked w x q t r 0x4200_1000 q.pc) 35 a _ _ page (word_34 w x q t r a q.pc 0 page) (r35 s)
      (f, h, empty-box_stored r.shared 0x4200_1000 q.pc (omega arith) e, site_boxed r.shared q.pc q.registers place) refl refl
  log_word_goes r (boxing log _) _ a b c page (r35 s) f now restart =
      to (boxing log 0) (boxing log 0) r 36 a _ _ page (word_35 w x q t r a b _ page ∙ ap (λ n. at q t r 36 a n 0x4200_1000 page) s.x30) (r36 s) f refl refl
  log_word_goes r (boxing log _) _ a b c page (r36 s) f now restart =
      to (boxing log 0) (boxing log 0) r (37 + 0) _ _ _ page (word_36 w x q t r a _ _ page ∙ ap (λ n. at q t r 37 n (q.registers 30) 0x4200_1000 page) s.x29)
      (r37-66 0 (lit< tt) (record { x31 = s.x31; x30 = s.x30 })) f refl refl
  log_word_goes r (boxing log _) _ a b c page (r37-66 j h s) f now restart = next_register log r j page h s f (cases_lt (j + 1) 30)
  log_word_goes r (boxing log _) _ a b c page (r67 s) f now restart =
      to (boxing log 30) (boxing log 30) r 68 _ _ _ page (word_67 w x q t r _ _ _ page ∙ ap (λ n. at q t r 68 (q.registers 29) n 0x4200_1000 page) s.x31) (r68 s) f refl refl
  log_word_goes r (boxing log _) _ a b c page (r68 s) (f, h, e, b') now restart =
      to (boxing log 30) (boxing log 31) (linked w x q t r 0x4200_10F8 (q.registers 31)) 69 _ _ _ page (word_68 w x q t r _ _ 0 page) (r69 s)
      (f, h, empty-box_stored r.shared 0x4200_10F8 (q.registers 31) (omega arith) e, register_boxed r.shared q.pc q.registers 30 (fits 31) b') refl refl
  log_word_goes r (boxing log _) _ a b c page (r69 s) f now restart =
      to (boxing log 31) (boxing log 31) r 70 _ _ _ page (word_69 w x q t r _ b _ page ∙ ap (λ n. at q t r 70 (q.registers 29) n 0x4200_1000 page) s.x30) (r70 s.x31) f refl refl
  log_word_goes r (boxing log _) _ a b c page (r70 s) (f, h, e, b') now restart =
      let small : log_tail r.shared < 2 ^ 64 = omega (arith, e.tail) in
      subst (λ n. Leads (boxing log 31) n) (sym (word_70 w x q t r _ _ c page))
      (to_restarted c page s
      (empties log r.shared f.judged.now (restart refl) f.judged.keyed f.judged.grown f.other e (record { site = b'.site; registers = b'.registers }) (Appends-same r.shared small)) refl refl)
  log_word_goes r _ _ a b c page (r71 s) f now restart = to (settled true) (settled true) r 25 _ _ c page (word_71 w x q t r _ _ c page) (r25 s) f refl refl
