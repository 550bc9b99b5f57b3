-- The stub on the own side, by rows: what is known at each word, and that each word leads to the next row, or to the call.
use Rattle.std.proofs.Common.{◌≡◌, ℕ, ◌+◌, ◌-◌, ◌*◌, ◌%◌, ◌^◌, ◌≤◌, ◌<◌, ◌⊎◌, inl, inr, Bool, true, false, not, refl, ◌∙◌, ap, sym, subst, ◌==◌, arith, bit_and, nat_le, lit<, lit≤, suc, add-one}
use Rattle.std.proofs.lemmas.Nat.{and_mask}
use Rattle.std.proofs.lemmas.Bool.{cases_lt}
use Rattle.std.proofs.lemmas.Bool.Decides.{nat_tests}
use Rattle.spec_base.specs.Word.{wrap, byte_of}
use Rattle.spec_base.specs.declared.note.ShadowState.{ShadowState}
use Rattle.spec_base.specs.declared.note.ShadowState.TheVariants.{Running}
use Rattle.rv_model.specs.Memory.{Memory, stored, loaded}
use Rattle.rv_model.specs.Registers.{Registers}
use Rattle.program_model.specs.PlainRun.{State}
use Rattle.program_model.specs.Cache.{Cache}
use Rattle.run_model.specs.Run.{World, Run, Answer}
use Rattle.own_laws.proofs.Held.{boxing, level, Held, IsFree, IsHalted, IsHeadless, IsBoxing, same, head, stopped_first, HeldOn, frees, stays, level-register, store-leaves_box}
use Rattle.own_laws.proofs.LogChanges.{tail-head_stored, head-emptied, tail-emptied, empty-box_stored, BoxedTo, site_boxed, register_boxed}
use Rattle.rv_model.proofs.Loads.{loaded-stored, loaded-above_patch}
use Rattle.own_laws.proofs.Side.{side_of, with_side, Tally}
use Rattle.own_laws.proofs.StubWords.{three, three-own, three-low, stub_side, at, restarted_tally, branched, after_word, linked, stopped, boxed_in, InLog, word_1, word_2, word_3, word_4, word_5, word_6, word_7, word_8, word_9, word_10, word_11, word_12, word_13, word_14, word_15, word_16, word_17, word_18, word_19, word_20, word_21, word_22, word_23, word_24, word_25, word_28, word_29, word_30, word_31, word_32, word_33, word_34, word_35, word_36, word_37-66, word_67, word_68, word_69, word_70, word_71}

-- ---- what is known

-- the places of the stub's page that hold a register of the program
abbrev pub Saved31 : Memory → Registers → Type 0
Saved31 page q = loaded page (2 ^ 64 - 8) 8 ≡ q 31

abbrev pub Saved30 : Memory → Registers → Type 0
Saved30 page q = loaded page (2 ^ 64 - 16) 8 ≡ q 30

abbrev pub Saved29 : Memory → Registers → Type 0
Saved29 page q = loaded page (2 ^ 64 - 24) 8 ≡ q 29

-- x31, then x30 too, then x29 too
pub record SavedTwo (page : Memory) (q : Registers) : Type 0 where
  pub x31 : Saved31 page q
  pub x30 : Saved30 page q

pub record SavedAll (page : Memory) (q : Registers) : Type 0 where
  pub x31 : Saved31 page q
  pub x30 : Saved30 page q
  pub x29 : Saved29 page q

-- what is known before each word: where x29, x30 and x31 are the program's, what else they are, and which are saved
pub data Row (q : State) : ℕ → ℕ → ℕ → ℕ → Memory → Type 0 where
  w1 : {page : Memory} → Row q 1 (q.registers 29) (q.registers 30) (q.registers 31) page
  w2 : {page : Memory} → Saved31 page q.registers → Row q 2 (q.registers 29) (q.registers 30) (q.registers 31) page
  w3 : {c : ℕ} {page : Memory} → Saved31 page q.registers → Row q 3 (q.registers 29) (q.registers 30) c page
  w4 : {c : ℕ} {page : Memory} → Saved31 page q.registers → Row q 4 (q.registers 29) (q.registers 30) c page
  w5 : {c : ℕ} {page : Memory} → SavedTwo page q.registers → Row q 5 (q.registers 29) (q.registers 30) c page
  w6 : {c : ℕ} {page : Memory} → SavedAll page q.registers → Row q 6 (q.registers 29) (q.registers 30) c page
  w7 : {a b c : ℕ} {page : Memory} → SavedAll page q.registers → Row q 7 a b c page
  w8 : {a c : ℕ} {page : Memory} → SavedAll page q.registers → Row q 8 a 0x4200_0000 c page
  w9 : {a c : ℕ} {page : Memory} → SavedAll page q.registers → Row q 9 a 0x4200_0000 c page
  w10 : {a c : ℕ} {page : Memory} → SavedAll page q.registers → Row q 10 a 0x4200_0000 c page
  w11 : {a c : ℕ} {page : Memory} → SavedAll page q.registers → Row q 11 a 0x4200_0000 c page
  w12 : {a : ℕ} {page : Memory} → SavedAll page q.registers → Row q 12 a 0x4200_0000 (bit_and a 63) page
  w13 : {a : ℕ} {page : Memory} → SavedAll page q.registers → Row q 13 a 0x4200_0000 (wrap (bit_and a 63 * 2 ^ 4)) page
  w14 : {a b c : ℕ} {page : Memory} → SavedAll page q.registers → InLog c → Row q 14 a b c page
  w15 : {a b c : ℕ} {page : Memory} → SavedAll page q.registers → InLog c → Row q 15 a b c page
  w16 : {a b c : ℕ} {page : Memory} → SavedAll page q.registers → InLog c → Row q 16 a b c page
  w17 : {a b c : ℕ} {page : Memory} → SavedAll page q.registers → InLog c → Row q 17 a b c page
  w18 : {a b c : ℕ} {page : Memory} → SavedAll page q.registers → Row q 18 a b c page
  w19 : {a b c : ℕ} {page : Memory} → SavedAll page q.registers → Row q 19 a b c page
  w20 : {a c : ℕ} {page : Memory} → SavedAll page q.registers → Row q 20 a 0x4200_0000 c page
  w21 : {a c : ℕ} {page : Memory} → SavedAll page q.registers → Row q 21 a 0x4200_0000 c page
  w22 : {a c : ℕ} {page : Memory} → SavedAll page q.registers → Row q 22 a 0x4200_0000 c page
  w23 : {a b c : ℕ} {page : Memory} → SavedAll page q.registers → Row q 23 a b c page
  w24 : {b c : ℕ} {page : Memory} → SavedTwo page q.registers → Row q 24 (q.registers 29) b c page
  w25 : {c : ℕ} {page : Memory} → Saved31 page q.registers → Row q 25 (q.registers 29) (q.registers 30) c page
  w28 : {a b c : ℕ} {page : Memory} → SavedAll page q.registers → Row q 28 a b c page
  w29 : {a b c : ℕ} {page : Memory} → SavedAll page q.registers → Row q 29 a b c page
  w30 : {a c : ℕ} {page : Memory} → SavedAll page q.registers → Row q 30 a 0x4200_0000 c page
  w31 : {a c : ℕ} {page : Memory} → SavedAll page q.registers → Row q 31 a 0x4200_0000 c page
  w32 : {a b c : ℕ} {page : Memory} → SavedAll page q.registers → Row q 32 a b c page
  w33 : {a b : ℕ} {page : Memory} → SavedAll page q.registers → Row q 33 a b 0x4200_1000 page
  w34 : {a : ℕ} {page : Memory} → SavedAll page q.registers → Row q 34 a q.pc 0x4200_1000 page
  w35 : {a b : ℕ} {page : Memory} → SavedAll page q.registers → Row q 35 a b 0x4200_1000 page
  w36 : {a : ℕ} {page : Memory} → SavedAll page q.registers → Row q 36 a (q.registers 30) 0x4200_1000 page
  w37-66 : (j : ℕ) {page : Memory} → j < 30 → SavedTwo page q.registers → Row q (37 + j) (q.registers 29) (q.registers 30) 0x4200_1000 page
  w67 : {page : Memory} → SavedTwo page q.registers → Row q 67 (q.registers 29) (q.registers 30) 0x4200_1000 page
  w68 : {page : Memory} → SavedTwo page q.registers → Row q 68 (q.registers 29) (q.registers 31) 0x4200_1000 page
  w69 : {b : ℕ} {page : Memory} → SavedTwo page q.registers → Row q 69 (q.registers 29) b 0x4200_1000 page
  w70 : {c : ℕ} {page : Memory} → Saved31 page q.registers → Row q 70 (q.registers 29) (q.registers 30) c page
  w71 : {c : ℕ} {page : Memory} → Saved31 page q.registers → Row q 71 (q.registers 29) (q.registers 30) c page

-- how many words are left up to the call, at most; from the word behind the call more than from the program's next gate
abbrev pub left : ℕ → ℕ
left k =
    elim (nat_le k 18) [
      | true ↦ 65 - k
      | false ↦ elim (nat_le k 26) [ true ↦ 26 - k | false ↦ elim (nat_le k 27) [ true ↦ 102 | false ↦ 73 - k ] ]
    ]

-- a word leads to a row with fewer words left, to the row behind a restart, which finds the box full, or to the call with the program's own registers; the cache is left
pub data WordGoes (q : State) (t : Tally) (k : ℕ) (cache : Cache) (m : Memory) (s : ShadowState) (next : Run) : Type 0 where
  to_row : (l a b c : ℕ) (page : Memory) → Row q l a b c page → side_of next ≡ stub_side q t l (three q.registers a b c) page → left l < left k → next.cache ≡ cache
      → HeldOn q k l m next.shared s next.shadow.state → WordGoes q t k cache m s next
  to_restarted : (c : ℕ) (page : Memory) → Saved31 page q.registers → side_of next ≡ stub_side q (restarted_tally q t) 71 (three q.registers (q.registers 29) (q.registers 30) c) page
      → left 71 < left k → next.cache ≡ cache → (Held q (level k) m s → Held q (boxing 31) m s) → next.shared ≡ m
      → next.shadow.state ≡ Running → WordGoes q t k cache m s next
  to_call : (page : Memory) → side_of next ≡ stub_side q t 26 q.registers page → left 26 < left k → next.cache ≡ cache → next.shared ≡ m → IsFree (level k) → next.shadow.state ≡ s → WordGoes q t k cache m s next

-- ---- saves

module _ (page : Memory) (q : Registers) (fits : (n : ℕ) → q n < 2 ^ 64) where
  -- word 1 saves x31
  pub save31 : Saved31 (stored page (2 ^ 64 - 8) 8 (q 31)) q
  save31 = loaded-stored page (2 ^ 64 - 8) (q 31) (fits 31)

  -- word 4 saves x30, and leaves that
  pub save30 : Saved31 page q → SavedTwo (stored page (2 ^ 64 - 16) 8 (q 30)) q
  save30 s =
      record {
        x31 = loaded-above_patch page (2 ^ 64 - 16) 8 (byte_of (q 30)) (2 ^ 64 - 8) 8 (omega arith) ∙ s;
        x30 = loaded-stored page (2 ^ 64 - 16) (q 30) (fits 30);
      }

  -- word 5 saves x29, and leaves both
  pub save29 : SavedTwo page q → SavedAll (stored page (2 ^ 64 - 24) 8 (q 29)) q
  save29 s =
      record {
        x31 = loaded-above_patch page (2 ^ 64 - 24) 8 (byte_of (q 29)) (2 ^ 64 - 8) 8 (omega arith) ∙ s.x31;
        x30 = loaded-above_patch page (2 ^ 64 - 24) 8 (byte_of (q 29)) (2 ^ 64 - 16) 8 (omega arith) ∙ s.x30;
        x29 = loaded-stored page (2 ^ 64 - 24) (q 29) (fits 29);
      }

  -- the key's place lies apart
  pub save_key : (v : ℕ) → SavedAll page q → SavedAll (stored page (2 ^ 64 - 64) 8 v) q
  save_key v s =
      record {
        x31 = loaded-above_patch page (2 ^ 64 - 64) 8 (byte_of v) (2 ^ 64 - 8) 8 (omega arith) ∙ s.x31;
        x30 = loaded-above_patch page (2 ^ 64 - 64) 8 (byte_of v) (2 ^ 64 - 16) 8 (omega arith) ∙ s.x30;
        x29 = loaded-above_patch page (2 ^ 64 - 64) 8 (byte_of v) (2 ^ 64 - 24) 8 (omega arith) ∙ s.x29;
      }

-- the place that words 11 to 13 make of the head
pub in_log : (a : ℕ) → InLog (wrap (wrap (bit_and a 63 * 2 ^ 4) + 0x4200_0000))
in_log a =
    let e : bit_and a 63 ≡ a % 2 ^ 6 = and_mask a 6 in
    record { entry = bit_and a 63; below = omega (arith, e); is = omega (arith, e) }

-- ---- each word

module _ (w : World) (x : Answer) (q : State) (t : Tally) (fits : (n : ℕ) → q.registers n < 2 ^ 64) (place : q.pc < 2 ^ 64) where
  abbrev Leads : ℕ → Run → Run → Type 0
  Leads k r next = WordGoes q t k r.cache r.shared r.shadow.state next

  -- a word that leads to a row
  to : {next : Run} (r r' : Run) (k l a b c : ℕ) (page : Memory)
      → next ≡ at q t r' l a b c page → Row q l a b c page → left l < left k → r'.cache ≡ r.cache → HeldOn q k l r.shared r'.shared r.shadow.state r'.shadow.state → Leads k r next
  to r r' k l a b c page e row less cache held = subst (λ n. Leads k r n) (sym e) (to_row l a b c page row refl less cache held)

  -- word 3 leads to one of two rows
  branch_3 : (b : Bool) (r : Run) (c : ℕ) (page : Memory) → Saved31 page q.registers → Leads 3 r (at q t r (branched b 25 4) (q.registers 29) (q.registers 30) c page)
  branch_3 true r c page s = to r r 3 25 _ _ c page refl (w25 s) (lit< tt) refl (frees refl refl)
  branch_3 false r c page s = to r r 3 4 _ _ c page refl (w4 s) (lit< tt) refl (frees refl refl)

  -- so does word 10
  branch_10 : (t? : Bool) (r : Run) (a c : ℕ) (page : Memory) → SavedAll page q.registers → Leads 10 r (at q t r (branched t? 28 11) a 0x4200_0000 c page)
  branch_10 true r a c page s = to r r 10 28 a _ c page refl (w28 s) (lit< tt) refl (frees refl refl)
  branch_10 false r a c page s = to r r 10 11 a _ c page refl (w11 s) (lit< tt) refl (frees refl refl)

  -- so does word 16
  branch_16 : (t? : Bool) (r : Run) (a b c : ℕ) (page : Memory) → SavedAll page q.registers → InLog c → Leads 16 r (at q t r (branched t? 28 17) a b c page)
  branch_16 true r a b c page s l = to r r 16 28 a b c page refl (w28 s) (lit< tt) refl (frees refl refl)
  branch_16 false r a b c page s l = to r r 16 17 a b c page refl (w17 s l) (lit< tt) refl (frees refl refl)

  -- so does word 18
  branch_18 : (t? : Bool) (r : Run) (a b c : ℕ) (page : Memory) → SavedAll page q.registers → Leads 18 r (at q t r (branched t? 28 19) a b c page)
  branch_18 true r a b c page s = to r r 18 28 a b c page refl (w28 s) (lit< tt) refl (frees refl refl)
  branch_18 false r a b c page s = to r r 18 19 a b c page refl (w19 s) (lit< tt) refl (frees refl refl)

  -- one register more is in the box
  register_held : (r : Run) (j : ℕ) → j < 30 → (l : ℕ) → boxing (suc j) ≡ level l
      → HeldOn q (37 + j) l r.shared (boxed_in w x q t r (q.registers 29) (q.registers 30) j).shared r.shadow.state r.shadow.state
  register_held r j h l more =
      record {
        held = λ g. by_box (full g);
        change = λ g. stopped_first (full g).0;
        lets_go = λ g. absurd (subst (λ v. IsFree v) (sym more) g);
        quiet = λ g. absurd (subst (λ v. IsHalted v) (sym more) g);
        tail = λ g. absurd (subst (λ v. IsHeadless v) (sym more) g);
        box = inl (subst (λ v. IsBoxing v) more tt);
      }
    where
      shared : Memory
      shared = (boxed_in w x q t r (q.registers 29) (q.registers 30) j).shared

      full : Held q (level (37 + j)) r.shared r.shadow.state → Held q (boxing j) r.shared r.shadow.state
      full g = subst (λ v. Held q v r.shared r.shadow.state) (level-register j h) g

      is : three q.registers (q.registers 29) (q.registers 30) 0x4200_1000 (suc j) ≡ q.registers (suc j)
      is = three-low q.registers 0x4200_1000 j h

      by_box : Held q (boxing j) r.shared r.shadow.state → Held q (level l) shared r.shadow.state
      by_box (s, e, b) =
          subst (λ v. Held q v shared r.shadow.state) more (
            s,
            empty-box_stored r.shared (0x4200_1000 + 8 * suc j) _ (omega arith) e,
            subst (λ v. BoxedTo (stored r.shared (0x4200_1000 + 8 * suc j) 8 v) q.pc q.registers (suc j)) (sym is) (register_boxed r.shared q.pc q.registers j (fits (suc j)) b),
          )

  -- word 37 + j leads to the next register, and the last to word 67
  next_register : (r : Run) (j : ℕ) (page : Memory) → j < 30 → SavedTwo page q.registers → (j + 1 < 30) ⊎ (30 ≤ j + 1)
      → Leads (37 + j) r (after_word w x q t r (37 + j) (q.registers 29) (q.registers 30) 0x4200_1000 page)
  next_register r j page h s (inl l) =
      let r' : Run = boxed_in w x q t r (q.registers 29) (q.registers 30) j in
      let next : 38 + j ≡ 37 + (j + 1) = omega arith in
      let more : boxing (suc j) ≡ level (37 + (j + 1)) = ap boxing (sym (add-one j)) ∙ sym (level-register (j + 1) l) in
      to r r' (37 + j) (37 + (j + 1)) _ _ _ page
      (word_37-66 w x q t r _ _ j page h ∙ ap (λ k. at q t r' k (q.registers 29) (q.registers 30) 0x4200_1000 page) next)
      (w37-66 (j + 1) l s) (grind (arith, nat_tests)) refl (register_held r j h (37 + (j + 1)) more)
  next_register r j page h s (inr l) =
      let r' : Run = boxed_in w x q t r (q.registers 29) (q.registers 30) j in
      let next : 38 + j ≡ 67 = omega arith in
      let last : suc j ≡ 30 = omega arith in
      to r r' (37 + j) 67 _ _ _ page
      (word_37-66 w x q t r _ _ j page h ∙ ap (λ k. at q t r' k (q.registers 29) (q.registers 30) 0x4200_1000 page) next)
      (w67 s) (grind (arith, nat_tests)) refl (register_held r j h 67 (ap boxing last))

  -- each word leads to a row, or to the call
  pub word_goes : (r : Run) (k a b c : ℕ) (page : Memory) → Row q k a b c page → Leads k r (after_word w x q t r k a b c page)
  word_goes r _ a b c page w1 = to r r 1 2 _ _ _ _ (word_1 w x q t r _ _ _ page) (w2 (save31 page q.registers fits)) (lit< tt) refl (frees refl refl)
  word_goes r _ a b c page (w2 s) = to r r 2 3 _ _ _ page (word_2 w x q t r _ _ _ page) (w3 s) (lit< tt) refl (frees refl refl)
  word_goes r _ a b c page (w3 s) = subst (λ n. Leads 3 r n) (sym (word_3 w x q t r _ _ c page)) (branch_3 (c == 0) r c page s)
  word_goes r _ a b c page (w4 s) = to r r 4 5 _ _ c _ (word_4 w x q t r _ _ c page) (w5 (save30 page q.registers fits s)) (lit< tt) refl (frees refl refl)
  word_goes r _ a b c page (w5 s) = to r r 5 6 _ _ c _ (word_5 w x q t r _ _ c page) (w6 (save29 page q.registers fits s)) (lit< tt) refl (frees refl refl)
  word_goes r _ a b c page (w6 s) = to r r 6 7 _ _ c _ (word_6 w x q t r _ _ c page) (w7 (save_key page q.registers fits c s)) (lit< tt) refl (frees refl refl)
  word_goes r _ a b c page (w7 s) = to r r 7 8 a _ c page (word_7 w x q t r a b c page) (w8 s) (lit< tt) refl (frees refl refl)
  word_goes r _ a b c page (w8 s) = to r r 8 9 _ _ c page (word_8 w x q t r a 0 c page) (w9 s) (lit< tt) refl (frees refl refl)
  word_goes r _ a b c page (w9 s) = to r r 9 10 a _ _ page (word_9 w x q t r a 0 c page) (w10 s) (lit< tt) refl (frees refl refl)
  word_goes r _ a b c page (w10 s) = subst (λ n. Leads 10 r n) (sym (word_10 w x q t r a _ c page)) (branch_10 (a == c) r a c page s)
  word_goes r _ a b c page (w11 s) = to r r 11 12 a _ _ page (word_11 w x q t r a _ c page) (w12 s) (lit< tt) refl (frees refl refl)
  word_goes r _ a b c page (w12 s) = to r r 12 13 a _ _ page (word_12 w x q t r a _ _ page) (w13 s) (lit< tt) refl (frees refl refl)
  word_goes r _ a b c page (w13 s) = to r r 13 14 a _ _ page (word_13 w x q t r a _ _ page) (w14 s (in_log a)) (lit< tt) refl (frees refl refl)
  word_goes r _ a b c page (w14 s l) = to r r 14 15 _ b c page (word_14 w x q t r a b c page l) (w15 s l) (lit< tt) refl (frees refl refl)
  word_goes r _ a b c page (w15 s l) = to r r 15 16 a _ c page (word_15 w x q t r a b c page) (w16 s l) (lit< tt) refl (frees refl refl)
  word_goes r _ a b c page (w16 s l) = subst (λ n. Leads 16 r n) (sym (word_16 w x q t r a b c page)) (branch_16 (not (a == b)) r a b c page s l)
  word_goes r _ a b c page (w17 s l) = to r r 17 18 _ b c page (word_17 w x q t r a b c page l) (w18 s) (lit< tt) refl (frees refl refl)
  word_goes r _ a b c page (w18 s) = subst (λ n. Leads 18 r n) (sym (word_18 w x q t r a b c page)) (branch_18 (not (a == q.registers 12)) r a b c page s)
  word_goes r _ a b c page (w19 s) = to r r 19 20 a _ c page (word_19 w x q t r a b c page) (w20 s) (lit< tt) refl (frees refl refl)
  word_goes r _ a b c page (w20 s) = to r r 20 21 _ _ c page (word_20 w x q t r a 0 c page) (w21 s) (lit< tt) refl (frees refl refl)
  word_goes r _ a b c page (w21 s) = to r r 21 22 _ _ c page (word_21 w x q t r a _ c page) (w22 s) (lit< tt) refl (frees refl refl)
  word_goes r _ a b c page (w22 s) = to r (linked w x q t r 0x4200_0000 a) 22 23 a _ c page (word_22 w x q t r a 0 c page) (w23 s) (lit< tt) refl
      (record { held = λ h. tt; change = λ h. head a refl; lets_go = λ h. (tt, refl); quiet = λ h. absurd h; tail = λ h. absurd h; box = inr (λ b. b, store-leaves_box r.shared 0x4200_0000 a (lit≤ tt)) })
  word_goes r _ a b c page (w23 s) = to r r 23 24 _ b c page (word_23 w x q t r a b c page) (subst (λ n. Row q 24 n b c page) (sym s.x29) (w24 (record { x31 = s.x31; x30 = s.x30 }))) (lit< tt) refl (frees refl refl)
  word_goes r _ a b c page (w24 s) = to r r 24 25 _ _ c page (word_24 w x q t r _ b c page) (subst (λ n. Row q 25 (q.registers 29) n c page) (sym s.x30) (w25 s.x31)) (lit< tt) refl (frees refl refl)
  word_goes r _ a b c page (w25 s) =
      subst (λ n. Leads 25 r n)
      (sym (word_25 w x q t r _ _ c page ∙ ap (λ n. at q t r 26 (q.registers 29) (q.registers 30) n page) s ∙ ap (λ rs. with_side r (stub_side q t 26 rs page)) (three-own q.registers)))
      (to_call page refl (lit< tt) refl refl tt refl)
  word_goes r _ a b c page (w28 s) = to r (stopped w x q t r) 28 29 a b c page (word_28 w x q t r a b c page) (w29 s) (lit< tt) refl
      (record { held = λ h. refl; change = λ h. same refl; lets_go = λ h. absurd h; quiet = λ h. (λ e. e, refl); tail = λ h. refl; box = inr (λ b. b, λ a l. refl) })
  word_goes r _ a b c page (w29 s) = to r r 29 30 a _ c page (word_29 w x q t r a b c page) (w30 s) (lit< tt) refl (stays refl)
  word_goes r _ a b c page (w30 s) = to r (linked w x q t r 0x4200_0000 0) 30 31 a _ c page (word_30 w x q t r a 0 c page) (w31 s) (lit< tt) refl
      (record {
        held = λ h. (h, head-emptied r.shared);
        change = λ h. stopped_first h;
        lets_go = λ h. absurd h;
        quiet = λ h. absurd h;
        tail = λ h. tail-head_stored r.shared 0;
        box = inr (λ b. b, store-leaves_box r.shared 0x4200_0000 0 (lit≤ tt));
      })
  word_goes r _ a b c page (w31 s) = to r (linked w x q t r 0x4200_0008 0) 31 32 a _ c page (word_31 w x q t r a 0 c page) (w32 s) (lit< tt) refl
      (record {
        held = λ h. (h.0, tail-emptied r.shared h.1);
        change = λ h. stopped_first h.0;
        lets_go = λ h. absurd h;
        quiet = λ h. absurd h;
        tail = λ h. absurd h;
        box = inr (λ b. b, store-leaves_box r.shared 0x4200_0008 0 (lit≤ tt));
      })
  word_goes r _ a b c page (w32 s) = to r r 32 33 a b _ page (word_32 w x q t r a b c page) (w33 s) (lit< tt) refl (stays refl)
  word_goes r _ a b c page (w33 s) = to r r 33 34 a _ _ page (word_33 w x q t r a b _ page) (w34 s) (lit< tt) refl (stays refl)
  word_goes r _ a b c page (w34 s) = to r (linked w x q t r 0x4200_1000 q.pc) 34 35 a _ _ page (word_34 w x q t r a q.pc 0 page) (w35 s) (lit< tt) refl
      (record {
        held = λ h. (h.0, empty-box_stored r.shared 0x4200_1000 q.pc (omega arith) h.1, site_boxed r.shared q.pc q.registers place);
        change = λ h. stopped_first h.0;
        lets_go = λ h. absurd h;
        quiet = λ h. absurd h;
        tail = λ h. absurd h;
        box = inl tt;
      })
  word_goes r _ a b c page (w35 s) = to r r 35 36 a _ _ page (word_35 w x q t r a b _ page) (subst (λ n. Row q 36 a n 0x4200_1000 page) (sym s.x30) (w36 s)) (lit< tt) refl (stays refl)
  word_goes r _ a b c page (w36 s) =
      to r r 36 (37 + 0) _ _ _ page (word_36 w x q t r a _ _ page)
      (subst (λ n. Row q (37 + 0) n (q.registers 30) 0x4200_1000 page) (sym s.x29) (w37-66 0 (lit< tt) (record { x31 = s.x31; x30 = s.x30 })))
      (lit< tt) refl (stays refl)
  word_goes r _ a b c page (w37-66 j h s) = next_register r j page h s (cases_lt (j + 1) 30)
  word_goes r _ a b c page (w67 s) = to r r 67 68 _ _ _ page (word_67 w x q t r _ _ _ page) (subst (λ n. Row q 68 (q.registers 29) n 0x4200_1000 page) (sym s.x31) (w68 s)) (lit< tt) refl (stays refl)
  word_goes r _ a b c page (w68 s) = to r (linked w x q t r 0x4200_10F8 (q.registers 31)) 68 69 _ _ _ page (word_68 w x q t r _ _ 0 page) (w69 s) (lit< tt) refl
      (record {
        held = λ h. (h.0, empty-box_stored r.shared 0x4200_10F8 (q.registers 31) (omega arith) h.1, register_boxed r.shared q.pc q.registers 30 (fits 31) h.2);
        change = λ h. stopped_first h.0;
        lets_go = λ h. absurd h;
        quiet = λ h. absurd h;
        tail = λ h. absurd h;
        box = inl tt;
      })
  word_goes r _ a b c page (w69 s) = to r r 69 70 _ _ _ page (word_69 w x q t r _ b _ page) (subst (λ n. Row q 70 (q.registers 29) n 0x4200_1000 page) (sym s.x30) (w70 s.x31)) (lit< tt) refl (stays refl)
  word_goes r _ a b c page (w70 s) = subst (λ n. Leads 70 r n) (sym (word_70 w x q t r _ _ c page)) (to_restarted c page s refl (lit< tt) refl (λ h. h) refl refl)
  word_goes r _ a b c page (w71 s) = to r r 71 25 _ _ c page (word_71 w x q t r _ _ c page) (w25 s) (lit< tt) refl (frees refl refl)
