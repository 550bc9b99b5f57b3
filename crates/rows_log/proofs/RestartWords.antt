-- Each word of RESTART leads to its next row, to the block behind the site, or to a park.
use Rattle.std.proofs.Common.{◌≡◌, ◌≢◌, ℕ, zero, suc, ◌+◌, ◌-◌, ◌*◌, ◌%◌, ◌<◌, ◌≤◌, ◌⊎◌, inl, inr, Bool, true, false, ◌==◌, pos, List, ◌++◌, take, drop, slice_get, Option, Some, refl, ◌∙◌, ap, ap₂, sym, subst, arith, nat_lt, nat_le, lit<}
use Rattle.std.proofs.lemmas.Bool.Decides.{nat_tests}
use Rattle.std.proofs.lemmas.Bool.{lt-ltb}
use Rattle.spec_base.specs.Word.{wrap, plus_int}
use Rattle.spec_base.specs.Layout.{table_start, list_start}
use Rattle.spec_base.specs.declared.layout.Layout.{Layout}
use Rattle.spec_base.specs.declared.park.Park.{Park}
use Rattle.rv_decode.specs.declared.instr.Instr.{Instr}
use Rattle.rv_decode.specs.declared.instr.LoadOp.TheVariants.{Ld}
use Rattle.rv_model.specs.Memory.{Memory, patched, stored, loaded}
use Rattle.rv_model.specs.Registers.{reg, with_reg}
use Rattle.rv_model.specs.Effect.{even}
use Rattle.code_model.specs.Assembly.{ld}
use Rattle.code_model.specs.Blocks.{is_target}
use Rattle.code_model.specs.Helpers.{box_loads}
use Rattle.code_model.specs.Log.{box_start, boxed}
use Rattle.code_model.specs.Regions.{entry_address, listed_address}
use Rattle.side_model.specs.Hart.{Regs, get, put, Priv}
use Rattle.code_model.specs.Tables.{Tabs, TableOk, all_regions}
use Rattle.own_laws.proofs.StubWords.{slice_get-append}
use Rattle.side_model.specs.Tables.{with_value, IsUnchanged}
use Rattle.side_model.specs.Places.{Restarting, Jumping, Place, InHelper, code, helper_words, IsInstruction}
use Rattle.side_model.specs.Words.{Point, Out, Goes, Loads, Stores, Keys, Calls, Parks, Fails, exec_some}
use Rattle.side_model.specs.Rows.{Led, on, leaps, arrives, takes_count, takes_listed, takes_link, puts_entry, puts_count, calls, parks}
use Rattle.side_model.specs.JumpRows.{JumpRow, j1, j2, j3, j4, j5, j6, j7, j8, j9, j10, j11, j12, j13, j14, j15, j16, lands, faults, JumpArrives, JumpFaults, JumpFits}
use Rattle.side_model.proofs.Registers.{HasRegs-put, get_put}
use Rattle.side_model.proofs.Numbers.{TextFits, text-fits, target-inside}
use Rattle.side_model.proofs.Tabling.{all_regions-most}
use Rattle.side_model.proofs.JumpWords.{forks, jump_leads}
use Rattle.rows_log.specs.Queue.{LeavesLink}
use Rattle.rows_log.specs.RestartRows.{is_hcall, HasBox, AreLoaded, IsAnswered, with_four, Cleared, AllCleared, IsFresh, saved, RestartRow, r1, r2, r3, r4, r5, r6, r7, r8, r9, r10, r11, r12, r13, r14, r15, r16, r17, r18-47, r48, r49, r50, RestartedRow, RestartNext, word, call, RestartArrives, RestartFaults, RestartStarts, RestartLeads, BoxStays, RestartedLeads}

-- ---- registers

-- a register other than the one that is written
get-other : (k r v : ℕ) (q : Regs) → k ≢ suc r → get k (put (suc r) v q) ≡ get k q
get-other k r v q h = sym ((HasRegs-put (λ n. get n q) q (suc r) v (record { at = own })).at k) ∙ left k h
  where
    own : (n : ℕ) → reg (λ n. get n q) n ≡ get n q
    own zero = refl
    own (suc n) = refl

    left : (k : ℕ) → k ≢ suc r → reg (with_reg (λ n. get n q) (suc r) v) k ≡ get k q
    left zero h = refl
    left (suc k) h = let e : (suc k == suc r) ≡ false = grind (arith, nat_tests) in ap (λ (b : Bool). elim b [ true ↦ v | false ↦ get (suc k) q ]) e

-- a register other than x31
get-but_31 : (i v : ℕ) (q : Regs) → (i == 31) ≡ false → get i (record q { x31 = v }) ≡ get i q
get-but_31 i v q h = rw h refl

-- ---- the words that load registers

-- load number k of n from register i on
load-at : (i n k : ℕ) (rest : List Instr) → k < n → slice_get (box_loads i n ++ rest) k ≡ Some (ld (i + k) (pos (8 * (i + k))) 31)
load-at i zero k rest h = absurd (omega arith)
load-at i (suc n) zero rest h = let e : i ≡ i + 0 = omega arith in ap (λ (j : ℕ). Some (ld j (pos (8 * j)) 31)) e
load-at i (suc n) (suc k) rest h = let e : i + 1 + k ≡ i + suc k = omega arith in load-at (i + 1) n k rest (omega arith) ∙ ap (λ (j : ℕ). Some (ld j (pos (8 * j)) 31)) e

-- word 18 + k of RESTART
load-word : (l : Layout) (k : ℕ) → k < 30 → slice_get (helper_words l Restarting) (17 + k) ≡ Some (ld (suc k) (pos (8 * suc k)) 31)
load-word l k h =
    let e : 1 + k ≡ suc k = omega arith in
    slice_get-append (take 17 (helper_words l Restarting)) (drop 17 (helper_words l Restarting)) k ∙ load-at 1 30 k (drop 47 (helper_words l Restarting)) h
    ∙ ap (λ (j : ℕ). Some (ld j (pos (8 * j)) 31)) e

-- ---- what words leave

-- a store from the table on
leaves-stored : (m : Memory) (a n v : ℕ) → table_start ≤ a → LeavesLink m (stored m a n v)
unfolding patched
leaves-stored m a n v h x k = grind (arith, nat_tests)

-- words that are known to leave tables and memory
abbrev Quiet : Tabs → Memory → Out → Type 0
Quiet t m (Goes s m') = IsUnchanged t m s.tabs m'
Quiet t m (Parks cause s m') = IsUnchanged t m s.tabs m'
Quiet t m (Loads op rd a s m') = ⊥
Quiet t m (Stores op a v s m') = ⊥
Quiet t m (Keys rd s m') = ⊥
Quiet t m (Calls unhinted s m') = ⊥
Quiet t m Fails = ⊥

-- where they lead by one family, they lead by another
module _ (l : Layout) (program : Memory) (base : ℕ) (Row Row' : Place → Regs → Priv → Tabs → Memory → ℕ → Type 0) (Arrives Arrives' : ℕ → Regs → Tabs → Memory → Type 0)
    (Why Why' : Park → Tabs → Memory → Type 0) (n : ℕ) (t : Tabs) (m : Memory)
    (rows : (place : Place) (rs : Regs) (s : Priv) (t' : Tabs) (m' : Memory) (k : ℕ) → Row place rs s t' m' k → IsUnchanged t m t' m' → Row' place rs s t' m' k)
    (arrivals : (p : ℕ) (rs : Regs) (t' : Tabs) (m' : Memory) → Arrives p rs t' m' → IsUnchanged t m t' m' → Arrives' p rs t' m')
    (causes : (cause : Park) (t' : Tabs) (m' : Memory) → Why cause t' m' → IsUnchanged t m t' m' → Why' cause t' m') where
  led-quiet : (o : Out) → Quiet t m o → Led l program base Row Arrives Why n o → Led l program base Row' Arrives' Why' n o
  led-quiet _ e (on r ok less inner) = on (rows _ _ _ _ _ _ r e) ok less inner
  led-quiet _ e (leaps place a d) = leaps place a (led-quiet _ e d)
  led-quiet _ e (arrives p a block r ok) = arrives p a block (arrivals _ _ _ _ r e) ok
  led-quiet _ e (parks why ok) = parks (causes _ _ _ why e) ok
  led-quiet (Loads op rd a s m') e d = absurd e
  led-quiet (Stores op a v s m') e d = absurd e
  led-quiet (Keys rd s m') e d = absurd e
  led-quiet (Calls unhinted s m') e d = absurd e

-- ---- up to the HCALL

module _ (l : Layout) (site : ℕ) (q : Regs) (base : ℕ) (words : List Instr) (program : Memory) (is : IsInstruction l site) where
  abbrev row : Place → Regs → Priv → Tabs → ℕ → Type 0
  row = RestartRow l site q

  -- a word with n words left, from this place and this memory
  abbrev led : Place → Memory → ℕ → Out → Type 0
  led from m n o = Led l program base (RestartNext l site q from m) (λ target rs t' m'. ⊥) (λ cause t' m'. ⊥) n o

  abbrev leads : ℕ → Place → Regs → Priv → Tabs → Memory → Type 0
  leads n place rs s t m = led place m n (exec_some base (code l words place) (record { place = place; regs = rs; priv = s; tabs = t }) m)

  text : TextFits l
  text = text-fits l is.lawful

  -- the next row, with the memory as it is
  next : {from place : Place} {rs : Regs} {s : Priv} {t : Tabs} {m : Memory} {k : ℕ} → is_hcall from ≡ false → row place rs s t k → RestartNext l site q from m place rs s t m k
  next other r = word r other (λ a h. refl)

  -- so many slots are in use at most
  count-most : (t : Tabs) → TableOk l t → t.count ≤ 65536
  count-most t ok = omega (arith, ok.count, text.regions_few)

  -- ---- the clearing

  -- behind the last slot all entries are cleared
  all-cleared : (j : ℕ) (t : Tabs) → TableOk l t → t.count ≤ j → Cleared l j t → AllCleared l t
  all-cleared j t ok h c region inside = by_order (t.entry region) refl
    where
      by_order : (e : ℕ) → t.entry region ≡ e → t.entry region ≡ 0
      by_order zero f = f
      by_order (suc e) f = absurd (omega (arith, f, h, c region inside (omega (arith, f)), (ok.entry region inside (omega (arith, f))).0))

  -- the tables with an entry cleared
  abbrev without : ℕ → Tabs → Tabs
  without region t = record t { entry = with_value region 0 t.entry }

  -- an entry that isn't 0 then wasn't that one, and wasn't 0
  not-cleared : (region x : ℕ) (t : Tabs) → 0 < with_value region 0 t.entry x → (x ≢ region) × (with_value region 0 t.entry x ≡ t.entry x)
  not-cleared region x t some = by_test (x == region) refl
    where
      by_test : (b : Bool) → (x == region) ≡ b → (x ≢ region) × (with_value region 0 t.entry x ≡ t.entry x)
      by_test true e = let z : with_value region 0 t.entry x ≡ 0 = rw e refl in absurd (omega (arith, z, some))
      by_test false e = (grind (arith, nat_tests), rw e refl)

  ok-without : (region : ℕ) (t : Tabs) → TableOk l t → TableOk l (without region t)
  ok-without region t ok =
      record {
        count = ok.count;
        listed = ok.listed;
        entry = λ x inside some.
            let n : (x ≢ region) × (with_value region 0 t.entry x ≡ t.entry x) = not-cleared region x t some in
            let w : (t.entry x ≤ t.count) × (t.listed (t.entry x - 1) ≡ entry_address x) = ok.entry x inside (omega (arith, n.1, some)) in
            (omega (arith, n.1, w.0), ap (λ (e : ℕ). t.listed (e - 1)) n.1 ∙ w.1);
      }

  cleared-without : (j region : ℕ) (t : Tabs) → TableOk l t → t.listed j ≡ entry_address region → Cleared l j t → Cleared l (j + 1) (without region t)
  cleared-without j region t ok named c x inside some =
      let n : (x ≢ region) × (with_value region 0 t.entry x ≡ t.entry x) = not-cleared region x t some in
      let old : 0 < t.entry x = omega (arith, n.1, some) in
      let later : j < t.entry x = c x inside old in
      let w : (t.entry x ≤ t.count) × (t.listed (t.entry x - 1) ≡ entry_address x) = ok.entry x inside old in
      by_order (t.entry x == j + 1) refl n.0 w.1 later n.1
    where
      by_order : (b : Bool) → (t.entry x == j + 1) ≡ b → x ≢ region → t.listed (t.entry x - 1) ≡ entry_address x → j < t.entry x → with_value region 0 t.entry x ≡ t.entry x → j + 1 < with_value region 0 t.entry x
      by_order true e other w later v =
          let at : t.entry x - 1 ≡ j = grind (arith, nat_tests) in
          let same : entry_address x ≡ entry_address region = sym w ∙ ap t.listed at ∙ named in absurd (other (omega (arith, same)))
      by_order false e other w later v = let k : j + 1 < t.entry x = grind (arith, nat_tests) in omega (arith, k, v)

  -- word 8 clears the entry of the region that slot j has
  clears : {low : ℕ → ℕ} (j : ℕ) (s : Priv) (t : Tabs) (m : Memory) → TableOk l t → j < t.count → Cleared l j t
      → leads (56 + 5 * (t.count - j)) (InHelper Restarting 7) (with_four low list_start (listed_address t.count) (listed_address j) (t.listed j)) s t m
  clears j s t m ok h c =
      let w : (region : ℕ) × (region < all_regions l) × (t.listed j ≡ entry_address region) = ok.listed j h in
      let most : w.0 < 0x40_0000 = omega (arith, w.1, all_regions-most l) in
      let at : plus_int (t.listed j) (pos 0) ≡ entry_address w.0 = ap (λ (a : ℕ). plus_int a (pos 0)) w.2 ∙ omega arith in
      puts_entry w.0 at w.1 (lit< tt)
      (on (word (r9 j s h (cleared-without j w.0 t ok w.2 c)) refl (leaves-stored m (plus_int (t.listed j) (pos 0)) 4 0 (omega (arith, at)))) (ok-without w.0 t ok) (lt-ltb _ _ (omega arith)) refl)

  -- word 11 sets the count
  resets : {low : ℕ → ℕ} {b c d : ℕ} (s : Priv) (t : Tabs) (m : Memory) → AllCleared l t → leads 57 (InHelper Restarting 10) (with_four low list_start b c d) s t m
  resets s t m c =
      puts_count refl (lit< tt)
      (on (word (r12 s (record { count = refl; entries = c })) refl (leaves-stored m list_start 8 0 (omega arith)))
      (record { count = omega arith; listed = λ slot h. absurd (omega arith); entry = λ x inside some. absurd (omega (arith, c x inside, some)) }) refl refl)

  -- ---- the registers

  -- none is loaded yet
  none-loaded : (rs : Regs) → AreLoaded 0 q rs
  none-loaded rs zero h = refl
  none-loaded rs (suc i) h = absurd (omega arith)

  -- one more is loaded
  loaded-next : (k v : ℕ) (rs : Regs) → v ≡ get (suc k) q → AreLoaded k q rs → AreLoaded (suc k) q (put (suc k) v rs)
  loaded-next k v rs e f i h = by_test (i == suc k) refl
    where
      by_test : (b : Bool) → (i == suc k) ≡ b → get i (put (suc k) v rs) ≡ get i q
      by_test true g =
          let at : suc k ≡ i = grind (arith, nat_tests) in
          let some : (suc k == 0) ≡ false = grind (arith, nat_tests) in subst (λ (j : ℕ). get j (put (suc k) v rs) ≡ get j q) at (get_put (suc k) v rs some ∙ e)
      by_test false g = let other : i ≢ suc k = grind (arith, nat_tests) in get-other i k v rs other ∙ f i (grind (arith, nat_tests))

  -- word 18 + k isn't the HCALL
  not-47 : (k : ℕ) → k < 30 → (17 + k == 47) ≡ false
  not-47 k h = grind (arith, nat_tests)

  -- the row behind it
  behind : (k : ℕ) (rs : Regs) (s : Priv) (t : Tabs) (m : Memory) → TableOk l t → IsFresh l t → k < 30 → rs.x31 ≡ box_start → AreLoaded (suc k) q rs → (k + 1 < 30) ⊎ (k ≡ 29)
      → led (InHelper Restarting (17 + k)) m (50 - k) (Goes (record { place = InHelper Restarting (suc (17 + k)); regs = rs; priv = saved l site q s; tabs = t }) m)
  behind k rs s t m ok fresh h e f (inl g) =
      let at : 17 + suc k ≡ suc (17 + k) = omega arith in
      subst (λ (n : ℕ). led (InHelper Restarting (17 + k)) m (50 - k) (Goes (record { place = InHelper Restarting n; regs = rs; priv = saved l site q s; tabs = t }) m)) at
      (on (next (not-47 k h) (r18-47 (suc k) s (omega arith) fresh e f)) ok (lt-ltb (50 - suc k) (50 - k) (omega arith)) refl)
  behind k rs s t m ok fresh h e f (inr g) =
      let at : 47 ≡ suc (17 + k) = omega arith in
      subst (λ (n : ℕ). led (InHelper Restarting (17 + k)) m (50 - k) (Goes (record { place = InHelper Restarting n; regs = rs; priv = saved l site q s; tabs = t }) m)) at
      (on (next (not-47 k h) (r48 s fresh (λ i j. f i (omega arith)))) ok (lt-ltb 20 (50 - k) (omega arith)) refl)

  -- word 18 + k loads register k + 1
  loads : (k : ℕ) (rs : Regs) (s : Priv) (t : Tabs) (m : Memory) → TableOk l t → HasBox m site q → k < 30 → IsFresh l t → rs.x31 ≡ box_start → AreLoaded k q rs
      → leads (50 - k) (InHelper Restarting (17 + k)) rs (saved l site q s) t m
  loads k rs s t m ok box h fresh e f =
      let point : Point = record { place = InHelper Restarting (17 + k); regs = rs; priv = saved l site q s; tabs = t } in
      let at : plus_int rs.x31 (pos (8 * suc k)) ≡ box_start + 8 * suc k = ap (λ (a : ℕ). plus_int a (pos (8 * suc k))) e ∙ omega arith in
      let v : ℕ = loaded m (box_start + 8 * suc k) 8 in
      let other : 31 ≢ suc k = omega arith in
      subst (λ (o : Option Instr). led (InHelper Restarting (17 + k)) m (50 - k) (exec_some base o point m)) (sym (load-word l k h))
      (subst (λ (a : ℕ). led (InHelper Restarting (17 + k)) m (50 - k) (Loads Ld (suc k) a (record point { place = InHelper Restarting (suc (17 + k)) }) m)) (sym at)
      (takes_link {a = box_start + 8 * suc k} (omega arith) (omega arith) (omega arith)
      (behind k (put (suc k) v rs) s t m ok fresh h (get-other 31 k v rs other ∙ e) (loaded-next k v rs (box.registers (suc k) (omega arith)) f) (by_order k h))))
    where
      by_order : (k : ℕ) → k < 30 → (k + 1 < 30) ⊎ (k ≡ 29)
      by_order k h = grind (arith, nat_tests)

  -- word 48: the call
  answered-regs : (answer : ℕ) (rs : Regs) → AreLoaded 30 q rs → IsAnswered q answer (record (put 10 answer rs) { x31 = q.x31 })
  answered-regs answer rs f = record { given = refl; others = λ i h d. by_test i h d (i == 31) refl }
    where
      by_test : (i : ℕ) → i ≤ 31 → i ≢ 10 → (b : Bool) → (i == 31) ≡ b → get i (record (put 10 answer rs) { x31 = q.x31 }) ≡ get i q
      by_test i h d true e = let at : 31 ≡ i = grind (arith, nat_tests) in subst (λ (j : ℕ). get j (record (put 10 answer rs) { x31 = q.x31 }) ≡ get j q) at refl
      by_test i h d false e = get-but_31 i q.x31 (put 10 answer rs) e ∙ get-other i 9 answer rs d ∙ f i (grind (arith, nat_tests))

  -- each word up to the HCALL
  restart-words : {t : Tabs} {n : ℕ} {place : Place} {rs : Regs} {s : Priv} (m : Memory) → TableOk l t → HasBox m site q → row place rs s t n → leads n place rs s t m
  restart-words m ok box (r1 s) = on (next refl (r2 s)) ok (lt-ltb _ _ (omega arith)) refl
  restart-words m ok box (r2 s) = takes_count refl (on (next refl (r3 s)) ok (lt-ltb _ _ (omega arith)) refl)
  restart-words m ok box (r3 s) = on (next refl (r4 s)) ok (lt-ltb _ _ (omega arith)) refl
  restart-words m ok box (r4 s {t}) = let d : wrap (t.count * 4) ≡ 4 * t.count = omega (arith, count-most t ok) in rw d (on (next refl (r5 s)) ok (lt-ltb _ _ (omega arith)) refl)
  restart-words m ok box (r5 s {t}) =
      let d : wrap (4 * t.count + listed_address 0) ≡ listed_address t.count = omega (arith, count-most t ok) in rw d (on (next refl (r6 0 s {t = t} (omega arith) (λ x inside some. some))) ok (lt-ltb _ _ (omega arith)) refl)
  restart-words m ok box (r6 j s {t} h c) =
      forks (nat_le (listed_address t.count) (listed_address j))
      (λ e. let over : t.count ≤ j = grind (arith, nat_tests) in leaps (InHelper Restarting 10) refl (on (next refl (r11 s (all-cleared j t ok over c))) ok (lt-ltb _ _ (omega arith)) refl))
      (λ e. let under : j < t.count = grind (arith, nat_tests) in on (next refl (r7 j s under c)) ok (lt-ltb _ _ (omega arith)) refl)
  restart-words m ok box (r7 j s {t} h c) = takes_listed j (omega (arith, count-most t ok)) (omega (arith, ok.count)) (on (next refl (r8 j s h c)) ok (lt-ltb _ _ (omega arith)) refl)
  restart-words m ok box (r8 j s {t} h c) = clears j s t m ok h c
  restart-words m ok box (r9 j s {t} h c) = let d : wrap (listed_address j + 4) ≡ listed_address (j + 1) = omega (arith, count-most t ok) in rw d (on (next refl (r10 j s h c)) ok (lt-ltb _ _ (omega arith)) refl)
  restart-words m ok box (r10 j s {t} h c) = leaps (InHelper Restarting 5) refl (on (next refl (r6 (j + 1) s {t = t} (omega arith) c)) ok (lt-ltb _ _ (omega arith)) refl)
  restart-words m ok box (r11 s {t} c) = resets s t m c
  restart-words m ok box (r12 s f) = on (next refl (r13 s f)) ok refl refl
  restart-words m ok box (r13 s f) = takes_link refl (omega arith) (omega arith) (rw box.holds (on (next refl (r14 s f)) ok refl refl))
  restart-words m ok box (r14 s f) = let d : wrap (site + 4) ≡ site + 4 = omega (arith, is.below, text.below) in rw d (on (next refl (r15 s f)) ok refl refl)
  restart-words m ok box (r15 s f) = on (next refl (r16 s f)) ok refl refl
  restart-words m ok box (r16 s f) = takes_link refl (omega arith) (omega arith) (rw (box.registers 31 (omega arith)) (on (next refl (r17 s f)) ok refl refl))
  restart-words m ok box (r17 s f) = on (next refl (r18-47 0 s (lit< tt) f refl (none-loaded _))) ok refl refl
  restart-words {rs} m ok box (r18-47 k s {t} h f e g) = loads k rs s t m ok box h f e g
  restart-words {rs} m ok box (r48 s f g) = calls (λ answer t' m' small ok'. on (call answer (record (put 10 answer rs) { x31 = q.x31 }) refl small (answered-regs answer rs g) (inl (r49 s))) ok' refl refl) ok

pub restart_leads : RestartLeads
restart_leads l site q base words program is n place rs s t m ok box row = restart-words l site q base words program is m ok box row

pub restart_starts : RestartStarts
restart_starts l site q rs s t = r1 s

-- a number in a part that stays
loaded-kept : (m m' : Memory) (from to : ℕ) → ((a : ℕ) → from ≤ a → a < to → m' a ≡ m a) → (a k : ℕ) → from ≤ a → a + k ≤ to → loaded m' a k ≡ loaded m a k
unfolding loaded
loaded-kept m m' from to f a zero h g = refl
loaded-kept m m' from to f a (suc k) h g = ap₂ (λ (x y : ℕ). x + 256 * y) (f a h (omega arith)) (loaded-kept m m' from to f (a + 1) k (omega arith) (omega arith))

pub box_stays : BoxStays
box_stays m m' site q f b = record { holds = loaded-kept m m' box_start (box_start + 256) f box_start 8 (omega arith) (omega arith) ∙ b.holds; registers = at }
  where
    at : (i : ℕ) → i ≤ 31 → boxed m' i ≡ get i q
    at zero h = b.registers 0 h
    at (suc i) h = loaded-kept m m' box_start (box_start + 256) f (box_start + 8 * suc i) 8 (omega arith) (omega arith) ∙ b.registers (suc i) h

-- ---- behind the HCALL

module _ (l : Layout) (site : ℕ) (q : Regs) (base : ℕ) (words : List Instr) (program : Memory) (is : IsInstruction l site) (fits : JumpFits l (site + 4) q base words) where
  abbrev restarted : Tabs → Memory → Place → Regs → Priv → Tabs → Memory → ℕ → Type 0
  restarted t m place rs s t' m' k = RestartedRow l site q place rs s t' k × IsUnchanged t m t' m'

  abbrev goes : ℕ → Place → Regs → Priv → Tabs → Memory → Type 0
  goes n place rs s t m =
      Led l program base (restarted t m) (RestartArrives l site q t m) (RestartFaults l site t m) n
      (exec_some base (code l words place) (record { place = place; regs = rs; priv = s; tabs = t }) m)

  fitting : TextFits l
  fitting = text-fits l is.lawful

  unchanged : {t : Tabs} {m : Memory} → IsUnchanged t m t m
  unchanged = record { tables = refl; memory = refl }

  -- a word of JUMP leaves tables and memory
  jump-quiet : {n : ℕ} {place : Place} {rs : Regs} {s : Priv} {t : Tabs} (m : Memory) → JumpRow l (site + 4) q place rs s t n
      → Quiet t m (exec_some base (code l words place) (record { place = place; regs = rs; priv = s; tabs = t }) m)
  jump-quiet m (j1 s) = unchanged
  jump-quiet m (j2 s) = unchanged
  jump-quiet m (j3 s) = unchanged
  jump-quiet m (j4 s) = unchanged
  jump-quiet m (j5 s) = unchanged
  jump-quiet m (j6 s e) = unchanged
  jump-quiet m (j7 s e) = unchanged
  jump-quiet m (j8 s e) = unchanged
  jump-quiet m (j9 s e) = unchanged
  jump-quiet m (j10 s e) = unchanged
  jump-quiet m (j11 s e) = unchanged
  jump-quiet m (j12 s e) = unchanged
  jump-quiet m (j13 s e) = unchanged
  jump-quiet m (j14 s e) = unchanged
  jump-quiet m (j15 s e) = unchanged
  jump-quiet m (j16 s e) = unchanged
  jump-quiet m (lands s e) = rw (fits.pad e) unchanged
  jump-quiet m (faults s e) = unchanged

  -- the word behind the site is the target
  behind-site : even (site + 4) ≡ site + 4
  behind-site = omega (arith, is.whole)

  -- where it isn't one, the text ends there
  text-ends : is_target l (even (site + 4)) ≡ false → site + 4 ≡ l.text_end
  text-ends e = by_order (nat_lt (site + 4) l.text_end) refl
    where
      by_order : (b : Bool) → nat_lt (site + 4) l.text_end ≡ b → site + 4 ≡ l.text_end
      by_order true h =
          let above : l.text_start ≤ site = is.above in
          let whole : site % 4 ≡ 0 = is.whole in
          let no : is_target l (site + 4) ≡ true = grind (arith, nat_tests) in
          let yes : is_target l (site + 4) ≡ false = ap (is_target l) (sym behind-site) ∙ e in absurd (both no yes)
        where
          both : {b : Bool} → b ≡ true → b ≡ false → ⊥
          both x y = grind (arith, nat_tests)
      by_order false h = let k : l.text_end ≤ site + 4 = grind (arith, nat_tests) in omega (arith, k, is.below, is.whole, fitting.end)

  -- and where it is one, the text goes on
  before-end : is_target l (even (site + 4)) ≡ true → (target : ℕ) → target ≡ site + 4 → target < l.text_end
  before-end e target at = let f : is_target l (site + 4) ≡ true = ap (is_target l) (sym behind-site) ∙ e in omega (arith, at, (target-inside l (site + 4) f).below)

  -- each word of JUMP
  jumps : {n : ℕ} {place : Place} {rs : Regs} {s : Priv} {t : Tabs} (m : Memory) → TableOk l t → JumpRow l (site + 4) q place rs s t n → goes n place rs s t m
  jumps {n} {place} {rs} {s} {t} m ok row =
      led-quiet l program base (λ place rs s t' m' k. JumpRow l (site + 4) q place rs s t' k) (restarted t m) (JumpArrives l (site + 4) q) (RestartArrives l site q t m) (JumpFaults l (site + 4) q) (RestartFaults l site t m) n t m
      (λ place rs s t' m' k r same. (inr r, same))
      (λ p rs t' m' a same. record { behind = a.target ∙ behind-site; inside = before-end a.inside p (a.target ∙ behind-site); registers = a.registers; same = same })
      (λ cause t' m' a same. record { fault = a.fault; last = text-ends a.trap; same = same })
      _ (jump-quiet m row) (jump_leads l (site + 4) q base words program fits n place rs s t m ok row)

  restarted-words : {n : ℕ} {place : Place} {rs : Regs} {s : Priv} {t : Tabs} (m : Memory) → TableOk l t → RestartedRow l site q place rs s t n → goes n place rs s t m
  restarted-words m ok (inl (r49 s)) = on (inl (r50 s), unchanged) ok refl refl
  restarted-words m ok (inl (r50 s)) = leaps (InHelper Jumping 0) refl (on (inr (j1 s), unchanged) ok refl refl)
  restarted-words m ok (inr row) = jumps m ok row

pub restarted_leads : RestartedLeads
restarted_leads l site q base words program is fits n place rs s t m ok row = restarted-words l site q base words program is fits m ok row
