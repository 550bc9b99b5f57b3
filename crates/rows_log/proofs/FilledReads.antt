-- A read that the shadow assumes: where it is filled each of its regions without a copy gets the next slot, and its bytes are set in the copies.
use Rattle.std.proofs.Common.{◌≡◌, ◌≢◌, ℕ, zero, suc, ◌+◌, ◌-◌, ◌/◌, ◌<◌, ◌≤◌, Bool, true, false, ◌==◌, cond, List, [], ◌∷◌, length, take, drop, refl, ◌∙◌, ap, sym, subst, arith, IsTrue}
use Rattle.std.specs.Prelude.{⊤, unwrap_or}
use Rattle.std.proofs.lemmas.Bool.Decides.{nat_tests}
use Rattle.std.proofs.lemmas.List.{length-take}
use Rattle.std.proofs.lemmas.Bool.{and_parts}
use Rattle.spec_base.specs.Layout.{is_lawful}
use Rattle.spec_base.specs.declared.layout.Layout.{Layout}
use Rattle.spec_base.specs.declared.spot.ReadSpot.{ReadSpot}
use Rattle.rv_model.specs.Memory.{Memory, all_from}
use Rattle.rv_model.specs.Rights.{is_data}
use Rattle.rv_model.specs.Space.{program_byte}
use Rattle.program_model.specs.Calls.{bytes_read}
use Rattle.code_model.specs.Regions.{entry_of, slots_in_use, with_copy_at, with_copies, set_in_copies, uncopied, new_regions}
use Rattle.run_model.specs.Run.{World, Run, rewritten_words}
use Rattle.run_model.specs.ShadowMoves.{fill, fill_if, filled_copies, is_filled, regions_fit, hint_given}
use Rattle.code_model.specs.Tables.{Tabs, TableOk, all_regions}
use Rattle.side_model.specs.Tables.{HasTabs}
use Rattle.side_model.proofs.Numbers.{TextFits, text-fits}
use Rattle.rows_log.specs.Fills.{seen, bytes_set, IsFilled, FillsKeepTables}
use Rattle.rows_log.proofs.PlannedReads.{read-planned, all_from-last, data-region}
use Rattle.rows_log.proofs.FillTables.{slotted, ok-slotted, has-slotted, bytes-keep}
use Rattle.rows_log.proofs.FillViews.{written-none, written-alike, view-slotted, view-bytes}

module _ (l : Layout) (few : l.regions ≤ 65536) where
  -- ---- regions get slots in order

  -- regions in ascending order, from one on, that have no copy by these tables
  abbrev AreNew : Tabs → ℕ → List ℕ → Type 0
  AreNew t from [] = ⊤
  AreNew t from (x ∷ regions) = (from ≤ x) × (x < all_regions l) × (t.entry x ≡ 0) × AreNew t (x + 1) regions

  -- regions that have copies
  abbrev HaveCopies : Tabs → List ℕ → Type 0
  HaveCopies t [] = ⊤
  HaveCopies t (x ∷ regions) = (0 < t.entry x) × HaveCopies t regions

  -- an entry where another region gets a slot
  other-entry : (t : Tabs) (region x : ℕ) → x ≢ region → (slotted l few t region).entry x ≡ t.entry x
  other-entry t region x d = let e : (x == region) ≡ false = grind (arith, nat_tests) in ap (λ (b : Bool). cond b (t.count + 1) (t.entry x)) e

  -- the entry of the region that gets one
  new-entry : (t : Tabs) (region : ℕ) → (slotted l few t region).entry region ≡ t.count + 1
  new-entry t region = let e : (region == region) ≡ true = grind (arith, nat_tests) in ap (λ (b : Bool). cond b (t.count + 1) (t.entry region)) e

  -- those behind it are still new
  new-slotted : (t : Tabs) (region from : ℕ) (regions : List ℕ) → region < from → AreNew t from regions → AreNew (slotted l few t region) from regions
  new-slotted t region from [] h n = tt
  new-slotted t region from (x ∷ regions) h (low, inside, none, new) =
      (low, inside, other-entry t region x (omega (arith, h, low)) ∙ none, new-slotted t region (x + 1) regions (omega (arith, h, low)) new)

  new-lower : (t : Tabs) (from : ℕ) (regions : List ℕ) → AreNew t (from + 1) regions → AreNew t from regions
  new-lower t from [] n = tt
  new-lower t from (x ∷ regions) (low, inside, none, new) = (omega (arith, low), inside, none, new)

  -- a memory in which these regions have got copies
  record Copied (words : List ℕ) (own : Memory) (regions : List ℕ) (t : Tabs) (shared new : Memory) : Type 0 where
    tables : Tabs
    has : HasTabs l new tables
    ok : TableOk l tables
    copies : (region : ℕ) → 0 < t.entry region → tables.entry region ≡ t.entry region
    each : HaveCopies tables regions
    view : (x : ℕ) → x / 256 < all_regions l → seen tables new (program_byte l words own) x ≡ seen t shared (program_byte l words own) x

  copies-made : (words : List ℕ) (own : Memory) (regions : List ℕ) (from : ℕ) (shared : Memory) (t : Tabs) → AreNew t from regions → HasTabs l shared t → TableOk l t → t.count + length regions ≤ l.regions
      → Copied words own regions t shared (with_copies l words own shared regions)
  unfolding with_copies
  copies-made words own [] from shared t new has ok room = record { tables = t; has = has; ok = ok; copies = λ x some. refl; each = tt; view = λ x h. refl }
  copies-made words own (region ∷ regions) from shared t (low, inside, none, new) has ok room =
      let one : t.count < l.regions = omega (arith, room) in
      let t1 : Tabs = slotted l few t region in
      let m1 : Memory = with_copy_at t.count l words own shared region in
      let rest : Copied words own regions t1 m1 (with_copies l words own m1 regions) =
      copies-made words own regions (region + 1) m1 t1 (new-slotted t region (region + 1) regions (omega arith) new) (has-slotted l few words own shared t region has inside one) (ok-slotted l few t region ok inside one) (omega (arith, room)) in
      let own_slot : rest.tables.entry region ≡ t.count + 1 = rest.copies region (omega (arith, new-entry t region)) ∙ new-entry t region in
      subst (λ (n : ℕ). Copied words own (region ∷ regions) t shared (with_copies l words own (with_copy_at n l words own shared region) regions)) (sym has.count)
      (record {
        tables = rest.tables;
        has = rest.has;
        ok = rest.ok;
        copies = λ x some. let same : t1.entry x ≡ t.entry x = other-entry t region x (differs x some) in rest.copies x (omega (arith, same, some)) ∙ same;
        each = (omega (arith, own_slot), rest.each);
        view = λ x h. rest.view x h ∙ view-slotted l few words own shared t region ok inside none one x h;
      })
    where
      differs : (x : ℕ) → 0 < t.entry x → x ≢ region
      differs x some e = absurd (omega (arith, some, ap t.entry e, none))

  -- then bytes of regions that have copies are set
  bytes-filled : (words : List ℕ) (own : Memory) (regions : List ℕ) (t : Tabs) (shared new : Memory) (made : Copied words own regions t shared new) (a : ℕ) (bytes : List ℕ)
      → ((y : ℕ) → a ≤ y → y < a + length bytes → (y / 256 < all_regions l) × (0 < made.tables.entry (y / 256))) → IsFilled l (program_byte l words own) t shared a bytes (set_in_copies new a bytes)
  bytes-filled words own regions t shared new made a bytes each =
      record {
        tables = made.tables;
        has = bytes-keep l few made.tables new a bytes made.has;
        ok = made.ok;
        copies = made.copies;
        copied = λ x i j. (each x i j).1;
        view = λ x h.
            view-bytes l few words own made.tables made.ok new a bytes made.has each x h
            ∙ written-alike (seen made.tables new (program_byte l words own)) (seen t shared (program_byte l words own)) a bytes x (made.view x h);
      }

  -- ---- which regions are new

  uncopied-new : (shared : Memory) (t : Tabs) → HasTabs l shared t → (n region : ℕ) → region + n ≤ all_regions l → AreNew t region (uncopied shared region n)
  unfolding uncopied
  uncopied-new shared t has zero region h = tt
  uncopied-new shared t has (suc n) region h = by_test (entry_of shared region == 0) refl (uncopied-new shared t has n (region + 1) (omega arith))
    where
      by_test : (b : Bool) → (entry_of shared region == 0) ≡ b → AreNew t (region + 1) (uncopied shared (region + 1) n)
          → AreNew t region (elim b [ true ↦ region ∷ uncopied shared (region + 1) n | false ↦ uncopied shared (region + 1) n ])
      by_test true e next = let z : entry_of shared region ≡ 0 = grind (arith, nat_tests) in (omega arith, omega arith, sym (has.entry region (omega arith)) ∙ z, next)
      by_test false e next = new-lower t region (uncopied shared (region + 1) n) next

  -- once these have copies all have
  uncopied-each : (shared : Memory) (t t' : Tabs) → HasTabs l shared t → ((x : ℕ) → 0 < t.entry x → t'.entry x ≡ t.entry x) → (n region : ℕ) → region + n ≤ all_regions l → HaveCopies t' (uncopied shared region n)
      → (x : ℕ) → region ≤ x → x < region + n → 0 < t'.entry x
  unfolding uncopied
  uncopied-each shared t t' has kept zero region h c x i j = absurd (omega arith)
  uncopied-each shared t t' has kept (suc n) region h c x i j =
      by_test (entry_of shared region == 0) refl c (λ d k. uncopied-each shared t t' has kept n (region + 1) (omega arith) d x k (omega arith)) (x == region) refl
    where
      by_test : (b : Bool) → (entry_of shared region == 0) ≡ b → HaveCopies t' (elim b [ true ↦ region ∷ uncopied shared (region + 1) n | false ↦ uncopied shared (region + 1) n ])
          → (HaveCopies t' (uncopied shared (region + 1) n) → region + 1 ≤ x → 0 < t'.entry x) → (b' : Bool) → (x == region) ≡ b' → 0 < t'.entry x
      by_test true e (one, rest) next true f = let is : region ≡ x = grind (arith, nat_tests) in subst (λ (y : ℕ). 0 < t'.entry y) is one
      by_test true e (one, rest) next false f = next rest (grind (arith, nat_tests))
      by_test false e rest next true f =
          let is : region ≡ x = grind (arith, nat_tests) in
          let some : 0 < entry_of shared region = grind (arith, nat_tests) in
          let old : 0 < t.entry region = omega (arith, some, has.entry region (omega arith)) in subst (λ (y : ℕ). 0 < t'.entry y) is (omega (arith, kept region old, old))
      by_test false e rest next false f = next rest (grind (arith, nat_tests))

  -- of fewer regions no more are new
  uncopied-fewer : (shared : Memory) (n k region : ℕ) → length (uncopied shared region n) ≤ length (uncopied shared region (n + k))
  unfolding uncopied
  uncopied-fewer shared zero k region = omega arith
  uncopied-fewer shared (suc n) k region =
      let e : suc (n + k) ≡ suc n + k = omega arith in
      subst (λ (j : ℕ). length (uncopied shared region (suc n)) ≤ length (uncopied shared region j)) e (by_test (entry_of shared region == 0) (uncopied-fewer shared n k (region + 1)))
    where
      by_test : (b : Bool) → length (uncopied shared (region + 1) n) ≤ length (uncopied shared (region + 1) (n + k))
          → length {A = ℕ} (elim b [ true ↦ region ∷ uncopied shared (region + 1) n | false ↦ uncopied shared (region + 1) n ])
          ≤ length {A = ℕ} (elim b [ true ↦ region ∷ uncopied shared (region + 1) (n + k) | false ↦ uncopied shared (region + 1) (n + k) ])
      by_test true next = omega (arith, next)
      by_test false next = next

-- ---- a read that is filled

-- no more are taken than asked
length-take_most : (n : ℕ) (xs : List ℕ) → length (take n xs) ≤ n
length-take_most n xs = omega (arith, length-take n xs)

-- its regions fit
record Fits (w : World) (r : Run) (a count : ℕ) : Type 0 where
  n : ℕ
  is : count ≡ suc n
  room : regions_fit w.image.layout r.shared a n ≡ true

filled-fits : (w : World) (r : Run) (spot : ReadSpot) (a count : ℕ) → is_filled w r spot a count ≡ true → Fits w r a count
filled-fits w r spot a zero e = absurd (no e)
  where
    no : false ≡ true → ⊥
    no e = cc
filled-fits w r spot a (suc n) e = record { n = n; is = refl; room = (and_parts _ _ e).1 }

module _ (w : World) (r : Run) (t : Tabs) (spot : ReadSpot) (a : ℕ) (lawful : IsTrue (is_lawful w.image.layout)) (inside : all_from (is_data w.image.layout) a spot.count ≡ true)
    (has : HasTabs w.image.layout r.shared t) (ok : TableOk w.image.layout t) where
  abbrev l : Layout
  l = w.image.layout

  few : l.regions ≤ 65536
  few = let text : TextFits l = text-fits l lawful in text.regions_few

  abbrev program : Memory
  program = program_byte l (rewritten_words w) r.own.memory

  -- with its bytes
  bytes-fill : (bytes : List ℕ) → length bytes ≤ spot.count → Fits w r a spot.count → IsFilled l program t r.shared a bytes (filled_copies w r a bytes)
  bytes-fill bytes short f =
      let last : is_data l (a + f.n) ≡ true = all_from-last (is_data l) a f.n (ap (all_from (is_data l) a) (sym f.is) ∙ inside) in
      let below : (a + f.n) / 256 < all_regions l = data-region l (a + f.n) last in
      let k : ℕ = length bytes - 1 in
      let fewer : k ≤ f.n = omega (arith, short, f.is) in
      let n : ℕ = (a + k) / 256 - a / 256 + 1 in
      let in_range : a / 256 + n ≤ all_regions l = omega (arith, below, fewer) in
      let more : ℕ = (a + f.n) / 256 - (a + k) / 256 in
      let all : n + more ≡ (a + f.n) / 256 - a / 256 + 1 = omega (arith, fewer) in
      let fits : slots_in_use r.shared + length (new_regions r.shared a f.n) ≤ l.regions = grind (arith, nat_tests, f.room) in
      let count : length (new_regions r.shared a k) ≤ length (new_regions r.shared a f.n) =
      subst (λ (j : ℕ). length (uncopied r.shared (a / 256) n) ≤ length (uncopied r.shared (a / 256) j)) all (uncopied-fewer l few r.shared n more (a / 256)) in
      let new : Memory = with_copies l (rewritten_words w) r.own.memory r.shared (new_regions r.shared a k) in
      let made : Copied l few (rewritten_words w) r.own.memory (new_regions r.shared a k) t r.shared new =
      copies-made l few (rewritten_words w) r.own.memory (new_regions r.shared a k) (a / 256) r.shared t (uncopied-new l few r.shared t has n (a / 256) in_range) has ok (omega (arith, fits, count, has.count)) in
      let each : (x : ℕ) → a ≤ x → x < a + length bytes → 0 < made.tables.entry (x / 256) =
      λ x i j. uncopied-each l few r.shared t made.tables has made.copies n (a / 256) in_range made.each (x / 256) (omega (arith, i)) (omega (arith, i, j)) in
      bytes-filled l few (rewritten_words w) r.own.memory (new_regions r.shared a k) t r.shared new made a bytes (λ y i j. (omega (arith, i, j, below, fewer), each y i j))

  -- filled, or not
  fill-keeps : IsFilled l program t r.shared a (bytes_set (is_filled w r spot a spot.count) (bytes_read w.files spot)) (fill w spot a r).shared
  fill-keeps = by_test (is_filled w r spot a spot.count) refl
    where
      by_test : (b : Bool) → is_filled w r spot a spot.count ≡ b → IsFilled l program t r.shared a (bytes_set b (bytes_read w.files spot)) (fill_if b w spot a r).shared
      by_test true e = bytes-fill (bytes_read w.files spot) (length-take_most spot.count (drop spot.offset (unwrap_or (w.files spot.name) []))) (filled-fits w r spot a spot.count e)
      by_test false e =
          record {
            tables = t;
            has = has;
            ok = ok;
            copies = λ x some. refl;
            copied = λ x i j. absurd (omega arith);
            view = λ x h. sym (written-none (seen t r.shared program) a x);
          }

-- so does a read that gave a hint, or didn't
pub fills-keep_tables : FillsKeepTables
fills-keep_tables w r t d spot a true lawful e has ok = fill-keeps w r t spot a lawful (read-planned w r d spot a e) has ok
fills-keep_tables w r t d spot a false lawful e has ok = fill-keeps w (hint_given false spot r) t spot a lawful (read-planned w r d spot a e) has ok
