-- What the shadow has in place of the program's memory stays where a region gets a copy, and where a byte is set in a copy only that byte changes.
use Rattle.std.proofs.Common.{◌≡◌, ◌≢◌, ℕ, zero, suc, ◌+◌, ◌-◌, ◌*◌, ◌/◌, ◌%◌, ◌<◌, ◌≤◌, ◌⊎◌, inl, inr, Bool, true, false, ◌==◌, cond, List, [], ◌∷◌, length, get_or, refl, ◌∙◌, ap, sym, subst, arith}
use Rattle.std.proofs.lemmas.Bool.Decides.{nat_tests}
use Rattle.spec_base.specs.Word.{byte_of}
use Rattle.spec_base.specs.Layout.{list_start, copies_start}
use Rattle.spec_base.specs.declared.layout.Layout.{Layout}
use Rattle.rv_model.specs.Memory.{Memory, patched, stored, written, is_within}
use Rattle.rv_model.specs.Space.{program_byte}
use Rattle.code_model.specs.Regions.{entry_address, entry_of, listed_address, slot_address, byte_by_entry, copy_place, set_in_copies}
use Rattle.code_model.specs.Tables.{Tabs, TableOk, all_regions}
use Rattle.side_model.specs.Tables.{HasTabs}
use Rattle.side_model.proofs.Tabling.{HasTabs-above, all_regions-most}
use Rattle.rows_log.specs.Fills.{seen}
use Rattle.rows_log.proofs.FillTables.{slotted}

-- ---- patches

-- elsewhere
patched-out : (m : Memory) (base n : ℕ) (f : Memory) (x : ℕ) → (x < base) ⊎ (base + n ≤ x) → patched m base n f x ≡ m x
unfolding patched
patched-out m base n f x (inl h) = grind (arith, nat_tests)
patched-out m base n f x (inr h) = grind (arith, nat_tests)

-- there
patched-in : (m : Memory) (base n : ℕ) (f : Memory) (x i : ℕ) → x ≡ base + i → i < n → patched m base n f x ≡ f i
unfolding patched
patched-in m base n f x i e h = grind (arith, nat_tests)

-- two numbers that differ
pub apart : (x y : ℕ) → x ≢ y → (x < y) ⊎ (y < x)
apart x y d = grind (arith, nat_tests)

-- no bytes are written
pub written-none : (m : Memory) (a x : ℕ) → written m a [] x ≡ m x
written-none m a x = patched-out m a 0 (λ i. get_or [] i 0) x (by_order x a)
  where
    by_order : (x a : ℕ) → (x < a) ⊎ (a + 0 ≤ x)
    by_order x a = grind (arith, nat_tests)

-- bytes are written over bytes that are alike
pub written-alike : (f g : Memory) (a : ℕ) (bytes : List ℕ) (x : ℕ) → f x ≡ g x → written f a bytes x ≡ written g a bytes x
unfolding patched
written-alike f g a bytes x e = ap (λ (v : ℕ). elim (is_within a (length bytes) x) [ true ↦ get_or bytes (x - a) 0 | false ↦ v ]) e

-- a byte is written, and then those behind it
written-more : (f g : Memory) (a byte : ℕ) (bytes : List ℕ) (x : ℕ) → g x ≡ patched f a 1 (λ i. byte) x → written g (a + 1) bytes x ≡ written f a (byte ∷ bytes) x
written-more f g a byte bytes x e = by_order (cases x a (length bytes))
  where
    cases : (x a n : ℕ) → (x ≡ a) ⊎ ((x < a) ⊎ ((a + 1 ≤ x) × (x < a + 1 + n)) ⊎ (a + 1 + n ≤ x))
    cases x a n = grind (arith, nat_tests)

    by_order : (x ≡ a) ⊎ ((x < a) ⊎ ((a + 1 ≤ x) × (x < a + 1 + length bytes)) ⊎ (a + 1 + length bytes ≤ x)) → written g (a + 1) bytes x ≡ written f a (byte ∷ bytes) x
    by_order (inl h) =
        patched-out g (a + 1) (length bytes) (λ i. get_or bytes i 0) x (inl (omega (arith, h))) ∙ e ∙ patched-in f a 1 (λ i. byte) x 0 (omega (arith, h)) (omega arith)
        ∙ sym (patched-in f a (length (byte ∷ bytes)) (λ i. get_or (byte ∷ bytes) i 0) x 0 (omega (arith, h)) (omega arith))
    by_order (inr (inl h)) =
        patched-out g (a + 1) (length bytes) (λ i. get_or bytes i 0) x (inl (omega arith)) ∙ e ∙ patched-out f a 1 (λ i. byte) x (inl h)
        ∙ sym (patched-out f a (length (byte ∷ bytes)) (λ i. get_or (byte ∷ bytes) i 0) x (inl h))
    by_order (inr (inr (inl (h, k)))) =
        let i : ℕ = x - (a + 1) in
        patched-in g (a + 1) (length bytes) (λ i. get_or bytes i 0) x i (omega (arith, h)) (omega (arith, h, k))
        ∙ sym (patched-in f a (length (byte ∷ bytes)) (λ i. get_or (byte ∷ bytes) i 0) x (suc i) (omega (arith, h)) (omega (arith, h, k)))
    by_order (inr (inr (inr h))) =
        patched-out g (a + 1) (length bytes) (λ i. get_or bytes i 0) x (inr (omega arith)) ∙ e ∙ patched-out f a 1 (λ i. byte) x (inr (omega arith))
        ∙ sym (patched-out f a (length (byte ∷ bytes)) (λ i. get_or (byte ∷ bytes) i 0) x (inr (omega arith)))

module _ (l : Layout) (few : l.regions ≤ 65536) (words : List ℕ) (own : Memory) where
  abbrev program : Memory
  program = program_byte l words own

  -- ---- a region gets a copy

  module _ (shared : Memory) (t : Tabs) (region : ℕ) (ok : TableOk l t) (inside : region < all_regions l) (none : t.entry region ≡ 0) (room : t.count < l.regions) where
    abbrev bytes : Memory
    bytes i = program (256 * region + i)

    abbrev m1 : Memory
    m1 = patched shared (slot_address t.count) 256 bytes

    abbrev m2 : Memory
    m2 = stored m1 (listed_address t.count) 4 (entry_address region)

    abbrev m3 : Memory
    m3 = stored m2 list_start 8 (t.count + 1)

    abbrev copied : Memory
    copied = stored m3 (entry_address region) 4 (t.count + 1)

    -- list and table stand below the copies
    above : (y : ℕ) → copies_start ≤ y → copied y ≡ m1 y
    above y h =
        let most : all_regions l ≤ 0x40_0000 = all_regions-most l in
        patched-out m3 (entry_address region) 4 (byte_of (t.count + 1)) y (inr (omega (arith, most, inside)))
        ∙ patched-out m2 list_start 8 (byte_of (t.count + 1)) y (inr (omega arith))
        ∙ patched-out m1 (listed_address t.count) 4 (byte_of (entry_address region)) y (inr (omega (arith, room, few)))

    -- a byte of another slot
    of_other : (s o : ℕ) → s < t.count → o < 256 → copied (slot_address s + o) ≡ shared (slot_address s + o)
    of_other s o h k = above (slot_address s + o) (omega arith) ∙ patched-out shared (slot_address t.count) 256 bytes (slot_address s + o) (inl (omega (arith, h, k)))

    -- a byte of the new one
    of_new : (o : ℕ) → o < 256 → copied (slot_address t.count + o) ≡ bytes o
    of_new o k = above (slot_address t.count + o) (omega arith) ∙ patched-in shared (slot_address t.count) 256 bytes (slot_address t.count + o) o refl k

    pub view-slotted : (x : ℕ) → x / 256 < all_regions l → seen (slotted l few t region) copied program x ≡ seen t shared program x
    view-slotted x h = by_region (x / 256 == region) refl
      where
        by_entry : (e : ℕ) → t.entry (x / 256) ≡ e → e ≤ t.count → byte_by_entry e copied program x ≡ byte_by_entry e shared program x
        by_entry zero f k = refl
        by_entry (suc s) f k = of_other s (x % 256) (omega arith) (omega arith)

        most : t.entry (x / 256) ≤ t.count
        most = by_zero (t.entry (x / 256)) refl
          where
            by_zero : (e : ℕ) → t.entry (x / 256) ≡ e → e ≤ t.count
            by_zero zero f = omega arith
            by_zero (suc s) f = omega (arith, f, (ok.entry (x / 256) h (omega (arith, f))).0)

        by_region : (b : Bool) → (x / 256 == region) ≡ b → byte_by_entry (cond b (t.count + 1) (t.entry (x / 256))) copied program x ≡ byte_by_entry (t.entry (x / 256)) shared program x
        by_region true e =
            let is : x / 256 ≡ region = grind (arith, nat_tests) in
            let next : t.count + 1 ≡ suc t.count = omega arith in
            let at : 256 * region + x % 256 ≡ x = omega (arith, is) in
            ap (λ (n : ℕ). byte_by_entry n copied program x) next ∙ of_new (x % 256) (omega arith) ∙ ap program at ∙ sym (ap (λ (n : ℕ). byte_by_entry n shared program x) (ap t.entry is ∙ none))
        by_region false e = by_entry (t.entry (x / 256)) refl most

  -- ---- bytes are set in copies

  module _ (t : Tabs) (ok : TableOk l t) where
    -- two regions with one slot are one
    one-region : (x y : ℕ) → x < all_regions l → y < all_regions l → 0 < t.entry x → t.entry x ≡ t.entry y → x ≡ y
    one-region x y hx hy some same =
        let ax : t.listed (t.entry x - 1) ≡ entry_address x = (ok.entry x hx some).1 in
        let ay : t.listed (t.entry y - 1) ≡ entry_address y = (ok.entry y hy (omega (arith, some, same))).1 in
        let e : t.listed (t.entry x - 1) ≡ t.listed (t.entry y - 1) = ap (λ (n : ℕ). t.listed (n - 1)) same in
        omega (arith, ax, ay, e)

    -- one byte, whose region has a copy
    view-byte : (shared : Memory) (a byte : ℕ) → a / 256 < all_regions l → 0 < t.entry (a / 256) → (x : ℕ) → x / 256 < all_regions l
        → seen t (patched shared (copy_place (t.entry (a / 256)) a) 1 (λ i. byte)) program x ≡ patched (seen t shared program) a 1 (λ i. byte) x
    view-byte shared a byte ha some x hx = by_test (x == a) refl
      where
        place : ℕ
        place = copy_place (t.entry (a / 256)) a

        next : Memory
        next = patched shared place 1 (λ i. byte)

        -- another byte
        other : (e : ℕ) → t.entry (x / 256) ≡ e → x ≢ a → byte_by_entry e next program x ≡ byte_by_entry e shared program x
        other zero f d = refl
        other (suc s) f d = patched-out shared place 1 (λ i. byte) (slot_address s + x % 256) (by_order (apart (slot_address s + x % 256) place away))
          where
            away : slot_address s + x % 256 ≢ place
            away g =
                let slots : s ≡ t.entry (a / 256) - 1 = omega (arith, g) in
                let offsets : x % 256 ≡ a % 256 = omega (arith, g) in
                let regions : x / 256 ≡ a / 256 = one-region (x / 256) (a / 256) hx ha (omega (arith, f)) (omega (arith, f, slots, some)) in
                d (omega (arith, offsets, regions))

            by_order : (slot_address s + x % 256 < place) ⊎ (place < slot_address s + x % 256) → (slot_address s + x % 256 < place) ⊎ (place + 1 ≤ slot_address s + x % 256)
            by_order (inl h) = inl h
            by_order (inr h) = inr (omega arith)

        -- the byte itself
        itself : (e : ℕ) → t.entry (a / 256) ≡ e → byte_by_entry e next program a ≡ byte
        itself zero f = absurd (omega (arith, f, some))
        itself (suc s) f = patched-in shared place 1 (λ i. byte) (slot_address s + a % 256) 0 (omega (arith, f)) (omega arith)

        by_test : (b : Bool) → (x == a) ≡ b → seen t next program x ≡ patched (seen t shared program) a 1 (λ i. byte) x
        by_test true e =
            let is : x ≡ a = grind (arith, nat_tests) in
            ap (seen t next program) is ∙ itself (t.entry (a / 256)) refl ∙ sym (patched-in (seen t shared program) a 1 (λ i. byte) x 0 (omega (arith, is)) (omega arith))
        by_test false e =
            let d : x ≢ a = grind (arith, nat_tests) in
            other (t.entry (x / 256)) refl d ∙ sym (patched-out (seen t shared program) a 1 (λ i. byte) x (by_order (apart x a d)))
          where
            by_order : (x < a) ⊎ (a < x) → (x < a) ⊎ (a + 1 ≤ x)
            by_order (inl h) = inl h
            by_order (inr h) = inr (omega arith)

    -- all of them
    pub view-bytes : (shared : Memory) (a : ℕ) (bytes : List ℕ) → HasTabs l shared t → ((y : ℕ) → a ≤ y → y < a + length bytes → (y / 256 < all_regions l) × (0 < t.entry (y / 256)))
        → (x : ℕ) → x / 256 < all_regions l → seen t (set_in_copies shared a bytes) program x ≡ written (seen t shared program) a bytes x
    unfolding set_in_copies
    view-bytes shared a [] has each x h = sym (written-none (seen t shared program) a x)
    view-bytes shared a (byte ∷ bytes) has each x h =
        let place : ℕ = copy_place (entry_of shared (a / 256)) a in
        let next : Memory = patched shared place 1 (λ i. byte) in
        let first : (a / 256 < all_regions l) × (0 < t.entry (a / 256)) = each a (omega arith) (omega arith) in
        let one : seen t next program x ≡ patched (seen t shared program) a 1 (λ i. byte) x =
        subst (λ (n : ℕ). seen t (patched shared (copy_place n a) 1 (λ i. byte)) program x ≡ patched (seen t shared program) a 1 (λ i. byte) x) (sym (has.entry (a / 256) first.0)) (view-byte shared a byte first.0 first.1 x h) in
        view-bytes next (a + 1) bytes (HasTabs-above l few shared t has place 1 (λ i. byte) (omega arith)) (λ y i j. each y (omega arith) (omega arith)) x h
        ∙ written-more (seen t shared program) (seen t next program) a byte bytes x one
