-- What the shadow has in place of the program's data stays where a region gets a copy, and where a byte is set in a copy only that byte changes.
use Rattle.std.proofs.Common.{◌≡◌, ◌≢◌, ℕ, zero, suc, ◌+◌, ◌-◌, ◌*◌, ◌/◌, ◌%◌, ◌<◌, ◌≤◌, ◌⊎◌, inl, inr, Bool, true, false, ◌==◌, not, List, [], ◌∷◌, length, get_or, IsTrue, refl, ap, sym, ◌∙◌, arith}
use Rattle.std.proofs.lemmas.Bool.{and_parts}
use Rattle.std.proofs.lemmas.Bool.Decides.{nat_tests}
use Rattle.spec_base.specs.Word.{byte_of}
use Rattle.spec_base.specs.Layout.{list_start, copies_start, range_end}
use Rattle.spec_base.specs.declared.layout.Layout.{Layout}
use Rattle.rv_model.specs.Memory.{Memory, loaded, patched, stored, written, is_within}
use Rattle.rv_model.specs.Rights.{in_range, in_text, is_data}
use Rattle.rv_model.specs.Space.{Space, program_byte, text_byte}
use Rattle.code_model.specs.Regions.{entry_address, entry_of, slots_in_use, listed_address, slot_address, byte_by_entry, shadowed, copy_place, set_in_copies, with_copy, with_copies, uncopied}
use Rattle.code_model.specs.Tables.{AreConsistent, all_regions}
use Rattle.cow_regions.specs.Fills.{ShadowedBut}
use Rattle.cow_regions.proofs.SharedNumbers.{regions-most}
use Rattle.cow_regions.proofs.RangeBytes.{whole-regions}
use Rattle.cow_regions.proofs.Copies.{consistent-above, consistent-next, count-next, entry-above, entry-new, entry-other}
use Rattle.cow_regions.proofs.CopyRuns.{uncopied-old, uncopied-new, uncopied-none, uncopied-same, iszero}

-- ---- patches

-- elsewhere
patched-out : (m : Memory) (base n : ℕ) (f : Memory) (x : ℕ) → (x < base) ⊎ (base + n ≤ x) → patched m base n f x ≡ m x
unfolding patched
patched-out m base n f x (inl h) = grind (arith, nat_tests)
patched-out m base n f x (inr h) = grind (arith, nat_tests)

-- there
patched-in : (m : Memory) (base n : ℕ) (f : Memory) (x i : ℕ) → x ≡ base + i → i < n → patched m base n f x ≡ f i
unfolding patched
patched-in m base n f x i e h = grind (arith, nat_tests)

-- two numbers that differ
apart : (x y : ℕ) → x ≢ y → (x < y) ⊎ (y + 1 ≤ x)
apart x y d = grind (arith, nat_tests)

-- no bytes are written
written-none : (m : Memory) (a x : ℕ) → written m a [] x ≡ m x
written-none m a x = patched-out m a 0 (λ i. get_or [] i 0) x (by_order x a)
  where
    by_order : (x a : ℕ) → (x < a) ⊎ (a + 0 ≤ x)
    by_order x a = grind (arith, nat_tests)

-- bytes are written over bytes that are alike
written-alike : (f g : Memory) (a : ℕ) (bytes : List ℕ) (x : ℕ) → f x ≡ g x → written f a bytes x ≡ written g a bytes x
unfolding patched
written-alike f g a bytes x e = ap (λ (v : ℕ). elim (is_within a (length bytes) x) [ true ↦ get_or bytes (x - a) 0 | false ↦ v ]) e

-- a byte is written, and then those behind it
written-more : (f g : Memory) (a byte : ℕ) (bytes : List ℕ) (x : ℕ) → g x ≡ patched f a 1 (λ i. byte) x → written g (a + 1) bytes x ≡ written f a (byte ∷ bytes) x
written-more f g a byte bytes x e = by_order (cases x a (length bytes))
  where
    cases : (x a n : ℕ) → (x ≡ a) ⊎ ((x < a) ⊎ ((a + 1 ≤ x) × (x < a + 1 + n)) ⊎ (a + 1 + n ≤ x))
    cases x a n = grind (arith, nat_tests)

    by_order : (x ≡ a) ⊎ ((x < a) ⊎ ((a + 1 ≤ x) × (x < a + 1 + length bytes)) ⊎ (a + 1 + length bytes ≤ x)) → written g (a + 1) bytes x ≡ written f a (byte ∷ bytes) x
    by_order (inl h) =
        patched-out g (a + 1) (length bytes) (λ i. get_or bytes i 0) x (inl (omega (arith, h))) ∙ e ∙ patched-in f a 1 (λ i. byte) x 0 (omega (arith, h)) (omega arith)
        ∙ sym (patched-in f a (length (byte ∷ bytes)) (λ i. get_or (byte ∷ bytes) i 0) x 0 (omega (arith, h)) (omega arith))
    by_order (inr (inl h)) =
        patched-out g (a + 1) (length bytes) (λ i. get_or bytes i 0) x (inl (omega arith)) ∙ e ∙ patched-out f a 1 (λ i. byte) x (inl h)
        ∙ sym (patched-out f a (length (byte ∷ bytes)) (λ i. get_or (byte ∷ bytes) i 0) x (inl h))
    by_order (inr (inr (inl (h, k)))) =
        let i : ℕ = x - (a + 1) in
        patched-in g (a + 1) (length bytes) (λ i. get_or bytes i 0) x i (omega (arith, h)) (omega (arith, h, k))
        ∙ sym (patched-in f a (length (byte ∷ bytes)) (λ i. get_or (byte ∷ bytes) i 0) x (suc i) (omega (arith, h)) (omega (arith, h, k)))
    by_order (inr (inr (inr h))) =
        patched-out g (a + 1) (length bytes) (λ i. get_or bytes i 0) x (inr (omega arith)) ∙ e ∙ patched-out f a 1 (λ i. byte) x (inr (omega arith))
        ∙ sym (patched-out f a (length (byte ∷ bytes)) (λ i. get_or (byte ∷ bytes) i 0) x (inr (omega arith)))

-- ---- data

-- a byte of the data is one of a region, and no byte of the text
pub record IsOfData (l : Layout) (x : ℕ) : Type 0 where
  pub inside : x / 256 < all_regions l
  pub off : in_text l x ≡ false

pub of_data : (l : Layout) (x : ℕ) → IsTrue (is_data l x) → IsOfData l x
of_data l x h =
    let parts = and_parts (in_range l x) (not (in_text l x)) h in
    record { inside = in_region x parts.0; off = not-true (in_text l x) parts.1 }
  where
    not-true : (b : Bool) → IsTrue (not b) → b ≡ false
    not-true false e = refl
    not-true true e = cc

    below : (x : ℕ) → IsTrue (in_range l x) → x < range_end l.version
    below x h = grind (arith, nat_tests)

    in_region : (x : ℕ) → IsTrue (in_range l x) → x / 256 < all_regions l
    in_region x h = omega (arith, below x h, whole-regions l.version)

-- ---- a region gets a copy

module _ (l : Layout) (few : l.regions ≤ 65536) (words : List ℕ) (program : Memory) where
  module _ (shared : Memory) (region : ℕ) (ok : AreConsistent l shared) (inside : region < all_regions l) (none : entry_of shared region ≡ 0) (room : slots_in_use shared < l.regions) where
    abbrev bytes : Memory
    bytes i = program_byte l words program (256 * region + i)

    abbrev m1 : Memory
    m1 = patched shared (slot_address (slots_in_use shared)) 256 bytes

    abbrev m2 : Memory
    m2 = stored m1 (listed_address (slots_in_use shared)) 4 (entry_address region)

    abbrev m3 : Memory
    m3 = stored m2 list_start 8 (slots_in_use shared + 1)

    abbrev copied : Memory
    copied = with_copy l words program shared region

    -- list and table stand below the copies
    above : (y : ℕ) → copies_start ≤ y → copied y ≡ m1 y
    above y h =
        let most : all_regions l ≤ 0x40_0000 = regions-most l in
        patched-out m3 (entry_address region) 4 (byte_of (slots_in_use shared + 1)) y (inr (omega (arith, most, inside)))
        ∙ patched-out m2 list_start 8 (byte_of (slots_in_use shared + 1)) y (inr (omega arith))
        ∙ patched-out m1 (listed_address (slots_in_use shared)) 4 (byte_of (entry_address region)) y (inr (omega (arith, room, few)))

    -- a byte of another slot
    of_other : (s o : ℕ) → s < slots_in_use shared → o < 256 → copied (slot_address s + o) ≡ shared (slot_address s + o)
    of_other s o h k = above (slot_address s + o) (omega arith) ∙ patched-out shared (slot_address (slots_in_use shared)) 256 bytes (slot_address s + o) (inl (omega (arith, h, k)))

    -- a byte of the new one
    of_new : (o : ℕ) → o < 256 → copied (slot_address (slots_in_use shared) + o) ≡ bytes o
    of_new o k = above (slot_address (slots_in_use shared) + o) (omega arith) ∙ patched-in shared (slot_address (slots_in_use shared)) 256 bytes (slot_address (slots_in_use shared) + o) o refl k

    -- the shadow sees the same data
    view-copied : (x : ℕ) → IsOfData l x → shadowed copied program x ≡ shadowed shared program x
    unfolding shadowed
    view-copied x real = by_region (x / 256 == region) refl
      where
        most : (e : ℕ) → entry_of shared (x / 256) ≡ e → e ≤ slots_in_use shared
        most zero f = omega arith
        most (suc s) f = omega (arith, f, (ok.entry (x / 256) real.inside (omega (arith, f))).0)

        by_entry : (e : ℕ) → e ≤ slots_in_use shared → byte_by_entry e copied program x ≡ byte_by_entry e shared program x
        by_entry zero k = refl
        by_entry (suc s) k = of_other s (x % 256) (omega arith) (omega arith)

        plain : (b : Bool) → b ≡ false → elim b [ true ↦ text_byte l words x | false ↦ program x ] ≡ program x
        plain b e = rw e refl

        by_region : (b : Bool) → (x / 256 == region) ≡ b → byte_by_entry (entry_of copied (x / 256)) copied program x ≡ byte_by_entry (entry_of shared (x / 256)) shared program x
        by_region true e =
            let is : x / 256 ≡ region = grind (arith, nat_tests) in
            let entry : entry_of copied (x / 256) ≡ suc (slots_in_use shared) = ap (entry_of copied) is ∙ entry-new l few words program shared region inside room ∙ omega arith in
            let at : 256 * region + x % 256 ≡ x = omega (arith, is) in
            let old : entry_of shared (x / 256) ≡ 0 = ap (entry_of shared) is ∙ none in
            ap (λ (n : ℕ). byte_by_entry n copied program x) entry ∙ of_new (x % 256) (omega arith) ∙ ap (program_byte l words program) at ∙ plain (in_text l x) real.off
            ∙ sym (ap (λ (n : ℕ). byte_by_entry n shared program x) old)
        by_region false e =
            let d : x / 256 ≢ region = grind (arith, nat_tests) in
            ap (λ (n : ℕ). byte_by_entry n copied program x) (entry-other l few words program shared region inside room (x / 256) real.inside d)
            ∙ by_entry (entry_of shared (x / 256)) (most (entry_of shared (x / 256)) refl)

  -- regions get copies in order
  abbrev ViewMade : ℕ → ℕ → Type 0
  ViewMade n region =
      (shared : Memory) → AreConsistent l shared → region + n ≤ all_regions l → slots_in_use shared + length (uncopied shared region n) ≤ l.regions
      → (x : ℕ) → IsOfData l x → shadowed (with_copies l words program shared (uncopied shared region n)) program x ≡ shadowed shared program x

  view-made : (n region : ℕ) → ViewMade n region
  unfolding with_copies
  view-made zero region shared ok last room x real = ap (λ (regions : List ℕ). shadowed (with_copies l words program shared regions) program x) (uncopied-none shared region zero refl)
  view-made (suc n) region shared ok last room x real = by_case (entry_of shared region == 0) refl (view-made n (region + 1))
    where
      by_case : (b : Bool) → (entry_of shared region == 0) ≡ b → ViewMade n (region + 1) → shadowed (with_copies l words program shared (uncopied shared region (suc n))) program x ≡ shadowed shared program x
      by_case false e later =
          let front : uncopied shared region (suc n) ≡ uncopied shared (region + 1) n = uncopied-old shared region n (suc n) refl e in
          ap (λ (regions : List ℕ). shadowed (with_copies l words program shared regions) program x) front ∙ later shared ok (omega (arith, last)) (omega (arith, room, ap length front)) x real
      by_case true e later =
          let none : entry_of shared region ≡ 0 = iszero (entry_of shared region) e in
          let front : uncopied shared region (suc n) ≡ region ∷ uncopied shared (region + 1) n = uncopied-new shared region n (suc n) refl e in
          let one : slots_in_use shared < l.regions = omega (arith, room, ap length front) in
          let inside : region < all_regions l = omega (arith, last) in
          let next : Memory = with_copy l words program shared region in
          let same : uncopied next (region + 1) n ≡ uncopied shared (region + 1) n =
          uncopied-same shared next (region + 1) n (λ y low high. entry-other l few words program shared region inside one y (omega (arith, last)) (omega arith)) in
          let ahead : slots_in_use next + length (uncopied next (region + 1) n) ≤ l.regions = omega (arith, room, ap length front, ap length same, count-next l few words program shared region inside one) in
          ap (λ (regions : List ℕ). shadowed (with_copies l words program shared regions) program x) front
          ∙ ap (λ (regions : List ℕ). shadowed (with_copies l words program next regions) program x) (sym same)
          ∙ later next (consistent-next l few words program shared region inside one ok) (omega (arith, last)) ahead x real
          ∙ view-copied shared region ok inside none one x real

-- ---- bytes are set in copies

module _ (l : Layout) (few : l.regions ≤ 65536) (program : Memory) where
  -- two regions with one slot are one
  one-region : (shared : Memory) → AreConsistent l shared → (x y : ℕ) → x < all_regions l → y < all_regions l → 0 < entry_of shared x → entry_of shared x ≡ entry_of shared y → x ≡ y
  one-region shared ok x y hx hy some same =
      let ax : loaded shared (listed_address (entry_of shared x - 1)) 4 ≡ entry_address x = (ok.entry x hx some).1 in
      let ay : loaded shared (listed_address (entry_of shared y - 1)) 4 ≡ entry_address y = (ok.entry y hy (omega (arith, some, same))).1 in
      let e : loaded shared (listed_address (entry_of shared x - 1)) 4 ≡ loaded shared (listed_address (entry_of shared y - 1)) 4 = ap (λ (n : ℕ). loaded shared (listed_address (n - 1)) 4) same in
      omega (arith, ax, ay, e)

  -- one byte, whose region has a copy
  module _ (shared : Memory) (ok : AreConsistent l shared) (a byte : ℕ) (inside : a / 256 < all_regions l) (some : 0 < entry_of shared (a / 256)) where
    abbrev place : ℕ
    place = copy_place (entry_of shared (a / 256)) a

    abbrev next : Memory
    next = patched shared place 1 (λ i. byte)

    entry-kept : (region : ℕ) → region < all_regions l → entry_of next region ≡ entry_of shared region
    entry-kept region h = entry-above l few shared place 1 (λ i. byte) (omega arith) region h

    consistent-kept : AreConsistent l next
    consistent-kept = consistent-above l few shared place 1 (λ i. byte) (omega arith) ok

    -- another byte
    other : (x : ℕ) → x / 256 < all_regions l → (e : ℕ) → entry_of shared (x / 256) ≡ e → x ≢ a → byte_by_entry e next program x ≡ byte_by_entry e shared program x
    other x hx zero f d = refl
    other x hx (suc s) f d = patched-out shared place 1 (λ i. byte) (slot_address s + x % 256) (apart (slot_address s + x % 256) place away)
      where
        away : slot_address s + x % 256 ≢ place
        away g =
            let slots : s ≡ entry_of shared (a / 256) - 1 = omega (arith, g) in
            let offsets : x % 256 ≡ a % 256 = omega (arith, g) in
            let regions : x / 256 ≡ a / 256 = one-region shared ok (x / 256) (a / 256) hx inside (omega (arith, f)) (omega (arith, f, slots, some)) in
            d (omega (arith, offsets, regions))

    -- the byte itself
    itself : (e : ℕ) → entry_of shared (a / 256) ≡ e → byte_by_entry e next program a ≡ byte
    itself zero f = absurd (omega (arith, f, some))
    itself (suc s) f = patched-in shared place 1 (λ i. byte) (slot_address s + a % 256) 0 (omega (arith, f)) (omega arith)

    view-byte : (x : ℕ) → x / 256 < all_regions l → shadowed next program x ≡ patched (shadowed shared program) a 1 (λ i. byte) x
    unfolding shadowed
    view-byte x hx = ap (λ (n : ℕ). byte_by_entry n next program x) (entry-kept (x / 256) hx) ∙ by_test (x == a) refl
      where
        by_test : (b : Bool) → (x == a) ≡ b → byte_by_entry (entry_of shared (x / 256)) next program x ≡ patched (shadowed shared program) a 1 (λ i. byte) x
        by_test true e =
            let is : x ≡ a = grind (arith, nat_tests) in
            ap (λ (y : ℕ). byte_by_entry (entry_of shared (y / 256)) next program y) is ∙ itself (entry_of shared (a / 256)) refl ∙ sym (patched-in (shadowed shared program) a 1 (λ i. byte) x 0 (omega (arith, is)) (omega arith))
        by_test false e =
            let d : x ≢ a = grind (arith, nat_tests) in
            other x hx (entry_of shared (x / 256)) refl d ∙ sym (patched-out (shadowed shared program) a 1 (λ i. byte) x (apart x a d))

  -- all of them
  view-bytes : (bytes : List ℕ) (shared : Memory) (a : ℕ) → AreConsistent l shared → ((y : ℕ) → a ≤ y → y < a + length bytes → (y / 256 < all_regions l) × (0 < entry_of shared (y / 256)))
      → (x : ℕ) → x / 256 < all_regions l → shadowed (set_in_copies shared a bytes) program x ≡ written (shadowed shared program) a bytes x
  unfolding set_in_copies
  view-bytes [] shared a ok each x h = sym (written-none (shadowed shared program) a x)
  view-bytes (byte ∷ bytes) shared a ok each x h =
      let first : (a / 256 < all_regions l) × (0 < entry_of shared (a / 256)) = each a (omega arith) (omega arith) in
      let m : Memory = patched shared (copy_place (entry_of shared (a / 256)) a) 1 (λ i. byte) in
      view-bytes bytes m (a + 1) (consistent-kept shared ok a byte first.0 first.1)
      (λ y i j. let of : (y / 256 < all_regions l) × (0 < entry_of shared (y / 256)) = each y (omega arith) (omega arith) in (of.0, omega (arith, of.1, entry-kept shared ok a byte first.0 first.1 (y / 256) of.0))) x h
      ∙ written-more (shadowed shared program) (shadowed m program) a byte bytes x (view-byte shared ok a byte first.0 first.1 x h)

-- ---- in a memory of all parts

-- regions get copies, and then bytes are set in them
pub view-filled : (s t u : Space) (a : ℕ) (bytes : List ℕ) (first n : ℕ) → s.layout.regions ≤ 65536 → AreConsistent s.layout s.shared → first + n ≤ all_regions s.layout → slots_in_use s.shared + length (uncopied s.shared first n) ≤ s.layout.regions
    → t ≡ record s { shared = with_copies s.layout s.text s.program s.shared (uncopied s.shared first n) } → AreConsistent s.layout t.shared
    → ((y : ℕ) → a ≤ y → y < a + length bytes → (y / 256 < all_regions s.layout) × (0 < entry_of t.shared (y / 256)))
    → u ≡ record t { shared = set_in_copies t.shared a bytes } → ShadowedBut s a bytes u
view-filled s t u a bytes first n few ok last room made ok_made each set x real =
    let of : IsOfData s.layout x = of_data s.layout x real in
    let program : t.program ≡ s.program = ap (λ (w : Space). w.program) made in
    (λ i. shadowed (set i).shared (set i).program x) ∙ ap (λ (p : Memory). shadowed (set_in_copies t.shared a bytes) p x) program
    ∙ view-bytes s.layout few s.program bytes t.shared a ok_made each x of.inside
    ∙ written-alike (shadowed t.shared s.program) (shadowed s.shared s.program) a bytes x
    (ap (λ (w : Space). shadowed w.shared s.program x) made ∙ view-made s.layout few s.text s.program n first s.shared ok last room x of)
