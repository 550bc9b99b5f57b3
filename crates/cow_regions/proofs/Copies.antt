-- A region without a copy gets the next slot, and table and list stay consistent.
use Rattle.std.proofs.Common.{◌≡◌, ◌≢◌, ℕ, ◌+◌, ◌-◌, ◌*◌, ◌^◌, ◌<◌, ◌≤◌, ◌⊎◌, inl, inr, Bool, true, false, ◌==◌, cond, List, refl, ◌∙◌, ap, sym, subst, arith}
use Rattle.std.proofs.lemmas.Bool.Decides.{nat_tests}
use Rattle.spec_base.specs.Word.{byte_of}
use Rattle.spec_base.specs.Layout.{table_start, list_start, copies_start}
use Rattle.spec_base.specs.declared.layout.Layout.{Layout}
use Rattle.rv_model.specs.Memory.{Memory, patched, stored, loaded}
use Rattle.rv_model.specs.Space.{program_byte}
use Rattle.rv_model.proofs.Loads.{loaded-below_patch, loaded-above_patch, loaded-in_patch, loaded-stored}
use Rattle.code_model.specs.Regions.{entry_address, entry_of, slots_in_use, listed_address, slot_address, with_copy}
use Rattle.code_model.specs.Tables.{AreConsistent, all_regions}
use Rattle.cow_regions.proofs.SharedNumbers.{regions-most}

-- ---- numbers of four bytes

four_bytes : (v : ℕ) → v < 2 ^ 32 → loaded (byte_of v) 0 4 ≡ v
unfolding loaded
four_bytes v h = omega arith

-- a number that was stored is loaded again
loaded-stored_4 : (m : Memory) (base v : ℕ) → v < 2 ^ 32 → loaded (stored m base 4 v) base 4 ≡ v
loaded-stored_4 m base v h = loaded-in_patch m base 4 (byte_of v) base 0 4 (omega arith) (omega arith) ∙ four_bytes v h

-- a number in a row of such numbers, behind a store of one of them
cells : (m : Memory) (row n k v : ℕ) → v < 2 ^ 32 → loaded (stored m (row + 4 * n) 4 v) (row + 4 * k) 4 ≡ cond (k == n) v (loaded m (row + 4 * k) 4)
cells m row n k v h = by_test (k == n) refl
  where
    apart : (k n : ℕ) → (k == n) ≡ false → (k < n) ⊎ (n < k)
    apart k n e = grind (arith, nat_tests)

    by_order : (k < n) ⊎ (n < k) → loaded (stored m (row + 4 * n) 4 v) (row + 4 * k) 4 ≡ loaded m (row + 4 * k) 4
    by_order (inl l) = loaded-below_patch m (row + 4 * n) 4 (byte_of v) (row + 4 * k) 4 (omega arith)
    by_order (inr l) = loaded-above_patch m (row + 4 * n) 4 (byte_of v) (row + 4 * k) 4 (omega arith)

    by_test : (b : Bool) → (k == n) ≡ b → loaded (stored m (row + 4 * n) 4 v) (row + 4 * k) 4 ≡ cond b v (loaded m (row + 4 * k) 4)
    by_test true e = let is : n ≡ k = grind (arith, nat_tests) in subst (λ (j : ℕ). loaded (stored m (row + 4 * n) 4 v) (row + 4 * j) 4 ≡ v) is (loaded-stored_4 m (row + 4 * n) v h)
    by_test false e = by_order (apart k n e)

there : (k n v f : ℕ) → (k == n) ≡ true → cond (k == n) v f ≡ v
there k n v f e = ap (λ (b : Bool). cond b v f) e

elsewhere : (k n v f : ℕ) → (k == n) ≡ false → cond (k == n) v f ≡ f
elsewhere k n v f e = ap (λ (b : Bool). cond b v f) e

-- ---- bytes of copies

module _ (l : Layout) (few : l.regions ≤ 65536) (shared : Memory) (base n : ℕ) (f : Memory) (above : copies_start ≤ base) where
  pub entry-above : (region : ℕ) → region < all_regions l → entry_of (patched shared base n f) region ≡ entry_of shared region
  entry-above region h = loaded-below_patch shared base n f (entry_address region) 4 (omega (arith, regions-most l, h))

  pub count-above : slots_in_use (patched shared base n f) ≡ slots_in_use shared
  count-above = loaded-below_patch shared base n f list_start 8 (omega arith)

  pub listed-above : (slot : ℕ) → slot < l.regions → loaded (patched shared base n f) (listed_address slot) 4 ≡ loaded shared (listed_address slot) 4
  listed-above slot h = loaded-below_patch shared base n f (listed_address slot) 4 (omega arith)

  -- table and list stay consistent where bytes of copies change
  pub consistent-above : AreConsistent l shared → AreConsistent l (patched shared base n f)
  consistent-above ok =
      record {
        count = omega (arith, count-above, ok.count);
        listed = λ slot h. (let w = ok.listed slot (omega (arith, count-above)) in (w.0, w.1, listed-above slot (omega (arith, count-above, ok.count)) ∙ w.2));
        entry = λ region h some.
            let same : entry_of (patched shared base n f) region ≡ entry_of shared region = entry-above region h in
            let w = ok.entry region h (omega (arith, same, some)) in
            (omega (arith, same, count-above, w.0), ap (λ (e : ℕ). loaded (patched shared base n f) (listed_address (e - 1)) 4) same ∙ listed-above (entry_of shared region - 1) (omega (arith, w.0, ok.count, same, some)) ∙ w.1);
      }

-- ---- a region gets the next slot

module _ (l : Layout) (few : l.regions ≤ 65536) (words : List ℕ) (program shared : Memory) (region : ℕ) (inside : region < all_regions l) (room : slots_in_use shared < l.regions) where
  slot : ℕ
  slot = slots_in_use shared

  abbrev m1 : Memory
  m1 = patched shared (slot_address (slots_in_use shared)) 256 (λ i. program_byte l words program (256 * region + i))

  abbrev m2 : Memory
  m2 = stored m1 (listed_address (slots_in_use shared)) 4 (entry_address region)

  abbrev m3 : Memory
  m3 = stored m2 list_start 8 (slots_in_use shared + 1)

  abbrev next : Memory
  next = with_copy l words program shared region

  most : all_regions l ≤ 0x40_0000
  most = regions-most l

  pub entry-next : (x : ℕ) → x < all_regions l → entry_of next x ≡ cond (x == region) (slots_in_use shared + 1) (entry_of shared x)
  entry-next x h =
      cells m3 table_start region x (slots_in_use shared + 1) (omega arith)
      ∙ ap (λ (e : ℕ). cond (x == region) (slots_in_use shared + 1) e)
      (loaded-below_patch m2 list_start 8 (byte_of (slots_in_use shared + 1)) (entry_address x) 4 (omega (arith, most))
      ∙ loaded-below_patch m1 (listed_address (slots_in_use shared)) 4 (byte_of (entry_address region)) (entry_address x) 4 (omega (arith, most))
      ∙ loaded-below_patch shared (slot_address (slots_in_use shared)) 256 (λ i. program_byte l words program (256 * region + i)) (entry_address x) 4 (omega (arith, most)))

  pub count-next : slots_in_use next ≡ slots_in_use shared + 1
  count-next = loaded-above_patch m3 (entry_address region) 4 (byte_of (slots_in_use shared + 1)) list_start 8 (omega (arith, most)) ∙ loaded-stored m2 list_start (slots_in_use shared + 1) (omega arith)

  listed-next : (i : ℕ) → i < l.regions → loaded next (listed_address i) 4 ≡ cond (i == slots_in_use shared) (entry_address region) (loaded shared (listed_address i) 4)
  listed-next i h =
      loaded-above_patch m3 (entry_address region) 4 (byte_of (slots_in_use shared + 1)) (listed_address i) 4 (omega (arith, most))
      ∙ loaded-above_patch m2 list_start 8 (byte_of (slots_in_use shared + 1)) (listed_address i) 4 (omega arith)
      ∙ cells m1 (list_start + 8) (slots_in_use shared) i (entry_address region) (omega (arith, most))
      ∙ ap (λ (e : ℕ). cond (i == slots_in_use shared) (entry_address region) e) (loaded-below_patch shared (slot_address (slots_in_use shared)) 256 (λ j. program_byte l words program (256 * region + j)) (listed_address i) 4 (omega arith))

  pub entry-new : entry_of next region ≡ slots_in_use shared + 1
  entry-new = entry-next region inside ∙ there region region (slots_in_use shared + 1) (entry_of shared region) (grind (arith, nat_tests))

  pub entry-other : (x : ℕ) → x < all_regions l → x ≢ region → entry_of next x ≡ entry_of shared x
  entry-other x h d = entry-next x h ∙ elsewhere x region (slots_in_use shared + 1) (entry_of shared x) (grind (arith, nat_tests))

  listed-last : loaded next (listed_address (slots_in_use shared)) 4 ≡ entry_address region
  listed-last = listed-next (slots_in_use shared) room ∙ there (slots_in_use shared) (slots_in_use shared) (entry_address region) (loaded shared (listed_address (slots_in_use shared)) 4) (grind (arith, nat_tests))

  listed-before : (i : ℕ) → i < slots_in_use shared → loaded next (listed_address i) 4 ≡ loaded shared (listed_address i) 4
  listed-before i h = listed-next i (omega (arith, room)) ∙ elsewhere i (slots_in_use shared) (entry_address region) (loaded shared (listed_address i) 4) (grind (arith, nat_tests))

  -- table and list stay consistent
  pub consistent-next : AreConsistent l shared → AreConsistent l next
  consistent-next ok =
      record {
        count = omega (arith, count-next, room);
        listed = λ i h. by_slot i (order i (omega (arith, count-next)));
        entry = λ x h some. by_region x h some (x == region) refl;
      }
    where
      order : (i : ℕ) → i < slots_in_use shared + 1 → (i < slots_in_use shared) ⊎ (i ≡ slots_in_use shared)
      order i h = split i (slots_in_use shared) h
        where
          split : (i n : ℕ) → i < n + 1 → (i < n) ⊎ (i ≡ n)
          split i n h = grind (arith, nat_tests)

      by_slot : (i : ℕ) → (i < slots_in_use shared) ⊎ (i ≡ slots_in_use shared) → (x : ℕ) × (x < all_regions l) × (loaded next (listed_address i) 4 ≡ entry_address x)
      by_slot i (inl h) = (let w = ok.listed i h in (w.0, w.1, listed-before i h ∙ w.2))
      by_slot i (inr e) = (region, inside, ap (λ (n : ℕ). loaded next (listed_address n) 4) e ∙ listed-last)

      by_region : (x : ℕ) → x < all_regions l → 0 < entry_of next x → (b : Bool) → (x == region) ≡ b → (entry_of next x ≤ slots_in_use next) × (loaded next (listed_address (entry_of next x - 1)) 4 ≡ entry_address x)
      by_region x h some true e =
          let is : region ≡ x = grind (arith, nat_tests) in
          let v : entry_of next x ≡ slots_in_use shared + 1 = ap (entry_of next) (sym is) ∙ entry-new in
          let last : entry_of next x - 1 ≡ slots_in_use shared = omega (arith, v) in
          (omega (arith, v, count-next), ap (λ (n : ℕ). loaded next (listed_address n) 4) last ∙ listed-last ∙ ap entry_address is)
      by_region x h some false e =
          let d : x ≢ region = grind (arith, nat_tests) in
          let v : entry_of next x ≡ entry_of shared x = entry-other x h d in
          let w = ok.entry x h (omega (arith, v, some)) in
          let before : entry_of shared x - 1 < slots_in_use shared = omega (arith, w.0, v, some) in
          (omega (arith, v, w.0, count-next), ap (λ (n : ℕ). loaded next (listed_address (n - 1)) 4) v ∙ listed-before (entry_of shared x - 1) before ∙ w.1)

-- ---- at the start
