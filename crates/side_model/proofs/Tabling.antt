-- What a store to the shared memory does to the table and the list.
use Rattle.std.proofs.Common.{◌≡◌, ℕ, ◌+◌, ◌-◌, ◌*◌, ◌/◌, ◌^◌, ◌<◌, ◌≤◌, ◌⊎◌, inl, inr, Bool, true, false, ◌==◌, cond, refl, ◌∙◌, ap, subst, arith}
use Rattle.std.proofs.lemmas.Bool.Decides.{nat_tests}
use Rattle.spec_base.specs.Word.{byte_of}
use Rattle.spec_base.specs.Layout.{range_end, table_start, list_start, copies_start}
use Rattle.spec_base.specs.declared.layout.Version.{Version}
use Rattle.spec_base.specs.declared.layout.Version.TheVariants.{One, Two}
use Rattle.spec_base.specs.declared.layout.Layout.{Layout}
use Rattle.rv_model.specs.Memory.{Memory, patched, stored, loaded}
use Rattle.rv_model.proofs.Loads.{loaded-below_patch, loaded-above_patch, loaded-in_patch, loaded-stored}
use Rattle.code_model.specs.Regions.{entry_address, entry_of, listed_address}
use Rattle.code_model.specs.Tables.{Tabs, tabs_of, all_regions, TableOk, AreConsistent}
use Rattle.side_model.specs.Tables.{HasTabs, with_value}

-- the table ends where the list starts, or before
regions-most : (v : Version) → range_end v / 256 ≤ 0x40_0000
regions-most One = omega arith
regions-most Two = omega arith

pub all_regions-most : (l : Layout) → all_regions l ≤ 0x40_0000
all_regions-most l = regions-most l.version

-- four bytes of a number below 2^32 write it
four_bytes : (v : ℕ) → v < 2 ^ 32 → loaded (byte_of v) 0 4 ≡ v
unfolding loaded
four_bytes v h = omega arith

-- a number of four bytes that was stored is loaded again
pub loaded-stored_4 : (m : Memory) (base v : ℕ) → v < 2 ^ 32 → loaded (stored m base 4 v) base 4 ≡ v
loaded-stored_4 m base v h = loaded-in_patch m base 4 (byte_of v) base 0 4 (omega arith) (omega arith) ∙ four_bytes v h

-- a number of four bytes in a row of such numbers, behind a store of one of them
pub cells : (m : Memory) (row n k v : ℕ) → v < 2 ^ 32 → loaded (stored m (row + 4 * n) 4 v) (row + 4 * k) 4 ≡ cond (k == n) v (loaded m (row + 4 * k) 4)
cells m row n k v h = by_test (k == n) refl
  where
    apart : (k n : ℕ) → (k == n) ≡ false → (k < n) ⊎ (n < k)
    apart k n e = grind (arith, nat_tests)

    by_order : (k < n) ⊎ (n < k) → loaded (stored m (row + 4 * n) 4 v) (row + 4 * k) 4 ≡ loaded m (row + 4 * k) 4
    by_order (inl l) = loaded-below_patch m (row + 4 * n) 4 (byte_of v) (row + 4 * k) 4 (omega arith)
    by_order (inr l) = loaded-above_patch m (row + 4 * n) 4 (byte_of v) (row + 4 * k) 4 (omega arith)

    by_test : (b : Bool) → (k == n) ≡ b → loaded (stored m (row + 4 * n) 4 v) (row + 4 * k) 4 ≡ cond b v (loaded m (row + 4 * k) 4)
    by_test true e = let is : n ≡ k = grind (arith, nat_tests) in subst (λ (j : ℕ). loaded (stored m (row + 4 * n) 4 v) (row + 4 * j) 4 ≡ v) is (loaded-stored_4 m (row + 4 * n) v h)
    by_test false e = by_order (apart k n e)

module _ (l : Layout) (few : l.regions ≤ 65536) (m : Memory) (t : Tabs) (h : HasTabs l m t) where
  -- a change below the table
  pub HasTabs-below : (a n : ℕ) (f : Memory) → a + n ≤ table_start → HasTabs l (patched m a n f) t
  HasTabs-below a n f k =
      record {
        entry = λ x g. loaded-above_patch m a n f (entry_address x) 4 (omega arith) ∙ h.entry x g;
        count = loaded-above_patch m a n f list_start 8 (omega arith) ∙ h.count;
        listed = λ i g. loaded-above_patch m a n f (listed_address i) 4 (omega arith) ∙ h.listed i g;
      }

  -- a change above the list
  pub HasTabs-above : (a n : ℕ) (f : Memory) → copies_start ≤ a → HasTabs l (patched m a n f) t
  HasTabs-above a n f k =
      record {
        entry = λ x g. loaded-below_patch m a n f (entry_address x) 4 (omega (arith, all_regions-most l)) ∙ h.entry x g;
        count = loaded-below_patch m a n f list_start 8 (omega arith) ∙ h.count;
        listed = λ i g. loaded-below_patch m a n f (listed_address i) 4 (omega arith) ∙ h.listed i g;
      }

  -- a store of an entry
  pub HasTabs-entry : (x v : ℕ) → x < all_regions l → v < 2 ^ 32 → HasTabs l (stored m (entry_address x) 4 v) (record t { entry = with_value x v t.entry })
  HasTabs-entry x v g small =
      record {
        entry = λ y k. cells m table_start x y v small ∙ ap (λ (z : ℕ). cond (y == x) v z) (h.entry y k);
        count = loaded-above_patch m (entry_address x) 4 (byte_of v) list_start 8 (omega (arith, all_regions-most l)) ∙ h.count;
        listed = λ i k. loaded-above_patch m (entry_address x) 4 (byte_of v) (listed_address i) 4 (omega (arith, all_regions-most l)) ∙ h.listed i k;
      }

  -- a store of the count
  pub HasTabs-count : (v : ℕ) → v < 2 ^ 64 → HasTabs l (stored m list_start 8 v) (record t { count = v })
  HasTabs-count v small =
      record {
        entry = λ y k. loaded-below_patch m list_start 8 (byte_of v) (entry_address y) 4 (omega (arith, all_regions-most l)) ∙ h.entry y k;
        count = loaded-stored m list_start v small;
        listed = λ i k. loaded-above_patch m list_start 8 (byte_of v) (listed_address i) 4 (omega arith) ∙ h.listed i k;
      }

  -- a store of a word of the list
  pub HasTabs-listed : (i v : ℕ) → i < l.regions → v < 2 ^ 32 → HasTabs l (stored m (listed_address i) 4 v) (record t { listed = with_value i v t.listed })
  HasTabs-listed i v g small =
      record {
        entry = λ y k. loaded-below_patch m (listed_address i) 4 (byte_of v) (entry_address y) 4 (omega (arith, all_regions-most l)) ∙ h.entry y k;
        count = loaded-below_patch m (listed_address i) 4 (byte_of v) list_start 8 (omega arith) ∙ h.count;
        listed = λ j k. cells m (list_start + 8) i j v small ∙ ap (λ (z : ℕ). cond (j == i) v z) (h.listed j k);
      }

-- a shared memory has its own table and list
pub HasTabs-of : (l : Layout) (m : Memory) → HasTabs l m (tabs_of m)
HasTabs-of l m = record { entry = λ x k. refl; count = refl; listed = λ i k. refl }

-- they are consistent where a row's are
pub are-consistent : {l : Layout} {m : Memory} {t : Tabs} → HasTabs l m t → TableOk l t → AreConsistent l m
are-consistent {l} {m} {t} has ok =
    record {
      count = omega (arith, has.count, ok.count);
      listed = λ slot low.
          let of = ok.listed slot (omega (arith, has.count)) in
          (of.0, of.1, has.listed slot (omega (arith, has.count, ok.count)) ∙ of.2);
      entry = λ region low some.
          let e : entry_of m region ≡ t.entry region = has.entry region low in
          let of = ok.entry region low (omega (arith, e)) in
          let few : t.entry region - 1 < l.regions = omega (arith, of.0, ok.count, e) in
          (omega (arith, of.0, e, has.count), ap (λ n. loaded m (listed_address (n - 1)) 4) e ∙ has.listed (t.entry region - 1) few ∙ of.1);
    }
