-- A region without a copy gets the next slot, and table and list stay consistent.
use Rattle.std.proofs.Common.{◌≡◌, ℕ, ◌+◌, ◌-◌, ◌*◌, ◌/◌, ◌<◌, ◌≤◌, Bool, true, false, ◌==◌, cond, List, [], ◌∷◌, refl, ◌∙◌, ap, arith}
use Rattle.std.proofs.lemmas.Bool.Decides.{nat_tests}
use Rattle.spec_base.specs.Layout.{list_start}
use Rattle.spec_base.specs.declared.layout.Layout.{Layout}
use Rattle.rv_model.specs.Memory.{Memory, patched, stored}
use Rattle.rv_model.specs.Space.{program_byte}
use Rattle.program_model.specs.Descriptors.{slot}
use Rattle.code_model.specs.Regions.{entry_address, entry_of, listed_address, slot_address, with_copy_at, copy_place, set_in_copies}
use Rattle.code_model.specs.Tables.{Tabs, TableOk, all_regions}
use Rattle.side_model.specs.Tables.{HasTabs, with_value}
use Rattle.side_model.proofs.Tabling.{HasTabs-above, HasTabs-entry, HasTabs-count, HasTabs-listed, all_regions-most}

-- ---- one region gets the next slot

module _ (l : Layout) (few : l.regions ≤ 65536) where
  -- the tables then
  abbrev pub slotted : Tabs → ℕ → Tabs
  slotted t region = record { entry = with_value region (t.count + 1) t.entry; count = t.count + 1; listed = with_value t.count (entry_address region) t.listed }

  pub ok-slotted : (t : Tabs) (region : ℕ) → TableOk l t → region < all_regions l → t.count < l.regions → TableOk l (slotted t region)
  ok-slotted t region ok inside room = record { count = omega (arith, room); listed = λ slot h. by_slot slot h (slot == t.count) refl; entry = λ x h some. by_region x h (x == region) refl some }
    where
      there : (n k v : ℕ) (f : ℕ → ℕ) → (k == n) ≡ true → with_value n v f k ≡ v
      there n k v f e = ap (λ (b : Bool). cond b v (f k)) e

      elsewhere : (n k v : ℕ) (f : ℕ → ℕ) → (k == n) ≡ false → with_value n v f k ≡ f k
      elsewhere n k v f e = ap (λ (b : Bool). cond b v (f k)) e

      by_slot : (slot : ℕ) → slot < t.count + 1 → (b : Bool) → (slot == t.count) ≡ b → (x : ℕ) × (x < all_regions l) × (with_value t.count (entry_address region) t.listed slot ≡ entry_address x)
      by_slot slot h true e = (region, inside, there t.count slot (entry_address region) t.listed e)
      by_slot slot h false e =
          let before : slot < t.count = grind (arith, nat_tests) in
          let w : (x : ℕ) × (x < all_regions l) × (t.listed slot ≡ entry_address x) = ok.listed slot before in (w.0, w.1, elsewhere t.count slot (entry_address region) t.listed e ∙ w.2)

      by_region : (x : ℕ) → x < all_regions l → (b : Bool) → (x == region) ≡ b → 0 < with_value region (t.count + 1) t.entry x
          → (with_value region (t.count + 1) t.entry x ≤ t.count + 1) × (with_value t.count (entry_address region) t.listed (with_value region (t.count + 1) t.entry x - 1) ≡ entry_address x)
      by_region x h true e some =
          let v : with_value region (t.count + 1) t.entry x ≡ t.count + 1 = there region x (t.count + 1) t.entry e in
          let is : region ≡ x = grind (arith, nat_tests) in
          let last : (with_value region (t.count + 1) t.entry x - 1 == t.count) ≡ true = grind (arith, nat_tests, v) in
          (omega (arith, v), there t.count (with_value region (t.count + 1) t.entry x - 1) (entry_address region) t.listed last ∙ ap entry_address is)
      by_region x h false e some =
          let v : with_value region (t.count + 1) t.entry x ≡ t.entry x = elsewhere region x (t.count + 1) t.entry e in
          let w : (t.entry x ≤ t.count) × (t.listed (t.entry x - 1) ≡ entry_address x) = ok.entry x h (omega (arith, v, some)) in
          let before : (with_value region (t.count + 1) t.entry x - 1 == t.count) ≡ false = grind (arith, nat_tests, v, w.0, some) in
          (omega (arith, v, w.0), elsewhere t.count (with_value region (t.count + 1) t.entry x - 1) (entry_address region) t.listed before ∙ ap (λ (n : ℕ). t.listed (n - 1)) v ∙ w.1)

  -- and the memory's
  pub has-slotted : (words : List ℕ) (program shared : Memory) (t : Tabs) (region : ℕ) → HasTabs l shared t → region < all_regions l → t.count < l.regions
      → HasTabs l (with_copy_at t.count l words program shared region) (slotted t region)
  has-slotted words program shared t region has inside room =
      let most : all_regions l ≤ 0x40_0000 = all_regions-most l in
      let m1 : Memory = patched shared (slot_address t.count) 256 (λ i. program_byte l words program (256 * region + i)) in
      let h1 : HasTabs l m1 t = HasTabs-above l few shared t has (slot_address t.count) 256 (λ i. program_byte l words program (256 * region + i)) (omega arith) in
      let t2 : Tabs = record t { listed = with_value t.count (entry_address region) t.listed } in
      let m2 : Memory = stored m1 (listed_address t.count) 4 (entry_address region) in
      let h2 : HasTabs l m2 t2 = HasTabs-listed l few m1 t h1 t.count (entry_address region) room (omega (arith, most, inside)) in
      let t3 : Tabs = record t2 { count = t.count + 1 } in
      let m3 : Memory = stored m2 list_start 8 (t.count + 1) in
      let h3 : HasTabs l m3 t3 = HasTabs-count l few m2 t2 h2 (t.count + 1) (omega (arith, room, few)) in
      HasTabs-entry l few m3 t3 h3 region (t.count + 1) inside (omega (arith, room, few))

  -- bytes that are set in copies leave the tables
  pub bytes-keep : (t : Tabs) (shared : Memory) (a : ℕ) (bytes : List ℕ) → HasTabs l shared t → HasTabs l (set_in_copies shared a bytes) t
  unfolding set_in_copies
  bytes-keep t shared a [] has = has
  bytes-keep t shared a (byte ∷ bytes) has =
      let place : ℕ = copy_place (entry_of shared (a / 256)) a in
      bytes-keep t (patched shared place 1 (λ i. byte)) (a + 1) bytes (HasTabs-above l few shared t has place 1 (λ i. byte) (omega arith))
