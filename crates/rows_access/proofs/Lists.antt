-- The table and the list stay consistent while a region gets a copy: its word of the list, the count, its entry.
use Rattle.std.proofs.Common.{◌≡◌, ℕ, ◌+◌, ◌-◌, ◌<◌, ◌≤◌, Bool, true, false, ◌==◌, cond, refl, ◌∙◌, ap, arith}
use Rattle.std.proofs.lemmas.Bool.Decides.{nat_tests}
use Rattle.spec_base.specs.declared.layout.Layout.{Layout}
use Rattle.code_model.specs.Regions.{entry_address}
use Rattle.code_model.specs.Tables.{Tabs, TableOk, all_regions}
use Rattle.side_model.specs.Tables.{with_value}

-- a function with another value elsewhere
pub elsewhere : (n k v : ℕ) (f : ℕ → ℕ) → (k == n) ≡ false → with_value n v f k ≡ f k
elsewhere n k v f e = ap (λ (b : Bool). cond b v (f k)) e

-- and there
pub there : (n k v : ℕ) (f : ℕ → ℕ) → (k == n) ≡ true → with_value n v f k ≡ v
there n k v f e = ap (λ (b : Bool). cond b v (f k)) e

module _ (l : Layout) (t : Tabs) (ok : TableOk l t) where
  -- the word of a slot that isn't in use is written
  pub ok-listed : (v : ℕ) → TableOk l (record t { listed = with_value t.count v t.listed })
  ok-listed v =
      record {
        count = ok.count;
        listed = λ slot h.
            let e : (slot == t.count) ≡ false = grind (arith, nat_tests) in
            let w : (region : ℕ) × (region < all_regions l) × (t.listed slot ≡ entry_address region) = ok.listed slot h in (w.0, w.1, elsewhere t.count slot v t.listed e ∙ w.2);
        entry = λ region h some.
            let w : (t.entry region ≤ t.count) × (t.listed (t.entry region - 1) ≡ entry_address region) = ok.entry region h some in
            let e : (t.entry region - 1 == t.count) ≡ false = grind (arith, nat_tests, w.0, some) in (w.0, elsewhere t.count (t.entry region - 1) v t.listed e ∙ w.1);
      }

  -- the slot counts
  pub ok-count : (region : ℕ) → region < all_regions l → t.count < l.regions → t.listed t.count ≡ entry_address region → TableOk l (record t { count = t.count + 1 })
  ok-count region inside room named =
      record {
        count = omega (arith, room);
        listed = λ slot h. by_test slot h (slot == t.count) refl;
        entry = λ x h some. let w : (t.entry x ≤ t.count) × (t.listed (t.entry x - 1) ≡ entry_address x) = ok.entry x h some in (omega (arith, w.0), w.1);
      }
    where
      by_test : (slot : ℕ) → slot < t.count + 1 → (b : Bool) → (slot == t.count) ≡ b → (x : ℕ) × (x < all_regions l) × (t.listed slot ≡ entry_address x)
      by_test slot h true e = let k : slot ≡ t.count = grind (arith, nat_tests) in (region, inside, ap t.listed k ∙ named)
      by_test slot h false e = let k : slot < t.count = grind (arith, nat_tests) in ok.listed slot k

  -- the region has it
  pub ok-entry : (region : ℕ) → 0 < t.count → t.listed (t.count - 1) ≡ entry_address region → TableOk l (record t { entry = with_value region t.count t.entry })
  ok-entry region some named = record { count = ok.count; listed = ok.listed; entry = λ x h k. by_test x h (x == region) refl k }
    where
      by_test : (x : ℕ) → x < all_regions l → (b : Bool) → (x == region) ≡ b → 0 < with_value region t.count t.entry x
          → (with_value region t.count t.entry x ≤ t.count) × (t.listed (with_value region t.count t.entry x - 1) ≡ entry_address x)
      by_test x h true e k =
          let is : region ≡ x = grind (arith, nat_tests) in
          let v : with_value region t.count t.entry x ≡ t.count = there region x t.count t.entry e in
          (omega (arith, v), ap (λ (n : ℕ). t.listed (n - 1)) v ∙ named ∙ ap entry_address is)
      by_test x h false e k =
          let v : with_value region t.count t.entry x ≡ t.entry x = elsewhere region x t.count t.entry e in
          let w : (t.entry x ≤ t.count) × (t.listed (t.entry x - 1) ≡ entry_address x) = ok.entry x h (omega (arith, v, k)) in
          (omega (arith, v, w.0), ap (λ (n : ℕ). t.listed (n - 1)) v ∙ w.1)

-- two regions with one slot are one
pub one-region : (l : Layout) (t : Tabs) → TableOk l t → (x y : ℕ) → x < all_regions l → y < all_regions l → 0 < t.entry x → t.entry x ≡ t.entry y → x ≡ y
one-region l t ok x y hx hy some same =
    let ax : t.listed (t.entry x - 1) ≡ entry_address x = (ok.entry x hx some).1 in
    let ay : t.listed (t.entry y - 1) ≡ entry_address y = (ok.entry y hy (omega (arith, some, same))).1 in
    let e : t.listed (t.entry x - 1) ≡ t.listed (t.entry y - 1) = ap (λ (n : ℕ). t.listed (n - 1)) same in
    omega (arith, ax, ay, e)
