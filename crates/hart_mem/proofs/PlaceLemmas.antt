-- Where the parts of a memory stand in its pages: apart from each other, and in order inside each.
use Rattle.std.proofs.Common.{◌≡◌, ℕ, ◌+◌, ◌-◌, ◌*◌, ◌/◌, ◌%◌, ◌<◌, ◌≤◌, true, false, IsTrue, nat_lt, ap, sym, ◌∙◌, arith, inl, inr}
use Rattle.std.proofs.lemmas.Bool.{cases_lt}
use Rattle.std.proofs.lemmas.Bool.Decides.{nat_tests}
use Rattle.spec_base.specs.Layout.{range_end}
use Rattle.spec_base.specs.declared.layout.Layout.{Layout}
use Rattle.rv_model.specs.Rights.{in_shared, list_bytes}
use Rattle.hart_mem.specs.Access.{IsWidth, one, two, four, eight}
use Rattle.hart_mem.specs.Places.{list_place, copies_place, shared_place}
use Rattle.hart_mem.proofs.Grains.{range_end-pages, table-pages, range_end-below, IsLawful}

-- an aligned access lies in 8 bytes that begin at a multiple of 8
pub in_eight : (a n : ℕ) → IsWidth n → a % n ≡ 0 → a % 8 + n ≤ 8
in_eight a _ one e = omega arith
in_eight a _ two e = omega arith
in_eight a _ four e = omega arith
in_eight a _ eight e = omega arith

pub width_some : (n : ℕ) → IsWidth n → 1 ≤ n
width_some _ one = omega arith
width_some _ two = omega arith
width_some _ four = omega arith
width_some _ eight = omega arith

pub width_few : (n : ℕ) → IsWidth n → n ≤ 8
width_few _ one = omega arith
width_few _ two = omega arith
width_few _ four = omega arith
width_few _ eight = omega arith

-- ---- which of the shared parts has an address, and its place

data Spot (l : Layout) (a : ℕ) : Type 0 where
  in_the_link : 0x4200_0000 ≤ a → a < 0x4200_2000 → shared_place l a ≡ range_end l.version + 0x1000 + (a - 0x4200_0000) → Spot l a
  in_the_table : 0x4300_0000 ≤ a → a < 0x4300_0000 + range_end l.version / 64 → shared_place l a ≡ range_end l.version + 0x3000 + (a - 0x4300_0000) → Spot l a
  in_the_list : 0x4400_0000 ≤ a → a < 0x4400_0000 + list_bytes l → shared_place l a ≡ list_place l + (a - 0x4400_0000) → Spot l a
  in_the_copies : 0x4500_0000 ≤ a → a < 0x4500_0000 + 256 * l.regions → shared_place l a ≡ copies_place l + (a - 0x4500_0000) → Spot l a

place_in_link : (l : Layout) (a : ℕ) → a < 0x4300_0000 → shared_place l a ≡ range_end l.version + 0x1000 + (a - 0x4200_0000)
unfolding shared_place
place_in_link l a h = grind (arith, nat_tests)

place_in_table : (l : Layout) (a : ℕ) → 0x4300_0000 ≤ a → a < 0x4400_0000 → shared_place l a ≡ range_end l.version + 0x3000 + (a - 0x4300_0000)
unfolding shared_place
place_in_table l a g h = grind (arith, nat_tests)

place_in_list : (l : Layout) (a : ℕ) → 0x4400_0000 ≤ a → a < 0x4500_0000 → shared_place l a ≡ list_place l + (a - 0x4400_0000)
unfolding shared_place
place_in_list l a g h = grind (arith, nat_tests)

place_in_copies : (l : Layout) (a : ℕ) → 0x4500_0000 ≤ a → shared_place l a ≡ copies_place l + (a - 0x4500_0000)
unfolding shared_place
place_in_copies l a g = grind (arith, nat_tests)

-- the parts end before the next begins
table_ends : (l : Layout) → range_end l.version / 64 ≤ 0x100_0000
table_ends l = omega (arith, range_end-below l.version)

module _ (l : Layout) (lawful : IsLawful l) where
  list_ends : list_bytes l ≤ 0x100_0000
  list_ends = omega (arith, lawful.few)

  copies_end : 256 * l.regions ≤ 0x100_0000
  copies_end = omega (arith, lawful.few)

  in_link_is : (a : ℕ) → a < 0x4300_0000 → IsTrue (in_shared l a) → (0x4200_0000 ≤ a) × (a < 0x4200_2000)
  in_link_is a h s = grind (arith, nat_tests)

  in_table_is : (a : ℕ) → 0x4300_0000 ≤ a → a < 0x4400_0000 → IsTrue (in_shared l a) → a < 0x4300_0000 + range_end l.version / 64
  in_table_is a g h s = grind (arith, nat_tests)

  in_list_is : (a : ℕ) → 0x4400_0000 ≤ a → a < 0x4500_0000 → IsTrue (in_shared l a) → a < 0x4400_0000 + list_bytes l
  in_list_is a g h s = grind (arith, nat_tests, table_ends l)

  in_copies_is : (a : ℕ) → 0x4500_0000 ≤ a → IsTrue (in_shared l a) → a < 0x4500_0000 + 256 * l.regions
  in_copies_is a g s = grind (arith, nat_tests, table_ends l, list_ends)

  spot : (a : ℕ) → IsTrue (in_shared l a) → Spot l a
  spot a s =
      elim (cases_lt a 0x4300_0000) [
        | inl h ↦ in_the_link (in_link_is a h s).0 (in_link_is a h s).1 (place_in_link l a h)
        | inr g ↦ elim (cases_lt a 0x4400_0000) [
          | inl h ↦ in_the_table g (in_table_is a g h s) (place_in_table l a g h)
          | inr k ↦ elim (cases_lt a 0x4500_0000) [
            | inl h ↦ in_the_list k (in_list_is a k h s) (place_in_list l a k h)
            | inr i ↦ in_the_copies i (in_copies_is a i s) (place_in_copies l a i)
          ]
        ]
      ]

  -- ---- the places of the shared parts

  shared_above-spot : (a : ℕ) → Spot l a → range_end l.version + 0x1000 ≤ shared_place l a
  shared_above-spot a (in_the_link low high is) = omega arith
  shared_above-spot a (in_the_table low high is) = omega arith
  shared_above-spot a (in_the_list low high is) = omega arith
  shared_above-spot a (in_the_copies low high is) = omega arith

  pub shared_above : (a : ℕ) → IsTrue (in_shared l a) → range_end l.version + 0x1000 ≤ shared_place l a
  shared_above a s = shared_above-spot a (spot a s)

  shared_below-spot : (a : ℕ) → Spot l a → shared_place l a < copies_place l + 256 * l.regions
  shared_below-spot a (in_the_link low high is) = omega arith
  shared_below-spot a (in_the_table low high is) = omega arith
  shared_below-spot a (in_the_list low high is) = omega arith
  shared_below-spot a (in_the_copies low high is) = omega arith

  pub shared_below : (a : ℕ) → IsTrue (in_shared l a) → shared_place l a < copies_place l + 256 * l.regions
  shared_below a s = shared_below-spot a (spot a s)

  shared_mod-spot : (a : ℕ) → Spot l a → shared_place l a % 8 ≡ a % 8
  shared_mod-spot a (in_the_link low high is) = omega (arith, range_end-pages l.version)
  shared_mod-spot a (in_the_table low high is) = omega (arith, range_end-pages l.version)
  shared_mod-spot a (in_the_list low high is) = omega (arith, range_end-pages l.version, table-pages l.version)
  shared_mod-spot a (in_the_copies low high is) = omega (arith, range_end-pages l.version, table-pages l.version)

  pub shared_mod : (a : ℕ) → IsTrue (in_shared l a) → shared_place l a % 8 ≡ a % 8
  shared_mod a s = shared_mod-spot a (spot a s)

  -- one after another inside 8 bytes
  shared_step-spot : (a i : ℕ) → a % 8 + i < 8 → Spot l a → shared_place l (a + i) ≡ shared_place l a + i
  shared_step-spot a i h (in_the_link low high is) = place_in_link l (a + i) (omega arith) ∙ omega arith
  shared_step-spot a i h (in_the_table low high is) = place_in_table l (a + i) (omega arith) (omega (arith, table_ends l)) ∙ omega arith
  shared_step-spot a i h (in_the_list low high is) = place_in_list l (a + i) (omega arith) (omega (arith, list_ends)) ∙ omega arith
  shared_step-spot a i h (in_the_copies low high is) = place_in_copies l (a + i) (omega arith) ∙ omega arith

  pub shared_step : (a i : ℕ) → a % 8 + i < 8 → IsTrue (in_shared l a) → shared_place l (a + i) ≡ shared_place l a + i
  shared_step a i h s = shared_step-spot a i h (spot a s)

-- the address of a place
unfoldable address_at : Layout → ℕ → ℕ
address_at l p =
    elim (nat_lt p (range_end l.version + 0x3000)) [
      | true ↦ p - (range_end l.version + 0x1000) + 0x4200_0000
      | false ↦
          elim (nat_lt p (list_place l)) [
            | true ↦ p - (range_end l.version + 0x3000) + 0x4300_0000
            | false ↦ elim (nat_lt p (copies_place l)) [ true ↦ p - list_place l + 0x4400_0000 | false ↦ p - copies_place l + 0x4500_0000 ]
          ]
    ]

module _ (l : Layout) (lawful : IsLawful l) where
  address_at-spot : (a i : ℕ) → a % 8 + i < 8 → Spot l a → address_at l (shared_place l a + i) ≡ a + i
  unfolding address_at
  address_at-spot a i h (in_the_link low high is) = grind (arith, nat_tests)
  address_at-spot a i h (in_the_table low high is) = grind (arith, nat_tests, table-pages l.version)
  address_at-spot a i h (in_the_list low high is) = grind (arith, nat_tests)
  address_at-spot a i h (in_the_copies low high is) = grind (arith, nat_tests)

  -- a place among the n from that of a on is that of the address as far from a
  pub shared_back : (a n b : ℕ) → a % 8 + n ≤ 8 → IsTrue (in_shared l a) → IsTrue (in_shared l b) → shared_place l a ≤ shared_place l b → shared_place l b < shared_place l a + n → b ≡ a + (shared_place l b - shared_place l a)
  shared_back a n b h s t low high =
      let i : ℕ = shared_place l b - shared_place l a in
      let here : address_at l (shared_place l a + i) ≡ a + i = address_at-spot a i (omega arith) (spot l lawful a s) in
      let there : address_at l (shared_place l b + 0) ≡ b + 0 = address_at-spot b 0 (omega arith) (spot l lawful b t) in
      let same : shared_place l a + i ≡ shared_place l b + 0 = omega arith in
      let e : a + i ≡ b + 0 = sym here ∙ ap (address_at l) same ∙ there in
      omega arith
