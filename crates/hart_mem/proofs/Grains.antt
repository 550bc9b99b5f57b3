-- The parts of a memory begin and end at multiples of 4, so that an aligned access is decided by its first and its last byte.
use Rattle.std.proofs.Common.{Option, Some, None, ◌≡◌, ℕ, ◌+◌, ◌-◌, ◌*◌, ◌/◌, ◌%◌, ◌<◌, ◌≤◌, Bool, true, false, not, ◌&&◌, ◌||◌, IsTrue, nat_le, nat_lt, refl, ap, arith, sym, ◌∙◌}
use Rattle.std.proofs.lemmas.Bool.Decides.{nat_tests}
use Rattle.spec_base.specs.Layout.{range_end, image_limit, is_lawful}
use Rattle.spec_base.specs.declared.layout.Version.{Version}
use Rattle.spec_base.specs.declared.layout.Version.TheVariants.{One, Two}
use Rattle.spec_base.specs.declared.layout.Layout.{Layout}
use Rattle.spec_base.specs.declared.machine.View.{View}
use Rattle.spec_base.specs.declared.machine.View.TheVariants.{Plain, Program, Stub, Shadow}
use Rattle.rv_model.specs.Memory.{is_within, all_from}
use Rattle.rv_model.specs.Rights.{in_range, in_text, is_data, in_private, in_link, in_shared, list_bytes, rights_of}
use Rattle.hart_mem.specs.Places.{found}
use Rattle.hart_mem.specs.Access.{IsWidth, one, two, four, eight}

-- ---- layouts

pub range_end-pages : (v : Version) → range_end v % 4096 ≡ 0
range_end-pages One = refl
range_end-pages Two = refl

pub table-pages : (v : Version) → range_end v / 64 % 4096 ≡ 0
table-pages One = refl
table-pages Two = refl

pub range_end-below : (v : Version) → range_end v ≤ 0x4000_0000
range_end-below One = omega arith
range_end-below Two = omega arith

pub limit-below : (v : Version) → image_limit v ≤ range_end v
limit-below One = omega arith
limit-below Two = omega arith

-- what a lawful layout says
pub record IsLawful (l : Layout) : Type 0 where
  pub start : l.text_start % 4 ≡ 0
  pub end : l.text_end % 4 ≡ 0
  pub above : 0x1000 ≤ l.text_start
  pub some : l.text_start < l.text_end
  pub below : l.text_end ≤ range_end l.version
  pub few : l.regions ≤ 65536

pub lawful_is : (l : Layout) → IsTrue (is_lawful l) → IsLawful l
lawful_is l h =
    record {
      start = grind (arith, nat_tests);
      end = grind (arith, nat_tests);
      above = grind (arith, nat_tests);
      some = grind (arith, nat_tests);
      below = grind (arith, nat_tests, limit-below l.version);
      few = grind (arith, nat_tests);
    }

-- ---- tests that hold at all four addresses of a word, or at none

module _ (a b : ℕ) (word : a / 4 ≡ b / 4) where
  le_grain : (base : ℕ) → base % 4 ≡ 0 → nat_le base a ≡ nat_le base b
  le_grain base e = grind (arith, nat_tests)

  lt_grain : (end : ℕ) → end % 4 ≡ 0 → nat_lt a end ≡ nat_lt b end
  lt_grain end e = grind (arith, nat_tests)

  both : (p q p' q' : Bool) → p ≡ p' → q ≡ q' → (p && q) ≡ (p' && q')
  both p q p' q' e f = cc

  either : (p q p' q' : Bool) → p ≡ p' → q ≡ q' → (p || q) ≡ (p' || q')
  either p q p' q' e f = cc

  within_grain : (base n : ℕ) → base % 4 ≡ 0 → n % 4 ≡ 0 → is_within base n a ≡ is_within base n b
  within_grain base n e f = both _ _ _ _ (le_grain base e) (lt_grain (base + n) (omega arith))

  module _ (l : Layout) (lawful : IsTrue (is_lawful l)) where
    range_grain : in_range l a ≡ in_range l b
    range_grain = both _ _ _ _ (le_grain 0x1000 refl) (lt_grain (range_end l.version) (omega (arith, range_end-pages l.version)))

    text_grain : in_text l a ≡ in_text l b
    text_grain = both _ _ _ _ (le_grain l.text_start (lawful_is l lawful).start) (lt_grain l.text_end (lawful_is l lawful).end)

    data_grain : is_data l a ≡ is_data l b
    data_grain = both _ _ _ _ range_grain (ap not text_grain)

    private_grain : in_private a ≡ in_private b
    private_grain = within_grain 0xFFFF_FFFF_FFFF_F800 2048 refl refl

    link_grain : in_link a ≡ in_link b
    link_grain = within_grain 0x4200_0000 0x2000 refl refl

    shared_grain : in_shared l a ≡ in_shared l b
    shared_grain =
        either _ _ _ _ link_grain (
        either _ _ _ _ (within_grain 0x4300_0000 (range_end l.version / 64) refl (omega (arith, table-pages l.version))) (
        either _ _ _ _ (within_grain 0x4400_0000 (list_bytes l) refl (omega arith)) (within_grain 0x4500_0000 (256 * l.regions) refl (omega arith))))

    load_grain : (v : View) → (rights_of v l).load a ≡ (rights_of v l).load b
    load_grain Plain = data_grain
    load_grain Program = data_grain
    load_grain Stub = either _ _ _ _ private_grain link_grain
    load_grain Shadow = either _ _ _ _ private_grain (either _ _ _ _ shared_grain range_grain)

    store_grain : (v : View) → (rights_of v l).store a ≡ (rights_of v l).store b
    store_grain Plain = data_grain
    store_grain Program = data_grain
    store_grain Stub = either _ _ _ _ private_grain link_grain
    store_grain Shadow = either _ _ _ _ private_grain shared_grain

-- ---- aligned accesses

two_same_once : (x : Bool) → (x && x) ≡ x
two_same_once true = refl
two_same_once false = refl

two_same : (x : Bool) → (x && (x && true)) ≡ (x && x)
two_same true = refl
two_same false = refl

four_same : (x : Bool) → (x && (x && (x && (x && true)))) ≡ (x && x)
four_same true = refl
four_same false = refl

eight_same : (x y : Bool) → (x && (x && (x && (x && (y && (y && (y && (y && true)))))))) ≡ (x && y)
eight_same true true = refl
eight_same true false = refl
eight_same false y = refl

module _ (test : ℕ → Bool) (same : (a b : ℕ) → a / 4 ≡ b / 4 → test a ≡ test b) where
  pub all_from-width : (a n : ℕ) → IsWidth n → a % n ≡ 0 → all_from test a n ≡ (test a && test (a + (n - 1)))
  unfolding all_from
  all_from-width a _ one e = rw (same (a + 0) a (omega arith)) (let t : Bool = test a in elim (test a) as (λ x. (x && true) ≡ (x && x)) [ true ↦ refl | false ↦ refl ])
  all_from-width a _ two e = rw (same (a + 1) a (omega arith)) (two_same (test a))
  all_from-width a _ four e =
      rw (same (a + 1) a (omega arith), same (a + 1 + 1) a (omega arith), same (a + 1 + 1 + 1) a (omega arith), same (a + 3) a (omega arith)) (four_same (test a))
  all_from-width a _ eight e =
      rw (same (a + 1) a (omega arith), same (a + 1 + 1) a (omega arith), same (a + 1 + 1 + 1) a (omega arith), same (a + 1 + 1 + 1 + 1) (a + 7) (omega arith), same (a + 1 + 1 + 1 + 1 + 1) (a + 7) (omega arith), same (a + 1 + 1 + 1 + 1 + 1 + 1) (a + 7) (omega arith), same (a + 1 + 1 + 1 + 1 + 1 + 1 + 1) (a + 7) (omega arith)) (eight_same (test a) (test (a + 7)))

pub loads_all : (v : View) (l : Layout) → IsTrue (is_lawful l) → (a n : ℕ) → IsWidth n → a % n ≡ 0 → all_from (rights_of v l).load a n ≡ ((rights_of v l).load a && (rights_of v l).load (a + (n - 1)))
loads_all v l lawful = all_from-width (rights_of v l).load (λ a b e. load_grain a b e l lawful v)

pub stores_all : (v : View) (l : Layout) → IsTrue (is_lawful l) → (a n : ℕ) → IsWidth n → a % n ≡ 0 → all_from (rights_of v l).store a n ≡ ((rights_of v l).store a && (rights_of v l).store (a + (n - 1)))
stores_all v l lawful = all_from-width (rights_of v l).store (λ a b e. store_grain a b e l lawful v)

-- the data from an address on that is aligned: the range ends at a multiple of the width
pub data_outside : (l : Layout) → IsTrue (is_lawful l) → (a n : ℕ) → IsWidth n → a % n ≡ 0 → in_range l a ≡ false → all_from (is_data l) a n ≡ false
data_outside l lawful a n w e out = loads_all Plain l lawful a n w e ∙ (let o : is_data l a ≡ false = cc in cc)

in_range_last : (l : Layout) (a n : ℕ) → IsWidth n → a % n ≡ 0 → in_range l a ≡ true → in_range l (a + (n - 1)) ≡ true
in_range_last l a _ one e h = grind (arith, nat_tests)
in_range_last l a _ two e h = grind (arith, nat_tests, range_end-pages l.version)
in_range_last l a _ four e h = grind (arith, nat_tests, range_end-pages l.version)
in_range_last l a _ eight e h = grind (arith, nat_tests, range_end-pages l.version)

module _ (l : Layout) (lawful : IsLawful l) where
  text_apart : (a n : ℕ) → IsWidth n → a % n ≡ 0 → (nat_lt (a + (n - 1)) l.text_start || nat_le l.text_end a) ≡ (not (in_text l a) && not (in_text l (a + (n - 1))))
  text_apart a _ one e = grind (arith, nat_tests, lawful.start, lawful.end, lawful.some)
  text_apart a _ two e = grind (arith, nat_tests, lawful.start, lawful.end, lawful.some)
  text_apart a _ four e = grind (arith, nat_tests, lawful.start, lawful.end, lawful.some)
  text_apart a _ eight e = grind (arith, nat_tests, lawful.start, lawful.end, lawful.some)

pub data_inside : (l : Layout) → IsTrue (is_lawful l) → (a n : ℕ) → IsWidth n → a % n ≡ 0 → in_range l a ≡ true → (nat_lt (a + (n - 1)) l.text_start || nat_le l.text_end a) ≡ all_from (is_data l) a n
data_inside l lawful a n w e inside = text_apart l (lawful_is l lawful) a n w e ∙ (let last : in_range l (a + (n - 1)) ≡ true = in_range_last l a n w e inside in cc) ∙ sym (loads_all Plain l lawful a n w e)

-- ---- the parts of the stub and of the shadow begin and end at multiples of 8

module _ (a b : ℕ) (grain : a / 8 ≡ b / 8) where
  le_eight : (base : ℕ) → base % 8 ≡ 0 → nat_le base a ≡ nat_le base b
  le_eight base e = grind (arith, nat_tests)

  lt_eight : (end : ℕ) → end % 8 ≡ 0 → nat_lt a end ≡ nat_lt b end
  lt_eight end e = grind (arith, nat_tests)

  both_eight : (p q p' q' : Bool) → p ≡ p' → q ≡ q' → (p && q) ≡ (p' && q')
  both_eight p q p' q' e f = cc

  either_eight : (p q p' q' : Bool) → p ≡ p' → q ≡ q' → (p || q) ≡ (p' || q')
  either_eight p q p' q' e f = cc

  within_eight : (base n : ℕ) → base % 8 ≡ 0 → n % 8 ≡ 0 → is_within base n a ≡ is_within base n b
  within_eight base n e f = both_eight _ _ _ _ (le_eight base e) (lt_eight (base + n) (omega arith))

  private_eight : in_private a ≡ in_private b
  private_eight = within_eight 0xFFFF_FFFF_FFFF_F800 2048 refl refl

  link_eight : in_link a ≡ in_link b
  link_eight = within_eight 0x4200_0000 0x2000 refl refl

  shared_eight : (l : Layout) → in_shared l a ≡ in_shared l b
  shared_eight l =
      either_eight _ _ _ _ link_eight (
      either_eight _ _ _ _ (within_eight 0x4300_0000 (range_end l.version / 64) refl (omega (arith, table-pages l.version))) (
      either_eight _ _ _ _ (within_eight 0x4400_0000 (list_bytes l) refl (omega arith)) (within_eight 0x4500_0000 (256 * l.regions) refl (omega arith))))

  stub_eight : (in_private a || in_link a) ≡ (in_private b || in_link b)
  stub_eight = either_eight _ _ _ _ private_eight link_eight

  shadow_store_eight : (l : Layout) → (rights_of Shadow l).store a ≡ (rights_of Shadow l).store b
  shadow_store_eight l = either_eight _ _ _ _ private_eight (shared_eight l)

  shadow_load_eight : (l : Layout) → (rights_of Shadow l).load a ≡ (rights_of Shadow l).load b
  shadow_load_eight l =
      either_eight _ _ _ _ private_eight (
      either_eight _ _ _ _ (shared_eight l) (both_eight _ _ _ _ (le_eight 0x1000 refl) (lt_eight (range_end l.version) (omega (arith, range_end-pages l.version)))))

last_eight : (a n : ℕ) → IsWidth n → a % n ≡ 0 → a / 8 ≡ (a + (n - 1)) / 8
last_eight a _ one e = omega arith
last_eight a _ two e = omega arith
last_eight a _ four e = omega arith
last_eight a _ eight e = omega arith

module _ (l : Layout) (lawful : IsTrue (is_lawful l)) (a n : ℕ) (w : IsWidth n) (e : a % n ≡ 0) where
  pub stub_loads_all : all_from (rights_of Stub l).load a n ≡ (rights_of Stub l).load a
  stub_loads_all =
      let last : (rights_of Stub l).load a ≡ (rights_of Stub l).load (a + (n - 1)) = stub_eight a (a + (n - 1)) (last_eight a n w e) in
      loads_all Stub l lawful a n w e ∙ rw (← last) (two_same_once ((rights_of Stub l).load a))

  pub shadow_loads_all : all_from (rights_of Shadow l).load a n ≡ (rights_of Shadow l).load a
  shadow_loads_all =
      let last : (rights_of Shadow l).load a ≡ (rights_of Shadow l).load (a + (n - 1)) = shadow_load_eight a (a + (n - 1)) (last_eight a n w e) l in
      loads_all Shadow l lawful a n w e ∙ rw (← last) (two_same_once ((rights_of Shadow l).load a))

  pub shadow_stores_all : all_from (rights_of Shadow l).store a n ≡ (rights_of Shadow l).store a
  shadow_stores_all =
      let last : (rights_of Shadow l).store a ≡ (rights_of Shadow l).store (a + (n - 1)) = shadow_store_eight a (a + (n - 1)) (last_eight a n w e) l in
      stores_all Shadow l lawful a n w e ∙ rw (← last) (two_same_once ((rights_of Shadow l).store a))

-- ---- a place that is found

pub found-some : (t : Bool) (p q : ℕ) → Some q ≡ found t p → (t ≡ true) × (q ≡ p)
found-some true p q e = (refl, grind arith)
found-some false p q e = absurd (grind arith)

pub found-none : (t : Bool) (p : ℕ) → (let none : Option ℕ = None in none) ≡ found t p → t ≡ false
found-none true p e = absurd (grind arith)
found-none false p e = refl
