-- Numbers in the shared parts: the shadow loads and stores each of them.
use Rattle.std.proofs.Common.{◌≡◌, ℕ, zero, suc, ◌+◌, ◌*◌, ◌/◌, ◌%◌, ◌^◌, ◌<◌, ◌≤◌, Bool, true, false, ◌&&◌, ◌||◌, ◌==◌, IsTrue, eq-eqb, List, Result, Ok, refl, ap, ◌∙◌, arith}
use Rattle.std.proofs.lemmas.Bool.Decides.{nat_tests}
use Rattle.spec_base.specs.Layout.{range_end, table_start, list_start}
use Rattle.spec_base.specs.declared.layout.Version.{Version}
use Rattle.spec_base.specs.declared.layout.Version.TheVariants as version
use Rattle.spec_base.specs.declared.layout.Layout.{Layout}
use Rattle.spec_base.specs.declared.machine.View.TheVariants.{Shadow}
use Rattle.rv_model.specs.Memory.{Memory, loaded, all_from}
use Rattle.rv_model.specs.Rights.{in_private, in_range, in_shared, rights_of}
use Rattle.rv_model.specs.Space.{sees, shadow_sees, program_byte}
use Rattle.hart_mem.specs.Access.{width_bytes}
use Rattle.hart_mem.specs.declared.access.Width.{Width}
use Rattle.hart_mem.specs.declared.access.Width.TheVariants.{One, Two, Four, Eight}
use Rattle.hart_mem.specs.Held.{Held, lacks_frame, load_answer, load_answer_if, store_answer, store_answer_if, space_of}
use Rattle.hart_mem.specs.declared.access.Access.{Access}
use Rattle.hart_mem.proofs.Numbers.{loaded_same}
use Rattle.rv_model.proofs.DataLemmas.{all_from-inside}
use Rattle.code_model.specs.Regions.{entry_address, listed_address, slot_address}
use Rattle.code_model.specs.Tables.{all_regions}
use Rattle.cow_regions.specs.Tables.{IsNumber}

-- ---- layouts

pub end-most : (v : Version) → range_end v ≤ 0x4000_0000
end-most version.One = omega arith
end-most version.Two = omega arith

pub regions-most : (l : Layout) → all_regions l ≤ 0x40_0000
regions-most l = (let most : range_end l.version ≤ 0x4000_0000 = end-most l.version in omega arith)

-- the table has an entry for each region
table-holds : (v : Version) → range_end v / 64 ≡ 4 * (range_end v / 256)
table-holds version.One = refl
table-holds version.Two = refl

-- ---- tests at n addresses

pub all_from-each : (test : ℕ → Bool) (n a : ℕ) → ((b : ℕ) → a ≤ b → b < a + n → IsTrue (test b)) → IsTrue (all_from test a n)
unfolding all_from
all_from-each test zero a h = refl
all_from-each test (suc n) a h = both (test a) (all_from test (a + 1) n) (h a (omega arith) (omega arith)) (all_from-each test n (a + 1) (λ b low high. h b (omega arith) (omega arith)))
  where
    both : (p q : Bool) → IsTrue p → IsTrue q → IsTrue (p && q)
    both p q x y = ap (λ (b : Bool). b && q) x ∙ y

-- ---- the shadow's rights

module _ (l : Layout) (a n : ℕ) (is : IsNumber l a n) (some : 1 ≤ n) where
  unprivate : (b : ℕ) → b < a + n → in_private b ≡ false
  unprivate b high = (let low : b < 0xFFFF_FFFF_FFFF_F800 = omega (arith, is.below) in grind (arith, nat_tests))

  unranged : (b : ℕ) → a ≤ b → in_range l b ≡ false
  unranged b low = (let above : 0x4200_0000 ≤ b = omega (arith, is.above) in let most : range_end l.version ≤ 0x4000_0000 = end-most l.version in grind (arith, nat_tests))

  loads-number : IsTrue (all_from (rights_of Shadow l).load a n)
  loads-number = all_from-each (rights_of Shadow l).load n a (λ b low high. right (in_private b) (in_shared l b) (in_range l b) (all_from-inside (in_shared l) n a is.inside b low high))
    where
      right : (p s r : Bool) → IsTrue s → IsTrue (p || (s || r))
      right true s r h = refl
      right false s r h = ap (λ (b : Bool). b || r) h

  stores-number : IsTrue (all_from (rights_of Shadow l).store a n)
  stores-number = all_from-each (rights_of Shadow l).store n a (λ b low high. right (in_private b) (in_shared l b) (all_from-inside (in_shared l) n a is.inside b low high))
    where
      right : (p s : Bool) → IsTrue s → IsTrue (p || s)
      right true s h = refl
      right false s h = h

  sees-number : (words : List ℕ) (program shared page : Memory) → loaded (shadow_sees l words program shared page) a n ≡ loaded shared a n
  sees-number words program shared page = loaded_same (shadow_sees l words program shared page) shared n a a (λ i h. seen (a + i) (omega arith) (omega (arith, h)))
    where
      seen_if : (p r : Bool) (x y z : ℕ) → p ≡ false → r ≡ false → elim p [ true ↦ x | false ↦ elim r [ true ↦ y | false ↦ z ] ] ≡ z
      seen_if p r x y z e f = rw (e, f) refl

      seen : (b : ℕ) → a ≤ b → b < a + n → shadow_sees l words program shared page b ≡ shared b
      seen b low high = seen_if (in_private b) (in_range l b) (page b) (program_byte l words program b) (shared b) (unprivate b high) (unranged b low)

-- ---- answers

pub load-ok : (t inside : Bool) (n : ℕ) → t ≡ true → inside ≡ true → load_answer_if t inside n ≡ Ok n
load-ok t inside n e f = rw (e, f) refl

store-ok : (t inside lacks : Bool) → t ≡ true → inside ≡ true → lacks ≡ false → store_answer_if t inside lacks ≡ Ok tt
store-ok t inside lacks e f g = rw (e, f, g) refl

module _ (h : Held) (a n : ℕ) (is : IsNumber (space_of h).layout a n) (some : 1 ≤ n) where
  pub number-loaded : load_answer Shadow (space_of h) a n ≡ Ok (loaded (space_of h).shared a n)
  number-loaded =
      load-ok (a % n == 0) (all_from (rights_of Shadow (space_of h).layout).load a n) (loaded (sees Shadow (space_of h)) a n) (eq-eqb (a % n) 0 is.aligned) (loads-number (space_of h).layout a n is some)
      ∙ ap (λ (x : ℕ). let ok : Result ℕ Access = Ok x in ok) (sees-number (space_of h).layout a n is some (space_of h).text (space_of h).program (space_of h).shared (space_of h).shadow_page)

  pub number-put : store_answer Shadow (space_of h) (lacks_frame Shadow h a) a n ≡ Ok tt
  unfolding lacks_frame
  number-put = store-ok (a % n == 0) (all_from (rights_of Shadow (space_of h).layout).store a n) (lacks_frame Shadow h a) (eq-eqb (a % n) 0 is.aligned) (stores-number (space_of h).layout a n is some) refl

-- ---- the numbers of table, list and copies

in-table : (l : Layout) (b : ℕ) → table_start ≤ b → b < table_start + range_end l.version / 64 → IsTrue (in_shared l b)
in-table l b low high = grind (arith, nat_tests)

in-list : (l : Layout) (b : ℕ) → list_start ≤ b → b < list_start + (8 + (4 * l.regions + 4) / 8 * 8) → IsTrue (in_shared l b)
in-list l b low high = grind (arith, nat_tests)

in-copies : (l : Layout) (b : ℕ) → 0x4500_0000 ≤ b → b < 0x4500_0000 + 256 * l.regions → IsTrue (in_shared l b)
in-copies l b low high = grind (arith, nat_tests)

pub entry-number : (l : Layout) (region : ℕ) → region < all_regions l → IsNumber l (entry_address region) 4
entry-number l region h =
    let most : all_regions l ≤ 0x40_0000 = regions-most l in
    let table : range_end l.version / 64 ≡ 4 * all_regions l = table-holds l.version in
    record {
      aligned = omega arith;
      inside = all_from-each (in_shared l) 4 (entry_address region) (λ b low high. in-table l b (omega arith) (omega (arith, table, h)));
      above = omega arith;
      below = omega (arith, most, h);
    }

pub count-number : (l : Layout) → IsNumber l list_start 8
count-number l =
    record {
      aligned = refl;
      inside = all_from-each (in_shared l) 8 list_start (λ b low high. in-list l b low (omega arith));
      above = omega arith;
      below = omega arith;
    }

pub listed-number : (l : Layout) (slot : ℕ) → l.regions ≤ 65536 → slot < l.regions → IsNumber l (listed_address slot) 4
listed-number l slot few h =
    record {
      aligned = omega arith;
      inside = all_from-each (in_shared l) 4 (listed_address slot) (λ b low high. in-list l b (omega arith) (omega arith));
      above = omega arith;
      below = omega arith;
    }

pub copy-number : (l : Layout) (slot i n : ℕ) → slot < 2 ^ 32 → slot < l.regions → i + n ≤ 256 → (slot_address slot + i) % n ≡ 0 → IsNumber l (slot_address slot + i) n
copy-number l slot i n small h k aligned =
    record {
      aligned = aligned;
      inside = all_from-each (in_shared l) n (slot_address slot + i) (λ b low high. in-copies l b (omega arith) (omega arith));
      above = omega arith;
      below = omega arith;
    }

-- ---- widths

pub width-some : (w : Width) → 1 ≤ width_bytes w
width-some One = omega arith
width-some Two = omega arith
width-some Four = omega arith
width-some Eight = omega arith
