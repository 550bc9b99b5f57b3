-- Bytes of the program range: the shadow loads each of them, and a copy is made of them one after another.
use Rattle.std.proofs.Common.{pow-add, ◌≡◌, ℕ, zero, suc, ◌^◌, ◌+◌, ◌-◌, ◌*◌, ◌/◌, ◌%◌, ◌<◌, ◌≤◌, Bool, true, false, ◌||◌, ◌==◌, IsTrue, eq-eqb, List, Ok, refl, ap, sym, subst, ◌∙◌, arith}
use Rattle.std.proofs.lemmas.Bool.Decides.{nat_tests}
use Rattle.std.proofs.Math.Nat.{div-div-eq-div-mul}
use Rattle.std.proofs.Math.Path.{fun_ext}
use Rattle.spec_base.specs.Word.{byte_of}
use Rattle.spec_base.specs.Layout.{is_lawful, range_end}
use Rattle.spec_base.specs.declared.layout.Version.{Version}
use Rattle.spec_base.specs.declared.layout.Version.TheVariants.{One, Two}
use Rattle.spec_base.specs.declared.layout.Layout.{Layout}
use Rattle.spec_base.specs.declared.machine.View.TheVariants.{Shadow}
use Rattle.rv_model.specs.Memory.{Memory, loaded, patched, stored, all_from}
use Rattle.rv_model.specs.Rights.{in_private, in_range, in_shared, is_data, rights_of}
use Rattle.rv_model.specs.Space.{Space, sees, shadow_sees, program_byte}
use Rattle.hart_mem.specs.Held.{Held, load_answer, space_of}
use Rattle.hart_mem.proofs.Grains.{IsLawful, lawful_is}
use Rattle.rv_model.proofs.DataLemmas.{all_from-inside}
use Rattle.code_model.specs.Regions.{slot_address}
use Rattle.code_model.specs.Tables.{all_regions}
use Rattle.cow_regions.proofs.SharedNumbers.{all_from-each, end-most, load-ok, regions-most}

-- ---- the bytes of a number

first-byte : (x y : ℕ) → x < 256 → byte_of (x + 256 * y) 0 ≡ x
first-byte x y h = omega arith

next-byte : (x y i : ℕ) → x < 256 → byte_of (x + 256 * y) (suc i) ≡ byte_of y i
next-byte x y i h =
    ap (λ (p : ℕ). (x + 256 * y) / p % 256) power ∙ ap (λ (v : ℕ). v % 256) (sym (div-div-eq-div-mul (x + 256 * y) 256 (2 ^ (8 * i)))) ∙ ap (λ (v : ℕ). v / 2 ^ (8 * i) % 256) rest
  where
    split : 8 * suc i ≡ 8 + 8 * i
    split = omega arith

    power : 2 ^ (8 * suc i) ≡ 256 * 2 ^ (8 * i)
    power = ap (λ (n : ℕ). 2 ^ n) split ∙ pow-add 2 8 (8 * i)

    rest : (x + 256 * y) / 256 ≡ y
    rest = omega arith

-- the bytes of a number that was loaded are those from which it was
loaded-byte : (f : Memory) (n a i : ℕ) → ((j : ℕ) → j < n → f (a + j) < 256) → i < n → byte_of (loaded f a n) i ≡ f (a + i)
unfolding loaded
loaded-byte f zero a i small h = absurd (omega arith)
loaded-byte f (suc n) a i small h = by_place i h (small 0 (omega arith)) (λ j k. loaded-byte f n (a + 1) j (λ x l. rest x l (small (x + 1) (omega arith))) k)
  where
    rest : (x : ℕ) → x < n → f (a + (x + 1)) < 256 → f (a + 1 + x) < 256
    rest x l s = (let at : a + (x + 1) ≡ a + 1 + x = omega arith in subst (λ (p : ℕ). f p < 256) at s)

    first : f (a + 0) < 256 → f a < 256
    first s = (let at : a + 0 ≡ a = omega arith in subst (λ (p : ℕ). f p < 256) at s)

    by_place : (i : ℕ) → i < suc n → f (a + 0) < 256 → ((j : ℕ) → j < n → byte_of (loaded f (a + 1) n) j ≡ f (a + 1 + j)) → byte_of (f a + 256 * loaded f (a + 1) n) i ≡ f (a + i)
    by_place zero h s more = first-byte (f a) (loaded f (a + 1) n) (first s) ∙ ap f (omega arith)
    by_place (suc i) h s more = next-byte (f a) (loaded f (a + 1) n) i (first s) ∙ more i (omega arith) ∙ ap f (omega arith)

-- ---- loads

module _ (l : Layout) (a n : ℕ) (inside : IsTrue (all_from (in_range l) a n)) where
  unprivate : (b : ℕ) → IsTrue (in_range l b) → in_private b ≡ false
  unprivate b h = (let most : range_end l.version ≤ 0x4000_0000 = end-most l.version in grind (arith, nat_tests))

  loads-range : IsTrue (all_from (rights_of Shadow l).load a n)
  loads-range = all_from-each (rights_of Shadow l).load n a (λ b above below. right (in_private b) (in_shared l b) (in_range l b) (all_from-inside (in_range l) n a inside b above below))
    where
      right : (p s r : Bool) → IsTrue r → IsTrue (p || (s || r))
      right true s r h = refl
      right false true r h = refl
      right false false r h = h

  sees-range : (words : List ℕ) (program shared page : Memory) (b : ℕ) → a ≤ b → b < a + n → shadow_sees l words program shared page b ≡ program_byte l words program b
  sees-range words program shared page b above below =
      let here : IsTrue (in_range l b) = all_from-inside (in_range l) n a inside b above below in
      seen_if (in_private b) (in_range l b) (page b) (program_byte l words program b) (shared b) (unprivate b here) here
    where
      seen_if : (p r : Bool) (x y z : ℕ) → p ≡ false → r ≡ true → elim p [ true ↦ x | false ↦ elim r [ true ↦ y | false ↦ z ] ] ≡ y
      seen_if p r x y z e f = rw (e, f) refl

module _ (h : Held) (a n : ℕ) (inside : IsTrue (all_from (in_range (space_of h).layout) a n)) where
  pub range-loaded : a % n ≡ 0 → load_answer Shadow (space_of h) a n ≡ Ok (loaded (sees Shadow (space_of h)) a n)
  range-loaded aligned =
      let s : Space = space_of h in
      load-ok (a % n == 0) (all_from (rights_of Shadow s.layout).load a n) (loaded (sees Shadow s) a n) (eq-eqb (a % n) 0 aligned) (loads-range s.layout a n inside)

  -- each byte of the number is the program's
  pub range-byte : (number : ℕ) → number ≡ loaded (sees Shadow (space_of h)) a n → ((i : ℕ) → i < n → sees Shadow (space_of h) (a + i) < 256) → (i : ℕ) → i < n
      → byte_of number i ≡ program_byte (space_of h).layout (space_of h).text (space_of h).program (a + i)
  range-byte number is small i k =
      let s : Space = space_of h in
      ap (λ (v : ℕ). byte_of v i) is ∙ loaded-byte (sees Shadow s) n a i small k ∙ sees-range s.layout a n inside s.text s.program s.shared s.shadow_page (a + i) (omega arith) (omega arith)

-- ---- the bytes of a region

pub whole-regions : (v : Version) → range_end v ≡ 256 * (range_end v / 256)
whole-regions One = refl
whole-regions Two = refl

pub region-inside : (l : Layout) (region i n : ℕ) → 16 ≤ region → region < all_regions l → i + n ≤ 256 → IsTrue (all_from (in_range l) (256 * region + i) n)
region-inside l region i n above below small =
    let end : range_end l.version ≡ 256 * all_regions l = whole-regions l.version in
    all_from-each (in_range l) n (256 * region + i) (λ b low high. one b (omega (arith, above)) (omega (arith, end, below)))
  where
    one : (b : ℕ) → 0x1000 ≤ b → b < range_end l.version → IsTrue (in_range l b)
    one b h k = grind (arith, nat_tests)

-- the regions of n bytes that are data
pub record AreRegions (l : Layout) (a n : ℕ) : Type 0 where
  pub above : 16 ≤ a / 256
  pub below : (a + (n - 1)) / 256 + 1 ≤ all_regions l
  pub most : all_regions l ≤ 0x40_0000

pub data-regions : (l : Layout) (a n : ℕ) → 1 ≤ n → IsTrue (all_from (is_data l) a n) → AreRegions l a n
data-regions l a n some all =
    let first : 0x1000 ≤ a = low-data a (all_from-inside (is_data l) n a all a (omega arith) (omega arith)) in
    let last : a + (n - 1) < range_end l.version = high-data (a + (n - 1)) (all_from-inside (is_data l) n a all (a + (n - 1)) (omega arith) (omega arith)) in
    let end : range_end l.version ≡ 256 * all_regions l = whole-regions l.version in
    record { above = omega (arith, first); below = omega (arith, last, end); most = regions-most l }
  where
    low-data : (b : ℕ) → IsTrue (is_data l b) → 0x1000 ≤ b
    low-data b h = grind (arith, nat_tests)

    high-data : (b : ℕ) → IsTrue (is_data l b) → b < range_end l.version
    high-data b h = grind (arith, nat_tests)

-- bytes of the range past the text are data
pub data-past : (l : Layout) (a n : ℕ) → IsTrue (is_lawful l) → l.version ≡ Two → l.text_end ≤ a → a + n ≤ 0x4000_0000 → IsTrue (all_from (is_data l) a n)
data-past l a n lawful two past below =
    let is : IsLawful l = lawful_is l lawful in
    let end : range_end l.version ≡ 0x4000_0000 = ap range_end two in
    all_from-each (is_data l) n a (λ b low high. one b (omega (arith, is.above, is.some)) (omega arith) (omega (arith, end)))
  where
    one : (b : ℕ) → 0x1000 ≤ b → l.text_end ≤ b → b < range_end l.version → IsTrue (is_data l b)
    one b h i j = grind (arith, nat_tests)

-- ---- a patch that grows

pub patched-none : (m : Memory) (base : ℕ) (f : Memory) → m ≡ patched m base 0 f
unfolding patched
patched-none m base f = fun_ext (λ b. grind (arith, nat_tests))

-- a patch of those bytes instead
pub patched-alike : (m : Memory) (base n : ℕ) (f g : Memory) → ((i : ℕ) → i < n → f i ≡ g i) → patched m base n f ≡ patched m base n g
unfolding patched
patched-alike m base n f g same = fun_ext (λ b. (let here : base ≤ b → b < base + n → f (b - base) ≡ g (b - base) = λ low high. same (b - base) (omega arith) in grind (arith, nat_tests, here)))

-- a byte is stored
pub stored-byte : (m : Memory) (a v : ℕ) → v < 256 → stored m a 1 v ≡ patched m a 1 (λ i. v)
stored-byte m a v small = patched-alike m a 1 (byte_of v) (λ i. v) (λ i h. at-zero i (omega arith))
  where
    at-zero : (i : ℕ) → i ≡ 0 → byte_of v i ≡ v
    at-zero i e = rw e (omega arith)

-- more bytes behind a patch
pub patched-more : (m : Memory) (base i k : ℕ) (f g : Memory) → ((j : ℕ) → j < k → g j ≡ f (i + j)) → patched (patched m base i f) (base + i) k g ≡ patched m base (i + k) f
unfolding patched
patched-more m base i k f g same =
    fun_ext (λ b. (let here : base + i ≤ b → b < base + i + k → g (b - (base + i)) ≡ f (b - base) = λ low high. at b low high (same (b - (base + i)) (omega arith)) in grind (arith, nat_tests, here)))
  where
    at : (b : ℕ) → base + i ≤ b → b < base + i + k → g (b - (base + i)) ≡ f (i + (b - (base + i))) → g (b - (base + i)) ≡ f (b - base)
    at b low high e = e ∙ ap f (omega arith)

-- the bytes of a region that a copy is made of
abbrev pub region_bytes : Space → ℕ → Memory
region_bytes s region i = program_byte s.layout s.text s.program (256 * region + i)

-- so many of them are copied to a slot
abbrev pub copied_part : Space → ℕ → ℕ → ℕ → Space
copied_part s slot region i = record s { shared = patched s.shared (slot_address slot) i (region_bytes s region) }

pub copied_part-none : (s : Space) (slot region : ℕ) → s ≡ copied_part s slot region 0
copied_part-none s slot region = ap (λ (m : Memory). record s { shared = m }) (patched-none s.shared (slot_address slot) (region_bytes s region))

-- a store of the next of them copies them
pub copied_part-more : (s t u : Space) (slot region i k number : ℕ) → t ≡ copied_part s slot region i → ((j : ℕ) → j < k → byte_of number j ≡ program_byte t.layout t.text t.program (256 * region + i + j))
    → u ≡ record t { shared = stored t.shared (slot_address slot + i) k number } → u ≡ copied_part s slot region (i + k)
copied_part-more s t u slot region i k number e bytes after =
    let at : ℕ = slot_address slot + i in
    let of_old : (j : ℕ) → j < k → byte_of number j ≡ region_bytes s region (i + j) = λ j h. bytes j h ∙ ap (λ (w : Space). program_byte w.layout w.text w.program (256 * region + i + j)) e ∙ ap (program_byte s.layout s.text s.program) (omega arith) in
    after ∙ ap (λ (w : Space). record w { shared = stored w.shared at k number }) e
    ∙ ap (λ (m : Memory). record s { shared = m }) (patched-more s.shared (slot_address slot) i k (region_bytes s region) (byte_of number) of_old)
