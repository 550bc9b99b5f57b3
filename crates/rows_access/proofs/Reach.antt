-- When an access to the program's memory traps: by its address, and by the bytes that it has.
use Rattle.std.proofs.Common.{◌≡◌, ℕ, ◌+◌, ◌-◌, ◌/◌, ◌%◌, ◌^◌, ◌<◌, ◌≤◌, ◌⊎◌, inl, inr, Bool, true, false, ◌&&◌, ◌==◌, refl, ◌∙◌, ap, sym, subst, arith, eq-eqb, nat_lt, nat_le, bit_and, ◌*◌}
use Rattle.std.proofs.lemmas.Bool.{and_from, and_left, and_right}
use Rattle.std.proofs.lemmas.Bool.Decides.{nat_tests}
use Rattle.std.proofs.lemmas.Nat.{and_mask}
use Rattle.spec_base.specs.Layout.{range_start, range_end}
use Rattle.spec_base.specs.declared.layout.Version.{Version}
use Rattle.spec_base.specs.declared.layout.Version.TheVariants.{One, Two}
use Rattle.spec_base.specs.declared.layout.Layout.{Layout}
use Rattle.rv_model.specs.Memory.{all_from}
use Rattle.rv_model.specs.Rights.{is_data}
use Rattle.rv_model.proofs.DataLemmas.{all_from-fails, all_from-holds, all_from-inside}
use Rattle.side_model.specs.Places.{Width, W1, W2, W4, W8, width_of, reaching}
use Rattle.code_model.specs.Tables.{all_regions}
use Rattle.side_model.proofs.Numbers.{TextFits}
use Rattle.side_model.proofs.Views.{range-most}
use Rattle.rows_access.specs.Accesses.{may_access}

-- ---- tests over a stretch

both-true : (b c : Bool) → (b && c) ≡ true → (b ≡ true) × (c ≡ true)
both-true true c e = (refl, e)
both-true false c e = (e, absurd (no e))
  where
    no : false ≡ true → ⊥
    no e = cc

-- ---- data, byte by byte

range-whole : (v : Version) → range_end v % 256 ≡ 0
range-whole One = refl
range-whole Two = refl

module _ (l : Layout) (x : ℕ) where
  data-is : range_start ≤ x → x < range_end l.version → (x < l.text_start) ⊎ (l.text_end ≤ x) → is_data l x ≡ true
  data-is h k (inl o) = grind (arith, nat_tests)
  data-is h k (inr o) = grind (arith, nat_tests)

  no-data-below : x < range_start → is_data l x ≡ false
  no-data-below h = grind (arith, nat_tests)

  no-data-above : range_end l.version ≤ x → is_data l x ≡ false
  no-data-above h = grind (arith, nat_tests)

  no-data-text : l.text_start ≤ x → x < l.text_end → is_data l x ≡ false
  no-data-text h k = grind (arith, nat_tests)

  data-above : is_data l x ≡ true → range_start ≤ x
  data-above h = grind (arith, nat_tests)

  data-below : is_data l x ≡ true → x < range_end l.version
  data-below h = grind (arith, nat_tests)

-- ---- accesses

-- the lower bits of an address are its rest by the width
odd-is : (w : Width) (a : ℕ) → bit_and a (width_of w - 1) ≡ a % width_of w
odd-is W1 a = and_mask a 0
odd-is W2 a = and_mask a 1
odd-is W4 a = and_mask a 2
odd-is W8 a = and_mask a 3

odd-small : (w : Width) → (width_of w - 1) % 2 ^ 64 ≡ width_of w - 1
odd-small W1 = refl
odd-small W2 = refl
odd-small W4 = refl
odd-small W8 = refl

pub some-width : (w : Width) → 0 < width_of w
some-width W1 = omega arith
some-width W2 = omega arith
some-width W4 = omega arith
some-width W8 = omega arith

module _ (l : Layout) (f : TextFits l) (w : Width) (a : ℕ) where
  abbrev odds : ℕ
  odds = bit_and a ((width_of w - 1) % 2 ^ 64)

  odds-are : odds ≡ a % width_of w
  odds-are = ap (bit_and a) (odd-small w) ∙ odd-is w a

  -- the first byte of an access
  first-fails : is_data l a ≡ false → may_access l w a ≡ false
  first-fails e = and_right (a % width_of w == 0) _ (all_from-fails (is_data l) a (width_of w) a (omega arith) (omega (arith, some-width w)) e)

  pub no-whole : (odds == 0) ≡ false → may_access l w a ≡ false
  no-whole e = and_left (a % width_of w == 0) _ (subst (λ (o : ℕ). (o == 0) ≡ false) odds-are e)

  pub no-low : nat_lt a range_start ≡ true → may_access l w a ≡ false
  no-low e = first-fails (no-data-below l a (grind (arith, nat_tests)))

  pub no-high : nat_le (range_end l.version) a ≡ true → may_access l w a ≡ false
  no-high e = first-fails (no-data-above l a (grind (arith, nat_tests)))

  -- the bytes from an address in the text's reach on
  pub no-text : nat_lt a (reaching l w) ≡ false → nat_lt a l.text_end ≡ true → may_access l w a ≡ false
  no-text e h = by_width w e
    where
      below : a < l.text_end
      below = grind (arith, nat_tests)

      by_width : (w : Width) → nat_lt a (reaching l w) ≡ false → may_access l w a ≡ false
      by_width W1 e = and_right (a % 1 == 0) _ (all_from-fails (is_data l) a 1 a (omega arith) (omega arith) (no-data-text l a (grind (arith, nat_tests)) below))
      by_width W2 e = and_right (a % 2 == 0) _ (all_from-fails (is_data l) a 2 a (omega arith) (omega arith) (no-data-text l a (grind (arith, nat_tests)) below))
      by_width W4 e = and_right (a % 4 == 0) _ (all_from-fails (is_data l) a 4 a (omega arith) (omega arith) (no-data-text l a (grind (arith, nat_tests)) below))
      by_width W8 e = and_right (a % 8 == 0) _ (by_test (nat_lt a l.text_start) refl)
        where
          by_test : (b : Bool) → nat_lt a l.text_start ≡ b → all_from (is_data l) a 8 ≡ false
          by_test true d =
              let above : l.text_start ≤ a + 4 = grind (arith, nat_tests) in
              let before : a < l.text_start = grind (arith, nat_tests) in
              all_from-fails (is_data l) a 8 (a + 4) (omega arith) (omega arith) (no-data-text l (a + 4) above (omega (arith, f.start, f.end, f.some)))
          by_test false d = all_from-fails (is_data l) a 8 a (omega arith) (omega arith) (no-data-text l a (grind (arith, nat_tests)) below)

  -- each of its bytes is in the range
  in-range : (w : Width) → a % width_of w ≡ 0 → a < range_end l.version → a + width_of w ≤ range_end l.version
  in-range W1 e h = omega arith
  in-range W2 e h = omega (arith, range-whole l.version)
  in-range W4 e h = omega (arith, range-whole l.version)
  in-range W8 e h = omega (arith, range-whole l.version)

  -- and below the text, where it doesn't reach there
  before-text : (w : Width) → a % width_of w ≡ 0 → nat_lt a (reaching l w) ≡ true → a + width_of w ≤ l.text_start
  before-text W1 e h = let k : a < l.text_start = grind (arith, nat_tests) in omega arith
  before-text W2 e h = let k : a < l.text_start = grind (arith, nat_tests) in omega (arith, f.start)
  before-text W4 e h = let k : a < l.text_start = grind (arith, nat_tests) in omega (arith, f.start)
  before-text W8 e h = let k : a < l.text_start - 4 = grind (arith, nat_tests) in omega (arith, f.start)

  module _ (whole : (odds == 0) ≡ true) (above : nat_lt a range_start ≡ false) (below : nat_le (range_end l.version) a ≡ false) where
    multiple : a % width_of w ≡ 0
    multiple = let e : odds ≡ 0 = grind (arith, nat_tests, whole) in sym odds-are ∙ e

    start : range_start ≤ a
    start = grind (arith, nat_tests, above)

    end : a < range_end l.version
    end = grind (arith, nat_tests, below)

    each : ((x : ℕ) → a ≤ x → x < a + width_of w → (x < l.text_start) ⊎ (l.text_end ≤ x)) → may_access l w a ≡ true
    each outside =
        and_from _ _ (eq-eqb (a % width_of w) 0 multiple)
        (all_from-holds (is_data l) a (width_of w) (λ x h k. data-is l x (omega (arith, start)) (omega (arith, in-range w multiple end)) (outside x h k)))

    pub may-low : nat_lt a (reaching l w) ≡ true → may_access l w a ≡ true
    may-low e = each (λ x h k. inl (omega (arith, before-text w multiple e)))

    pub may-high : nat_lt a l.text_end ≡ false → may_access l w a ≡ true
    may-high e = let k : l.text_end ≤ a = grind (arith, nat_tests) in each (λ x h g. inr (omega arith))

-- an access that doesn't trap
pub record Reached (l : Layout) (w : Width) (a : ℕ) : Type 0 where
  pub whole : a % width_of w ≡ 0
  pub above : range_start ≤ a
  pub below : a + width_of w ≤ range_end l.version
  pub most : range_end l.version ≤ 0x4000_0000
  pub region : a / 256 < all_regions l

pub reached : (l : Layout) (w : Width) (a : ℕ) → may_access l w a ≡ true → Reached l w a
reached l w a h =
    let parts = both-true (a % width_of w == 0) _ h in
    let some : 0 < width_of w = some-width w in
    let first : is_data l a ≡ true = all_from-inside (is_data l) (width_of w) a parts.1 a (omega arith) (omega arith) in
    let last : is_data l (a + (width_of w - 1)) ≡ true = all_from-inside (is_data l) (width_of w) a parts.1 (a + (width_of w - 1)) (omega arith) (omega arith) in
    let end : a + (width_of w - 1) < range_end l.version = data-below l (a + (width_of w - 1)) last in
    record {
      whole = let t : (a % width_of w == 0) ≡ true = parts.0 in grind (arith, nat_tests);
      above = data-above l a first;
      below = omega arith;
      most = range-most l.version;
      region = omega (arith, range-whole l.version, data-below l a first);
    }

-- the region of an address of the range
pub region-of : (l : Layout) (a : ℕ) → a < range_end l.version → a / 256 < all_regions l
region-of l a h = omega (arith, h, range-whole l.version)

-- the region of an access is in the range as a whole
pub record RegionIn (l : Layout) (region : ℕ) : Type 0 where
  pub above : range_start ≤ 256 * region
  pub below : 256 * region + 256 ≤ range_end l.version

pub region-in : (l : Layout) (w : Width) (a : ℕ) → Reached l w a → RegionIn l (a / 256)
region-in l w a r = record { above = omega (arith, r.above); below = omega (arith, r.region, range-whole l.version) }
