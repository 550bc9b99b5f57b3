-- What the views see of the pages, and what a change of the pages makes of the memory of all parts.
use Rattle.std.proofs.Common.{◌≡◌, ℕ, ◌+◌, ◌-◌, ◌%◌, ◌<◌, ◌≤◌, IsTrue, refl, ap, sym, ◌∙◌, arith}
use Rattle.std.proofs.lemmas.Bool.Decides.{nat_tests}
use Rattle.spec_base.specs.Layout.{range_end, helper_words, stub_words}
use Rattle.spec_base.specs.declared.layout.Layout.{Layout}
use Rattle.rv_model.specs.Memory.{Memory, patched}
use Rattle.rv_model.specs.Rights.{is_data, in_private, in_shared}
use Rattle.rv_model.specs.Space.{Space}
use Rattle.hart_mem.specs.Paged.{flat}
use Rattle.hart_mem.specs.Places.{stub_place, shadow_place, shared_place}
use Rattle.hart_mem.specs.Held.{Held, code_or_zeros, part, shadow_words, space_of}
use Rattle.hart_mem.proofs.Grains.{IsLawful}
use Rattle.hart_mem.proofs.PartLemmas.{part_miss, part_hit}
use Rattle.hart_mem.proofs.PlaceLemmas.{shared_above, shared_step, shared_back}

-- the memory of all parts over these pages
abbrev pub spaced : Held → Memory → Space
spaced h m =
    record {
      layout = h.layout;
      text = h.text;
      shadow = code_or_zeros h.shadow (shadow_words h.layout);
      helpers = code_or_zeros h.helpers helper_words;
      stub = code_or_zeros h.stub stub_words;
      program = part (is_data h.layout) (λ a. a) m;
      shared = part (in_shared h.layout) (shared_place h.layout) m;
      stub_page = part in_private (stub_place h.layout) m;
      shadow_page = part in_private (shadow_place h.layout) m;
    }

pub space_is : (h : Held) → space_of h ≡ spaced h (flat h.pages)
unfolding space_of
space_is h = refl

-- ---- addresses of a part, as numbers

pub data_low : (l : Layout) (b : ℕ) → IsTrue (is_data l b) → b < range_end l.version
data_low l b h = grind (arith, nat_tests)

pub private_high : (b : ℕ) → IsTrue (in_private b) → 0xFFFF_FFFF_FFFF_F800 ≤ b
private_high b h = grind (arith, nat_tests)

pub private_end : (b : ℕ) → IsTrue (in_private b) → b < 0x1_0000_0000_0000_0000
private_end b h = grind (arith, nat_tests)

-- ---- a patch of each part

module _ (h : Held) (lawful : IsLawful h.layout) (m : Memory) where
  -- of the program range
  module _ (a n : ℕ) (f : Memory) (inside : (b : ℕ) → a ≤ b → b < a + n → IsTrue (is_data h.layout b)) where
    -- none of the bytes stands past the range
    ends : (p : ℕ) → range_end h.layout.version ≤ p → a ≤ p → p < a + n → ⊥
    ends p past low high = absurd (let here : p < range_end h.layout.version = data_low h.layout p (inside p low high) in omega arith)

    pub program_patched : spaced h (patched m a n f) ≡ record (spaced h m) { program = patched (part (is_data h.layout) (λ a. a) m) a n f }
    program_patched =
        let one = part_hit (is_data h.layout) (λ a. a) m a n f (λ b e low high. omega arith) (λ b e low high. omega arith) inside in
        let two = part_miss (in_shared h.layout) (shared_place h.layout) m a n f (λ b e low high. ends (shared_place h.layout b) (omega (arith, shared_above h.layout lawful b e)) low high) in
        let three = part_miss in_private (stub_place h.layout) m a n f (λ b e low high. ends (stub_place h.layout b) (omega arith) low high) in
        let four = part_miss in_private (shadow_place h.layout) m a n f (λ b e low high. ends (shadow_place h.layout b) (omega arith) low high) in
        rw (one, two, three, four) refl

  -- of a private page
  module _ (a n : ℕ) (f : Memory) (inside : (b : ℕ) → a ≤ b → b < a + n → IsTrue (in_private b)) (some : 1 ≤ n) where
    low_end : 0xFFFF_FFFF_FFFF_F800 ≤ a
    low_end = private_high a (inside a (omega arith) (omega arith))

    high_end : a + n ≤ 0x1_0000_0000_0000_0000
    high_end = (let last : a + (n - 1) < 0x1_0000_0000_0000_0000 = private_end (a + (n - 1)) (inside (a + (n - 1)) (omega arith) (omega arith)) in omega arith)

    pub stub_page_patched : spaced h (patched m (stub_place h.layout a) n f) ≡ record (spaced h m) { stub_page = patched (part in_private (stub_place h.layout) m) a n f }
    stub_page_patched =
        let at : ℕ = stub_place h.layout a in
        let one = part_hit in_private (stub_place h.layout) m a n f (λ b e low high. omega (arith, low_end)) (λ b e low high. omega (arith, low_end, private_high b e)) inside in
        let two = part_miss (in_shared h.layout) (shared_place h.layout) m at n f (λ b e low high. absurd (omega (arith, shared_above h.layout lawful b e, low_end, high_end))) in
        let three = part_miss (is_data h.layout) (λ a. a) m at n f (λ b e low high. absurd (omega (arith, data_low h.layout b e))) in
        let four = part_miss in_private (shadow_place h.layout) m at n f (λ b e low high. absurd (omega (arith, low_end, high_end))) in
        rw (one, two, three, four) refl

    pub shadow_page_patched : spaced h (patched m (shadow_place h.layout a) n f) ≡ record (spaced h m) { shadow_page = patched (part in_private (shadow_place h.layout) m) a n f }
    shadow_page_patched =
        let at : ℕ = shadow_place h.layout a in
        let one = part_hit in_private (shadow_place h.layout) m a n f (λ b e low high. omega (arith, low_end)) (λ b e low high. omega (arith, low_end, private_high b e)) inside in
        let two = part_miss (in_shared h.layout) (shared_place h.layout) m at n f (λ b e low high. absurd (omega (arith, shared_above h.layout lawful b e, low_end, high_end))) in
        let three = part_miss (is_data h.layout) (λ a. a) m at n f (λ b e low high. absurd (omega (arith, data_low h.layout b e))) in
        let four = part_miss in_private (stub_place h.layout) m at n f (λ b e low high. absurd (omega (arith, low_end, private_end b e))) in
        rw (one, two, three, four) refl

  -- of the shared parts
  module _ (a n : ℕ) (f : Memory) (eight : a % 8 + n ≤ 8) (inside : (b : ℕ) → a ≤ b → b < a + n → IsTrue (in_shared h.layout b)) (some : 1 ≤ n) where
    first : IsTrue (in_shared h.layout a)
    first = inside a (omega arith) (omega arith)

    step : (b : ℕ) → a ≤ b → b < a + n → shared_place h.layout b ≡ shared_place h.layout a + (b - a)
    step b low high =
        let e : a + (b - a) ≡ b = omega arith in
        ap (shared_place h.layout) (sym e) ∙ shared_step h.layout lawful a (b - a) (omega arith) first

    pub shared_patched : spaced h (patched m (shared_place h.layout a) n f) ≡ record (spaced h m) { shared = patched (part (in_shared h.layout) (shared_place h.layout) m) a n f }
    shared_patched =
        let at : ℕ = shared_place h.layout a in
        let above : range_end h.layout.version + 0x1000 ≤ at = shared_above h.layout lawful a first in
        let one = part_hit (in_shared h.layout) (shared_place h.layout) m a n f (λ b e low high. step b low high) (λ b e low high. shared_back h.layout lawful a n b eight first e low high) inside in
        let two = part_miss (is_data h.layout) (λ a. a) m at n f (λ b e low high. absurd (omega (arith, data_low h.layout b e))) in
        let three = part_miss in_private (stub_place h.layout) m at n f (λ b e low high. absurd (omega (arith, private_end b e))) in
        let four = part_miss in_private (shadow_place h.layout) m at n f (λ b e low high. absurd (omega (arith, private_end b e))) in
        rw (one, two, three, four) refl
