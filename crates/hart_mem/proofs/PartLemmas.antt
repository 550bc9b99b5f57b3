-- A change of the pages is a change of the one part that it touches.
use Rattle.std.proofs.Common.{◌≡◌, ℕ, ◌+◌, ◌-◌, ◌<◌, ◌≤◌, Bool, true, false, IsTrue, refl, sym, ◌∙◌, arith, inl, inr}
use Rattle.std.proofs.lemmas.Bool.{cases_lt, false≢true}
use Rattle.std.proofs.lemmas.Bool.Decides.{nat_tests}
use Rattle.std.proofs.Math.Path.{fun_ext}
use Rattle.rv_model.specs.Memory.{Memory, patched}
use Rattle.hart_mem.specs.Held.{part}

-- ---- one byte after a patch

pub patch_inside : (m : Memory) (base n : ℕ) (f : Memory) (b i : ℕ) → b ≡ base + i → i < n → patched m base n f b ≡ f i
unfolding patched
patch_inside m base n f b i e l = grind (arith, nat_tests)

pub patch_outside : (m : Memory) (base n : ℕ) (f : Memory) (b : ℕ) → (base ≤ b → b < base + n → ⊥) → patched m base n f b ≡ m b
unfolding patched
patch_outside m base n f b h = grind (arith, nat_tests, h)

pub patch_over : (m k : Memory) (base n : ℕ) (f : Memory) (b : ℕ) → m b ≡ k b → patched m base n f b ≡ patched k base n f b
unfolding patched
patch_over m k base n f b e = grind (arith, nat_tests)

-- ---- parts

pub part_in : (test : ℕ → Bool) (place : ℕ → ℕ) (m : Memory) (b : ℕ) → IsTrue (test b) → part test place m b ≡ m (place b)
unfolding part
part_in test place m b h = rw (h, part) refl

pub part_out : (test : ℕ → Bool) (place : ℕ → ℕ) (m : Memory) (b : ℕ) → test b ≡ false → part test place m b ≡ 0
unfolding part
part_out test place m b h = rw (h, part) refl

module _ (test : ℕ → Bool) (place : ℕ → ℕ) (m : Memory) where
  -- a change where no address of the part is leaves it
  module _ (at n : ℕ) (f : Memory) (apart : (b : ℕ) → IsTrue (test b) → at ≤ place b → place b < at + n → ⊥) where
    miss_byte : (b : ℕ) (t : Bool) → test b ≡ t → part test place (patched m at n f) b ≡ part test place m b
    miss_byte b true e = part_in test place (patched m at n f) b e ∙ patch_outside m at n f (place b) (apart b e) ∙ sym (part_in test place m b e)
    miss_byte b false e = part_out test place (patched m at n f) b e ∙ sym (part_out test place m b e)

    pub part_miss : part test place (patched m at n f) ≡ part test place m
    part_miss = fun_ext (λ b. miss_byte b (test b) refl)

  -- a change at the places of n addresses of the part, which stand one after another, is a change at these addresses
  module _ (a n : ℕ) (f : Memory) (there : (b : ℕ) → IsTrue (test b) → a ≤ b → b < a + n → place b ≡ place a + (b - a)) (back : (b : ℕ) → IsTrue (test b) → place a ≤ place b → place b < place a + n → b ≡ a + (place b - place a)) (inside : (b : ℕ) → a ≤ b → b < a + n → IsTrue (test b)) where
    here_byte : (b : ℕ) → IsTrue (test b) → a ≤ b → b < a + n → part test place (patched m (place a) n f) b ≡ patched (part test place m) a n f b
    here_byte b e low high =
        part_in test place (patched m (place a) n f) b e ∙ patch_inside m (place a) n f (place b) (b - a) (there b e low high) (omega arith) ∙ sym (patch_inside (part test place m) a n f b (b - a) (omega arith) (omega arith))

    else_byte : (b : ℕ) → IsTrue (test b) → (a ≤ b → b < a + n → ⊥) → part test place (patched m (place a) n f) b ≡ patched (part test place m) a n f b
    else_byte b e off =
        part_in test place (patched m (place a) n f) b e ∙ patch_outside m (place a) n f (place b) (λ low high. (let same : b ≡ a + (place b - place a) = back b e low high in off (omega arith) (omega arith))) ∙ sym (part_in test place m b e) ∙ sym (patch_outside (part test place m) a n f b off)

    hit_byte : (b : ℕ) (t : Bool) → test b ≡ t → part test place (patched m (place a) n f) b ≡ patched (part test place m) a n f b
    hit_byte b true e =
        elim (cases_lt b a) [
          | inl before ↦ else_byte b e (λ low high. absurd (omega arith))
          | inr low ↦ elim (cases_lt b (a + n)) [
            | inl high ↦ here_byte b e low high
            | inr past ↦ else_byte b e (λ l high. absurd (omega arith))
          ]
        ]
    hit_byte b false e =
        part_out test place (patched m (place a) n f) b e ∙ sym (part_out test place m b e) ∙ sym (patch_outside (part test place m) a n f b (λ low high. false≢true (sym e ∙ inside b low high)))

    pub part_hit : part test place (patched m (place a) n f) ≡ patched (part test place m) a n f
    part_hit = fun_ext (λ b. hit_byte b (test b) refl)
