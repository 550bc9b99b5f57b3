-- What is loaded after a patch: the number that was stored, or what was there before.
use Rattle.std.proofs.Common.{◌≡◌, ℕ, zero, suc, ◌+◌, ◌*◌, ◌^◌, ◌<◌, ◌≤◌, refl, ap₂, ◌∙◌, arith}
use Rattle.std.proofs.lemmas.Bool.Decides.{nat_tests}
use Rattle.spec_base.specs.Word.{byte_of}
use Rattle.rv_model.specs.Memory.{Memory, patched, stored, loaded}

module _ (m : Memory) (base n : ℕ) (f : Memory) where
  -- a byte below a patch is as before
  patched-below : (a : ℕ) → a < base → patched m base n f a ≡ m a
  unfolding patched
  patched-below a l = grind (arith, nat_tests)

  -- and one above it
  patched-above : (a : ℕ) → base + n ≤ a → patched m base n f a ≡ m a
  unfolding patched
  patched-above a l = grind (arith, nat_tests)

  -- a byte in a patch is what was patched in
  patched-inside : (a i : ℕ) → a ≡ base + i → i < n → patched m base n f a ≡ f i
  unfolding patched
  patched-inside a i e l = grind (arith, nat_tests)

  -- what lies below a patch is as before
  pub loaded-below_patch : (a k : ℕ) → a + k ≤ base → loaded (patched m base n f) a k ≡ loaded m a k
  unfolding loaded
  loaded-below_patch a zero h = refl
  loaded-below_patch a (suc k) h = ap₂ (λ (x y : ℕ). x + 256 * y) (patched-below a (omega arith)) (loaded-below_patch (a + 1) k (omega arith))

  -- what lies above a patch is as before
  pub loaded-above_patch : (a k : ℕ) → base + n ≤ a → loaded (patched m base n f) a k ≡ loaded m a k
  unfolding loaded
  loaded-above_patch a zero h = refl
  loaded-above_patch a (suc k) h = ap₂ (λ (x y : ℕ). x + 256 * y) (patched-above a h) (loaded-above_patch (a + 1) k (omega arith))

  -- what lies in a patch is what was patched in
  pub loaded-in_patch : (a i k : ℕ) → a ≡ base + i → i + k ≤ n → loaded (patched m base n f) a k ≡ loaded f i k
  unfolding loaded
  loaded-in_patch a i zero e h = refl
  loaded-in_patch a i (suc k) e h =
      ap₂ (λ (x y : ℕ). x + 256 * y) (patched-inside a i e (omega arith)) (loaded-in_patch (a + 1) (i + 1) k (omega (arith, e)) (omega arith))

-- eight bytes of a number below 2^64 write it
eight_bytes : (v : ℕ) → v < 2 ^ 64 → loaded (byte_of v) 0 8 ≡ v
unfolding loaded
eight_bytes v h = omega arith

-- a number that was stored is loaded again
pub loaded-stored : (m : Memory) (base v : ℕ) → v < 2 ^ 64 → loaded (stored m base 8 v) base 8 ≡ v
loaded-stored m base v h = loaded-in_patch m base 8 (byte_of v) base 0 8 (omega arith) (omega arith) ∙ eight_bytes v h
