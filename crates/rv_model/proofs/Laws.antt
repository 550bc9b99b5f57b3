-- The laws of a patch: what each byte and each number is after a change.
use Rattle.std.proofs.Common.{◌≡◌, ℕ, ◌+◌, ◌<◌, ◌≤◌, ap, arith}
use Rattle.std.proofs.lemmas.Bool.Decides.{nat_tests}
use Rattle.std.proofs.Math.Path.{fun_ext}
use Rattle.rv_model.specs.Memory.{Memory, patched}

module _ (m : Memory) (base n : ℕ) (f : Memory) where
  -- a byte outside the patch
  pub patched_outside : (a : ℕ) → (base ≤ a → a < base + n → ⊥) → patched m base n f a ≡ m a
  unfolding patched
  patched_outside a h = grind (arith, nat_tests, h)

  -- a byte inside it
  pub patched_inside : (a i : ℕ) → a ≡ base + i → i < n → patched m base n f a ≡ f i
  unfolding patched
  patched_inside a i e l = grind (arith, nat_tests)

  -- a patch of the same place
  pub patched_twice : (g : Memory) → patched (patched m base n f) base n g ≡ patched m base n g
  unfolding patched
  patched_twice g = fun_ext (λ b. grind (arith, nat_tests))

  -- patches apart
  pub patched_swapped : (at k : ℕ) (g : Memory) → base + n ≤ at → patched (patched m base n f) at k g ≡ patched (patched m at k g) base n f
  unfolding patched
  patched_swapped at k g h = fun_ext (λ b. grind (arith, nat_tests))

  -- a patch inside a patch changes what is patched in
  pub patched_in_patch : (at k : ℕ) (g : Memory) → at + k ≤ n → patched (patched m base n f) (base + at) k g ≡ patched m base n (patched f at k g)
  unfolding patched
  patched_in_patch at k g h = fun_ext (λ b. grind (arith, nat_tests, ap g))
