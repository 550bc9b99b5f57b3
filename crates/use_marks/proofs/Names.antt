-- How many bytes of a name are looked at.
use Rattle.std.proofs.Common.{◌≡◌, ℕ, zero, suc, ◌+◌, ◌-◌, ◌<◌, Bool, true, false, Option, Some, None, refl, sym, ◌∙◌, ap, arith, ◌==◌, is_some, unwrap_or}
use Rattle.std.proofs.lemmas.Bool.Decides.{nat_tests}
use Rattle.rv_model.specs.Memory.{Memory}
use Rattle.rv_model.specs.Data.{byte_in, data_in, memory_in}
use Rattle.run_model.specs.Restarts.{name_length}
use Rattle.use_marks.specs.Passing.{name_bytes}

-- ---- by tests

length-none : (d : ℕ → Bool) (m : Memory) (a n : ℕ) → d a ≡ false → name_length d m a n ≡ 0
length-none d m a zero e = refl
length-none d m a (suc n) e = rw (name_length, e) refl

length-last : (d : ℕ → Bool) (m : Memory) (a n : ℕ) → d a ≡ true → (m a == 0) ≡ true → name_length d m a (suc n) ≡ 1
length-last d m a n e z = rw (name_length, e, z) refl

length-next : (d : ℕ → Bool) (m : Memory) (a n : ℕ) → d a ≡ true → (m a == 0) ≡ false → name_length d m a (suc n) ≡ suc (name_length d m (a + 1) n)
length-next d m a n e z = rw (name_length, e, z) refl

-- ---- by bytes

is_zero : (b : ℕ) → b ≡ 0 → (b == 0) ≡ true
is_zero b e = grind (arith, nat_tests)

not_zero : (b : ℕ) → (b ≡ 0 → ⊥) → (b == 0) ≡ false
not_zero b p = grind (arith, nat_tests)

there : (f : ℕ → Option ℕ) (a b : ℕ) → byte_in f a ≡ Some b → data_in f a ≡ true
there f a b e = ap (λ (o : Option ℕ). is_some o) e

its_byte : (f : ℕ → Option ℕ) (a b : ℕ) → byte_in f a ≡ Some b → memory_in f a ≡ b
its_byte f a b e = ap (λ (o : Option ℕ). unwrap_or o 0) e

pub name_bytes-none : (f : ℕ → Option ℕ) (a n : ℕ) → byte_in f a ≡ None → name_bytes f a n ≡ 0
unfolding name_bytes
name_bytes-none f a n e = length-none (data_in f) (memory_in f) a n (ap (λ (o : Option ℕ). is_some o) e)

pub name_bytes-over : (f : ℕ → Option ℕ) (a n : ℕ) → n ≡ 0 → name_bytes f a n ≡ 0
unfolding name_bytes
name_bytes-over f a n e = ap (name_length (data_in f) (memory_in f) a) e

less_one : (n : ℕ) → 0 < n → n ≡ suc (n - 1)
less_one n h = omega arith

pub name_bytes-last : (f : ℕ → Option ℕ) (a n : ℕ) → 0 < n → byte_in f a ≡ Some 0 → name_bytes f a n ≡ 1
unfolding name_bytes
name_bytes-last f a n some e =
    ap (name_length (data_in f) (memory_in f) a) (less_one n some)
    ∙ length-last (data_in f) (memory_in f) a (n - 1) (there f a 0 e) (is_zero (memory_in f a) (its_byte f a 0 e))

next-of : (f : ℕ → Option ℕ) (a d b n : ℕ) → d < n → byte_in f (a + d) ≡ Some b → (b ≡ 0 → ⊥) → name_bytes f (a + d) (n - d) ≡ suc (name_bytes f (a + (d + 1)) (n - (d + 1)))
unfolding name_bytes
next-of f a d b n h e p =
    let k : n - d ≡ suc (n - (d + 1)) = omega arith in
    let q : a + d + 1 ≡ a + (d + 1) = omega arith in
    ap (name_length (data_in f) (memory_in f) (a + d)) k
    ∙ (length-next (data_in f) (memory_in f) (a + d) (n - (d + 1)) (there f (a + d) b e) (not_zero (memory_in f (a + d)) (λ z. p (sym (its_byte f (a + d) b e) ∙ z)))
    ∙ ap (λ (x : ℕ). suc (name_length (data_in f) (memory_in f) x (n - (d + 1)))) q)

pub name_bytes-next : (f : ℕ → Option ℕ) (a d b : ℕ) → d < 256 → byte_in f (a + d) ≡ Some b → (b ≡ 0 → ⊥) → name_bytes f (a + d) (256 - d) ≡ suc (name_bytes f (a + (d + 1)) (256 - (d + 1)))
name_bytes-next f a d b h e p = next-of f a d b 256 h e p
