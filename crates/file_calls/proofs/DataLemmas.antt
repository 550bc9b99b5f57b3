-- A byte more of a name.
use Rattle.std.proofs.Common.{◌≡◌, ℕ, suc, ◌+◌, ◌-◌, ◌<◌, ◌≤◌, ◌∙◌, Bool, true, false, List, [], ◌∷◌, ◌++◌, length, ap, sym, arith, length-append, Option, Some, None}
use Rattle.std.proofs.lemmas.Bool.Decides.{nat_tests}
use Rattle.std.specs.Prelude.{◌==◌, is_some, unwrap_or}
use Rattle.rv_model.specs.Memory.{Memory}
use Rattle.rv_model.proofs.DataLemmas.{less_one, one_past}
use Rattle.program_model.specs.Descriptors.{EFAULT, ENAMETOOLONG}
use Rattle.program_model.specs.Calls.{Named, Refused, Whole, name_from, name_at, not_empty}
use Rattle.rv_model.specs.Data.{byte_in, data_in, memory_in}

-- ---- names

not_zero : (b : ℕ) → (b ≡ 0 → ⊥) → (b == 0) ≡ false
not_zero b p = grind (arith, nat_tests)

name_from-long : (f : ℕ → Option ℕ) (a n : ℕ) (bytes : List ℕ) → n ≡ 0 → name_from (data_in f) (memory_in f) a n bytes ≡ Refused ENAMETOOLONG
unfolding name_from
name_from-long f a n bytes e = rw e

-- a byte more, which is b
abbrev pub after_byte : (d : ℕ → Bool) (m : Memory) (a n b : ℕ) (bytes : List ℕ) → Bool → Named
after_byte d m a n b bytes true = Whole bytes
after_byte d m a n b bytes false = name_from d m (a + 1) n (bytes ++ b ∷ [])

pub name_from-suc : (d : ℕ → Bool) (m : Memory) (a n b : ℕ) (bytes : List ℕ) → d a ≡ true → m a ≡ b → name_from d m a (suc n) bytes ≡ after_byte d m a n b bytes (b == 0)
unfolding name_from
name_from-suc d m a n b bytes e f = rw (e, name_from) (ap (λ (x : ℕ). after_byte d m a n x bytes (x == 0)) f)

name_from-byte : (f : ℕ → Option ℕ) (a n b : ℕ) (bytes : List ℕ) → byte_in f a ≡ Some b → (b == 0) ≡ false
    → name_from (data_in f) (memory_in f) a (suc n) bytes ≡ name_from (data_in f) (memory_in f) (a + 1) n (bytes ++ b ∷ [])
name_from-byte f a n b bytes e p =
    name_from-suc (data_in f) (memory_in f) a n b bytes (ap (λ (o : Option ℕ). is_some o) e) (ap (λ (o : Option ℕ). unwrap_or o 0) e)
    ∙ ap (after_byte (data_in f) (memory_in f) a n b bytes) p

name_from-end : (f : ℕ → Option ℕ) (a n : ℕ) (bytes : List ℕ) → byte_in f a ≡ Some 0 → name_from (data_in f) (memory_in f) a (suc n) bytes ≡ Whole bytes
name_from-end f a n bytes e =
    name_from-suc (data_in f) (memory_in f) a n 0 bytes (ap (λ (o : Option ℕ). is_some o) e) (ap (λ (o : Option ℕ). unwrap_or o 0) e)

pub name_from-fault : (d : ℕ → Bool) (m : Memory) (a n : ℕ) (bytes : List ℕ) → d a ≡ false → name_from d m a (suc n) bytes ≡ Refused EFAULT
unfolding name_from
name_from-fault d m a n bytes e = rw (e, name_from)

-- the k bytes from an address on belong to its name
pub record IsInName (f : ℕ → Option ℕ) (a k : ℕ) (bytes : List ℕ) : Type 0 where
  pub few : length bytes ≡ k
  pub same : name_from (data_in f) (memory_in f) a 256 [] ≡ name_from (data_in f) (memory_in f) (a + k) (256 - k) bytes

-- a byte that isn't zero does too
pub IsInName-next : (f : ℕ → Option ℕ) (a k b : ℕ) (bytes more : List ℕ) → IsInName f a k bytes → k < 256 → byte_in f (a + k) ≡ Some b → (b ≡ 0 → ⊥) → more ≡ bytes ++ b ∷ [] → IsInName f a (k + 1) more
IsInName-next f a k b bytes more name h e p q =
    record {
      few = ap length q ∙ (length-append bytes (b ∷ []) ∙ ap (λ (n : ℕ). n + 1) name.few);
      same =
          name.same
          ∙ (rw (less_one k 256 h, ← one_past a k) (name_from-byte f (a + k) (256 - (k + 1)) b bytes e (not_zero b p))
          ∙ ap (name_from (data_in f) (memory_in f) (a + (k + 1)) (256 - (k + 1))) (sym q));
    }

-- a zero byte ends it
pub name_at-ends : (f : ℕ → Option ℕ) (a k : ℕ) (bytes : List ℕ) → IsInName f a k bytes → k < 256 → byte_in f (a + k) ≡ Some 0 → name_at (data_in f) (memory_in f) a ≡ not_empty (Whole bytes)
name_at-ends f a k bytes name h e = ap not_empty {y = Whole bytes} (name.same ∙ rw (less_one k 256 h) (name_from-end f (a + k) (256 - (k + 1)) bytes e))

-- a byte that isn't data refuses it
pub name_at-stops : (f : ℕ → Option ℕ) (a k : ℕ) (bytes : List ℕ) → IsInName f a k bytes → k < 256 → byte_in f (a + k) ≡ None → name_at (data_in f) (memory_in f) a ≡ Refused EFAULT
name_at-stops f a k bytes name h e = ap not_empty {y = Refused EFAULT} (name.same ∙ rw (less_one k 256 h) (name_from-fault (data_in f) (memory_in f) (a + k) (256 - (k + 1)) bytes (ap (λ (o : Option ℕ). is_some o) e)))

-- and so does the end of all that may be read
pub name_at-long : (f : ℕ → Option ℕ) (a k : ℕ) (bytes : List ℕ) → IsInName f a k bytes → 256 ≤ k → name_at (data_in f) (memory_in f) a ≡ Refused ENAMETOOLONG
name_at-long f a k bytes name h = ap not_empty (name.same ∙ name_from-long f (a + k) (256 - k) bytes (omega arith))
