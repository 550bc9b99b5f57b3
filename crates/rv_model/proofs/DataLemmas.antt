-- Stretches of data: whether all of one is data, and its bytes.
use Rattle.std.proofs.Common.{◌≡◌, ℕ, zero, suc, ◌+◌, ◌-◌, ◌<◌, ◌≤◌, ◌^◌, ◌&&◌, ◌∙◌, Bool, true, false, IsTrue, nat_lt, List, [], ◌∷◌, ◌++◌, length, get_or, take, drop, replicate, refl, ap, sym, subst, arith, Option, unwrap_or, is_some}
use Rattle.std.proofs.lemmas.Bool.{false≢true}
use Rattle.std.proofs.Math.Seq.{drop-cons}
use Rattle.std.proofs.lemmas.Bool.Decides.{nat_tests}
use Rattle.rv_model.specs.Memory.{Memory, all_from, bytes_at}
use Rattle.rv_model.specs.Data.{byte_if, data_in, memory_in}

-- what is left of n after k, of which k isn't the last
pub less_one : (k n : ℕ) → k < n → n - k ≡ suc (n - (k + 1))
less_one k n h = omega arith

pub one_past : (a k : ℕ) → a + k + 1 ≡ a + (k + 1)
one_past a k = omega arith

-- ---- whether a test holds at all of a stretch

all_from-true : (test : ℕ → Bool) (a n : ℕ) → test a ≡ true → all_from test a (suc n) ≡ all_from test (a + 1) n
unfolding all_from
all_from-true test a n e = rw e

all_from-false : (test : ℕ → Bool) (a n : ℕ) → test a ≡ false → all_from test a (suc n) ≡ false
unfolding all_from
all_from-false test a n e = rw e

pub all_from-next : (test : ℕ → Bool) (a k n : ℕ) → k < n → test (a + k) ≡ true → all_from test (a + k) (n - k) ≡ all_from test (a + (k + 1)) (n - (k + 1))
all_from-next test a k n h e = rw (less_one k n h, ← one_past a k) (all_from-true test (a + k) (n - (k + 1)) e)

pub all_from-stops : (test : ℕ → Bool) (a k n : ℕ) → k < n → test (a + k) ≡ false → all_from test (a + k) (n - k) ≡ false
all_from-stops test a k n h e = rw (less_one k n h) (all_from-false test (a + k) (n - (k + 1)) e)

pub all_from-zero : (test : ℕ → Bool) (a n : ℕ) → n ≡ 0 → all_from test a n ≡ true
unfolding all_from
all_from-zero test a n e = rw e

first_of_two : (p q : Bool) → IsTrue (p && q) → IsTrue p
first_of_two true q h = refl
first_of_two false q h = h

second_of_two : (p q : Bool) → IsTrue (p && q) → IsTrue q
second_of_two true q h = h
second_of_two false q h = absurd (false≢true h)

-- a test that holds at each of n addresses holds at one of them
pub all_from-at : (test : ℕ → Bool) (n a i : ℕ) → IsTrue (all_from test a n) → i < n → IsTrue (test (a + i))
unfolding all_from
all_from-at test zero a i h l = absurd (omega arith)
all_from-at test (suc n) a zero h l =
    let e : a ≡ a + 0 = omega arith in
    subst (λ b. IsTrue (test b)) e (first_of_two (test a) (all_from test (a + 1) n) h)
all_from-at test (suc n) a (suc i) h l =
    let e : a + 1 + i ≡ a + suc i = omega arith in
    subst (λ b. IsTrue (test b)) e (all_from-at test n (a + 1) i (second_of_two (test a) (all_from test (a + 1) n) h) (omega arith))

pub all_from-inside : (test : ℕ → Bool) (n a : ℕ) → IsTrue (all_from test a n) → (b : ℕ) → a ≤ b → b < a + n → IsTrue (test b)
all_from-inside test n a h b low high =
    let e : a + (b - a) ≡ b = omega arith in
    subst (λ b. IsTrue (test b)) e (all_from-at test n a (b - a) h (omega arith))

-- at fewer where at more
pub all_from-fewer : (test : ℕ → Bool) (a m n : ℕ) → m ≤ n → IsTrue (all_from test a n) → IsTrue (all_from test a m)
unfolding all_from
all_from-fewer test a zero n l h = refl
all_from-fewer test a (suc m) zero l h = absurd (omega arith)
all_from-fewer test a (suc m) (suc n) l h =
    let rest : all_from test (a + 1) m ≡ true = all_from-fewer test (a + 1) m n (omega arith) (second_of_two (test a) (all_from test (a + 1) n) h) in
    let first : test a ≡ true = first_of_two (test a) (all_from test (a + 1) n) h in
    rw (first, rest) refl

-- one that holds at each address holds at all
pub all_from-holds : (test : ℕ → Bool) (a n : ℕ) → ((b : ℕ) → a ≤ b → b < a + n → IsTrue (test b)) → all_from test a n ≡ true
unfolding all_from
all_from-holds test a zero h = refl
all_from-holds test a (suc n) h =
    rw (h a (omega arith) (omega arith)) (all_from-holds test (a + 1) n (λ b low high. h b (omega arith) (omega arith)))

-- and one that fails at an address doesn't
pub all_from-fails : (test : ℕ → Bool) (a n b : ℕ) → a ≤ b → b < a + n → test b ≡ false → all_from test a n ≡ false
all_from-fails test a n b low high e = by_test (all_from test a n) refl where
  by_test : (t : Bool) → all_from test a n ≡ t → all_from test a n ≡ false
  by_test false h = h
  by_test true h = absurd (false≢true (sym e ∙ all_from-inside test n a h b low high))

-- ---- the bytes of a stretch

pub bytes_at-more : (m : Memory) (a n : ℕ) → bytes_at m a (n + 1) ≡ bytes_at m a n ++ m (a + n) ∷ []
unfolding bytes_at
bytes_at-more m a zero = let same : a + 0 ≡ a = omega arith in rw same refl
bytes_at-more m a (suc n) =
    let place : a + 1 + n ≡ a + suc n = omega arith in
    let count : suc n + 1 ≡ suc (n + 1) = omega arith in
    rw (count, ← place) (ap (λ xs. m a ∷ xs) (bytes_at-more m (a + 1) n))

pub bytes_at-none : (m : Memory) (a : ℕ) → bytes_at m a 0 ≡ []
unfolding bytes_at
bytes_at-none m a = refl

pub bytes_at-length : (m : Memory) (a n : ℕ) → length (bytes_at m a n) ≡ n
unfolding bytes_at
bytes_at-length m a zero = refl
bytes_at-length m a (suc n) = ap suc (bytes_at-length m (a + 1) n)

-- the bytes of a stretch are those of a piece and of what follows it
pub bytes_at-append : (m : Memory) (a i n : ℕ) → bytes_at m a (i + n) ≡ bytes_at m a i ++ bytes_at m (a + i) n
unfolding bytes_at
bytes_at-append m a zero n =
    let place : a + 0 ≡ a = omega arith in
    let count : 0 + n ≡ n = omega arith in
    rw (place, count) refl
bytes_at-append m a (suc i) n =
    let count : suc i + n ≡ suc (i + n) = omega arith in
    let place : a + 1 + i ≡ a + suc i = omega arith in
    rw (count, ← place) (ap (λ xs. m a ∷ xs) (bytes_at-append m (a + 1) i n))

-- two memories that are the same there have the same bytes
pub bytes_at-same : (m k : Memory) (a n : ℕ) → ((i : ℕ) → i < n → m (a + i) ≡ k (a + i)) → bytes_at m a n ≡ bytes_at k a n
unfolding bytes_at
bytes_at-same m k a zero h = refl
bytes_at-same m k a (suc n) h =
    let first : m a ≡ k a = grind (arith, h 0) in
    rw first (ap (λ xs. k a ∷ xs) (bytes_at-same m k (a + 1) n (λ i l. grind (arith, h (1 + i)))))

-- the bytes of a piece of a list, where they are those of the stretch
pub bytes_at-of_list : (m : Memory) (a n at : ℕ) (xs : List ℕ) → at + n ≤ length xs → ((i : ℕ) → i < n → get_or xs (at + i) 0 ≡ m (a + i)) → take n (drop at xs) ≡ bytes_at m a n
unfolding bytes_at
bytes_at-of_list m a zero at xs fits same = refl
bytes_at-of_list m a (suc n) at xs fits same =
    let first : get_or xs at 0 ≡ m a = grind (arith, same 0) in
    let rest : take n (drop (suc at) xs) ≡ bytes_at m (a + 1) n = bytes_at-of_list m (a + 1) n (suc at) xs (omega arith) (λ i l. grind (arith, same (1 + i))) in
    rw (drop-cons xs at 0 (omega arith), first, rest) refl

-- zero bytes
pub bytes_at-zeros : (m : Memory) (a n : ℕ) → ((i : ℕ) → i < n → m (a + i) ≡ 0) → replicate n 0 ≡ bytes_at m a n
unfolding bytes_at
bytes_at-zeros m a zero h = refl
bytes_at-zeros m a (suc n) h =
    let first : m a ≡ 0 = grind (arith, h 0) in
    rw first (ap (λ xs. 0 ∷ xs) (bytes_at-zeros m (a + 1) n (λ i l. grind (arith, h (1 + i)))))

-- ---- addresses that are data

-- a byte below 2^64
pub memory_in-low : (byte_at : ℕ → Option ℕ) (a : ℕ) → a < 2 ^ 64 → memory_in byte_at a ≡ unwrap_or (byte_at a) 0
memory_in-low byte_at a h = let test : nat_lt a (2 ^ 64) ≡ true = grind (arith, nat_tests) in rw test refl

-- what is data is below 2^64
pub data_in-low : (byte_at : ℕ → Option ℕ) (a : ℕ) → IsTrue (data_in byte_at a) → a < 2 ^ 64
data_in-low byte_at a h = by_test (nat_lt a (2 ^ 64)) refl h where
  by_test : (t : Bool) → nat_lt a (2 ^ 64) ≡ t → IsTrue (is_some (byte_if t (byte_at a))) → a < 2 ^ 64
  by_test true e inside = grind (arith, nat_tests)
  by_test false e inside = absurd (false≢true inside)

pub data_in-some : (byte_at : ℕ → Option ℕ) (a : ℕ) → a < 2 ^ 64 → data_in byte_at a ≡ is_some (byte_at a)
data_in-some byte_at a h = let test : nat_lt a (2 ^ 64) ≡ true = grind (arith, nat_tests) in rw test refl

pub data_in-past : (byte_at : ℕ → Option ℕ) (a : ℕ) → 2 ^ 64 ≤ a → data_in byte_at a ≡ false
data_in-past byte_at a h = let test : nat_lt a (2 ^ 64) ≡ false = grind (arith, nat_tests) in rw test refl
