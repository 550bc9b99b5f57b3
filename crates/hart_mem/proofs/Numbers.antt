-- Numbers in memory: on which bytes one depends, how large it is, and how it grows byte by byte.
use Rattle.std.proofs.Common.{◌≡◌, ℕ, zero, suc, ◌+◌, ◌*◌, ◌^◌, ◌<◌, ◌≤◌, refl, arith, lit<}
use Rattle.std.proofs.Math.Nat.{pow-le-pow_right}
use Rattle.std.proofs.lemmas.Nat.{pow-add}
use Rattle.rv_model.specs.Memory.{Memory, loaded}

-- a number depends on its own bytes alone, wherever they stand
pub loaded_same : (m k : Memory) (n a b : ℕ) → ((i : ℕ) → i < n → m (a + i) ≡ k (b + i)) → loaded m a n ≡ loaded k b n
unfolding loaded
loaded_same m k zero a b h = refl
loaded_same m k (suc n) a b h =
    let first : m a ≡ k b = grind (arith, h 0) in
    let rest : loaded m (a + 1) n ≡ loaded k (b + 1) n = loaded_same m k n (a + 1) (b + 1) (λ i l. grind (arith, h (1 + i))) in
    cc

-- zero bytes are the number 0
pub loaded_zero : (m : Memory) (n a : ℕ) → ((i : ℕ) → i < n → m (a + i) ≡ 0) → 0 ≡ loaded m a n
unfolding loaded
loaded_zero m zero a h = refl
loaded_zero m (suc n) a h =
    let first : m a ≡ 0 = grind (arith, h 0) in
    let rest : 0 ≡ loaded m (a + 1) n = loaded_zero m n (a + 1) (λ i l. grind (arith, h (1 + i))) in
    omega arith

pub loaded_fits : (m : Memory) (n a : ℕ) → ((b : ℕ) → m b < 256) → loaded m a n < 2 ^ (8 * n)
unfolding loaded
loaded_fits m zero a h = omega arith
loaded_fits m (suc n) a h =
    let e : 2 ^ (8 * suc n) ≡ 256 * 2 ^ (8 * n) = (let q : 8 * suc n ≡ 8 + 8 * n = omega arith in rw (q, pow-add 2 8 (8 * n)) refl) in
    omega (arith, e, h a, loaded_fits m n (a + 1) h)

-- ---- a loop that goes down over the bytes

pub loaded_none : (m : Memory) (n a : ℕ) → n ≡ 0 → 0 ≡ loaded m a n
unfolding loaded
loaded_none m zero a e = refl
loaded_none m (suc n) a e = absurd (omega arith)

pub loaded_step : (m : Memory) (n k a b : ℕ) → k ≡ n + 1 → b ≡ a + 1 → loaded m b n * 256 + m a ≡ loaded m a k
unfolding loaded
loaded_step m n zero a b e f = absurd (omega arith)
loaded_step m n (suc k) a b e f =
    let e' : k ≡ n = omega arith in
    rw (e', f) (omega arith)

pub room_for_byte : (n : ℕ) → n < 8 → 2 ^ (8 * n) * 256 ≤ 2 ^ 64
room_for_byte n h =
    let q : 2 ^ (8 * n + 8) ≡ 2 ^ (8 * n) * 2 ^ 8 = pow-add 2 (8 * n) 8 in
    let le : 8 * n + 8 ≤ 64 = omega arith in
    let p : 2 ^ (8 * n + 8) ≤ 2 ^ 64 = pow-le-pow_right (lit< tt) le in
    omega arith

-- a number of n bytes and one byte more
pub byte_more : (n k v b : ℕ) → k ≡ n + 1 → v < 2 ^ (8 * n) → b < 256 → v * 256 + b < 2 ^ (8 * k)
byte_more n k v b e low byte =
    let q : 2 ^ (8 * n + 8) ≡ 2 ^ (8 * n) * 2 ^ 8 = pow-add 2 (8 * n) 8 in
    let s : 8 * k ≡ 8 * n + 8 = omega arith in
    rw s (omega arith)

-- ---- a number of a fixed width

-- the last byte of a number stands for itself times a power of 256
pub loaded_last : (m : Memory) (n a : ℕ) → loaded m a (suc n) ≡ loaded m a n + m (a + n) * 256 ^ n
unfolding loaded
loaded_last m zero a = grind arith
loaded_last m (suc n) a =
    let rest : loaded m (a + 1) (suc n) ≡ loaded m (a + 1) n + m (a + 1 + n) * 256 ^ n = loaded_last m n (a + 1) in
    let e : m (a + 1 + n) ≡ m (a + suc n) = grind arith in
    let p : 256 ^ suc n ≡ 256 * 256 ^ n = omega arith in
    rw (p, rest, e) (omega arith)

pub loaded_two : (m : Memory) (a : ℕ) → m a + m (a + 1) * 256 ≡ loaded m a 2
loaded_two m a = grind (arith, loaded_last m 1 a, loaded_last m 0 a, loaded_none m 0 a refl)

pub loaded_four : (m : Memory) (a : ℕ) → m a + m (a + 1) * 256 + m (a + 2) * 65536 + m (a + 3) * 16777216 ≡ loaded m a 4
loaded_four m a = grind (arith, loaded_last m 3 a, loaded_last m 2 a, loaded_two m a)

pub loaded_eight : (m : Memory) (a : ℕ) → m a + m (a + 1) * 256 + m (a + 2) * 65536 + m (a + 3) * 16777216 + m (a + 4) * 4294967296 + m (a + 5) * 1099511627776 + m (a + 6) * 281474976710656 + m (a + 7) * 72057594037927936 ≡ loaded m a 8
loaded_eight m a = grind (arith, loaded_last m 7 a, loaded_last m 6 a, loaded_last m 5 a, loaded_last m 4 a, loaded_four m a)

pub loaded_byte : (m : Memory) (a : ℕ) → m a ≡ loaded m a 1
loaded_byte m a = grind (arith, loaded_last m 0 a, loaded_none m 0 a refl)
