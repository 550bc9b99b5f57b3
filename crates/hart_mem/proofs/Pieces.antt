-- Bytes written over a piece of a list.
use Rattle.std.proofs.Common.{◌≡◌, ℕ, ◌+◌, ◌-◌, ◌<◌, ◌≤◌, List, ◌++◌, length, get_or, take, drop, refl, ◌∙◌, arith, inl, inr, ◌⊎◌, slice_range, ap, length-append, length-drop}
use Rattle.std.proofs.lemmas.Bool.{cases_lt}
use Rattle.std.proofs.lemmas.Bool.Decides.{nat_tests}
use Rattle.std.proofs.lemmas.List.{get_or_append_left, get_or-append_right, get_or-take, get_or-drop, length-take-le}
use Rattle.std.proofs.Math.Path.{fun_ext}
use Rattle.rv_model.specs.Memory.{Memory, patched, written}
use Rattle.page_pool.specs.Pages.{overwritten}
use Rattle.hart_mem.specs.Paged.{byte_in}

-- an index is before a piece of n from `at` on, in it, or past it
cases_piece : (b at n : ℕ) → (b < at) ⊎ (((at ≤ b) × (b < at + n)) ⊎ (at + n ≤ b))
cases_piece b at n = elim (cases_lt b at) [ inl p ↦ inl p | inr q ↦ elim (cases_lt b (at + n)) [ inl p ↦ inr (inl (q, p)) | inr p ↦ inr (inr p) ] ]

module _ (xs ys : List ℕ) (at : ℕ) (fits : at + length ys ≤ length xs) where
  front : length (take at xs) ≡ at
  front = length-take-le at xs (omega arith)

  upto : length (take at xs ++ ys) ≡ at + length ys
  upto = omega (arith, length-append (take at xs) ys, front)

  piece_byte : (b : ℕ) → (b < at) ⊎ (((at ≤ b) × (b < at + length ys)) ⊎ (at + length ys ≤ b)) → byte_in (overwritten xs at ys) b ≡ written (byte_in xs) at ys b
  unfolding patched byte_in
  piece_byte b (inl p) =
      let s : get_or (take at xs ++ ys ++ drop (at + length ys) xs) b 0 ≡ get_or xs b 0 =
      get_or_append_left (take at xs ++ ys) (drop (at + length ys) xs) 0 b (rw upto (omega arith)) ∙ get_or_append_left (take at xs) ys 0 b (rw front p) ∙ get_or-take at xs b 0 p in
      grind (arith, nat_tests)
  piece_byte b (inr (inl (q, p))) =
      let s : get_or (take at xs ++ ys ++ drop (at + length ys) xs) b 0 ≡ get_or ys (b - at) 0 =
      get_or_append_left (take at xs ++ ys) (drop (at + length ys) xs) 0 b (rw upto p) ∙ get_or-append_right (take at xs) ys at b 0 front q in
      grind (arith, nat_tests)
  piece_byte b (inr (inr p)) =
      let i : at + length ys + (b - (at + length ys)) ≡ b = omega arith in
      let s : get_or (take at xs ++ ys ++ drop (at + length ys) xs) b 0 ≡ get_or xs b 0 =
      get_or-append_right (take at xs ++ ys) (drop (at + length ys) xs) (at + length ys) b 0 upto p ∙ rw (get_or-drop, i) refl in
      grind (arith, nat_tests)

  pub byte_in-overwritten : byte_in (overwritten xs at ys) ≡ written (byte_in xs) at ys
  byte_in-overwritten = fun_ext (λ b. piece_byte b (cases_piece b at (length ys)))

  pub length-overwritten : length (overwritten xs at ys) ≡ length xs
  length-overwritten = omega (arith, length-append (take at xs ++ ys) (drop (at + length ys) xs), upto, length-drop (at + length ys) xs)

-- ---- bytes written piece by piece

-- no bytes are written yet
pub patched_none : (m : Memory) (place : ℕ) (f : Memory) → m ≡ patched m place 0 f
unfolding patched
patched_none m place f = fun_ext (λ b. grind (arith, nat_tests))

range_byte : (xs : List ℕ) (i j k : ℕ) → k < j - i → get_or (slice_range xs i j) k 0 ≡ get_or xs (i + k) 0
range_byte xs i j k h = get_or-take (j - i) (drop i xs) k 0 h ∙ get_or-drop i xs k 0

length_range : (xs : List ℕ) (i j : ℕ) → j ≤ length xs → length (slice_range xs i j) ≡ j - i
length_range xs i j h = length-take-le (j - i) (drop i xs) (omega (arith, length-drop i xs))

-- the bytes from i up to j, after those before i
pub patched_more : (m : Memory) (place i j : ℕ) (xs : List ℕ) → i ≤ j → j ≤ length xs → written (patched m place i (byte_in xs)) (place + i) (slice_range xs i j) ≡ patched m place j (byte_in xs)
unfolding patched byte_in
patched_more m place i j xs h k =
    let len : length (slice_range xs i j) ≡ j - i = length_range xs i j k in
    fun_ext (λ b.
    let back : place + i ≤ b → i + (b - (place + i)) ≡ b - place = λ q. omega arith in
    let same : place + i ≤ b → b < place + j → get_or (slice_range xs i j) (b - (place + i)) 0 ≡ get_or xs (b - place) 0 =
    λ p q. range_byte xs i j (b - (place + i)) (omega arith) ∙ ap (λ n. get_or xs n 0) (back p) in
    grind (arith, nat_tests, same))

-- all of them
pub patched_all : (m : Memory) (place n : ℕ) (xs : List ℕ) → n ≡ length xs → patched m place n (byte_in xs) ≡ written m place xs
unfolding byte_in
patched_all m place n xs e = rw e refl
