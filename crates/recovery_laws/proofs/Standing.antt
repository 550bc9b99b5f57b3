-- Bytes that stand in a file: their parts, and their numbers.
use Rattle.std.proofs.Common.{◌≡◌, ℕ, zero, suc, ◌+◌, ◌*◌, ◌/◌, ◌%◌, ◌^◌, ◌<◌, ◌≤◌, List, [], ◌∷◌, ◌++◌, length, take, drop, slice_index, refl, sym, ap, arith, ◌∙◌, length-append}
use Rattle.std.specs.Prelude.{All}
use Rattle.std.proofs.lemmas.List.{get_or-drop, get_or-take, take-take, take_at, drop_at, drop-drop, drop-take, length-take, length-drop, nil_from_length}
use Rattle.std.proofs.lemmas.List.Elements.{All-head, All-tail}
use Rattle.std.proofs.lemmas.Nat.{from_le_bytes-to_le_bytes_2, from_le_bytes-to_le_bytes_4, from_le_bytes-to_le_bytes_8}
use Rattle.std.specs.Int.{w16, w32, w64, to_le_bytes, from_le_bytes}
use Rattle.byteorder.specs.Endian.{little_from}
use Rattle.elf_image.specs.Fields.{word_at}
use Rattle.elf_image.specs.Image.{words_at}
use Rattle.elf_writer.specs.Headers.{word}
use Rattle.elf_writer.specs.RewrittenFile.{word_bytes}
use Rattle.elf_writer.specs.Places.{StandsAt}

-- ---- parts of what stands

-- the front of it
pub StandsAt-front : (o : ℕ) (a b file : List ℕ) → StandsAt o (a ++ b) file → StandsAt o a file
StandsAt-front o a b file h =
    let shorter : length a ≤ length (a ++ b) = omega (arith, length-append a b) in
    sym (take-take (length a) (length (a ++ b)) (drop o file) shorter) ∙ ap (take (length a)) h ∙ take_at a b (length a) refl

-- and what is behind a front of n bytes
pub StandsAt-back : (o n : ℕ) (a b file : List ℕ) → length a ≡ n → StandsAt o (a ++ b) file → StandsAt (o + n) b file
StandsAt-back o n a b file long h =
    let all : length (a ++ b) ≡ n + length b = length-append a b ∙ ap (λ k. k + length b) long in
    ap (take (length b)) (sym (drop-drop n o file))
    ∙ sym (drop-take n (length b) (drop o file))
    ∙ ap (λ k. drop n (take k (drop o file))) (sym all)
    ∙ ap (drop n) h ∙ drop_at a b n long

-- it ends inside the file
pub StandsAt-inside : (o : ℕ) (content file : List ℕ) → 0 < length content → StandsAt o content file → o + length content ≤ length file
StandsAt-inside o content file some h =
    let long : length (take (length content) (drop o file)) ≡ length content = ap length h in
    omega (arith, long, some, length-take (length content) (drop o file), length-drop o file)

-- n bytes that stand in the file, where there are any
pub takes-standing : (n o : ℕ) (content file : List ℕ) → length content ≡ n → (0 < n → StandsAt o content file) → take n (drop o file) ≡ content
takes-standing zero o content file long h = sym (nil_from_length content long)
takes-standing (suc n) o content file long h = ap (λ k. take k (drop o file)) (sym long) ∙ h (omega arith)

-- ---- numbers

stands-index : (o i : ℕ) (content file : List ℕ) → StandsAt o content file → i < length content → slice_index file (o + i) ≡ slice_index content i
stands-index o i content file h below =
    sym (get_or-drop o file i 0) ∙ sym (get_or-take (length content) (drop o file) i 0 below) ∙ ap (λ w. slice_index w i) h

-- the number of n bytes at an offset of what stands in the file
pub reads-standing : (n o i : ℕ) (content file : List ℕ) → StandsAt o content file → i + n ≤ length content → little_from (o + i) n file ≡ little_from i n content
reads-standing zero o i content file h few = refl
reads-standing (suc n) o i content file h few =
    let next : suc (o + i) ≡ o + suc i = omega arith in
    ap (λ (x : ℕ). x + 256 * little_from (suc (o + i)) n file) (stands-index o i content file h (omega (arith, few)))
    ∙ ap (λ (k : ℕ). slice_index content i + 256 * little_from k n file) next
    ∙ ap (λ (m : ℕ). slice_index content i + 256 * m) (reads-standing n o (suc i) content file h (omega (arith, few)))

-- the same at a place that is told by itself
pub reads-at : (n o i at : ℕ) (content file : List ℕ) → o + i ≡ at → StandsAt o content file → i + n ≤ length content → little_from at n file ≡ little_from i n content
reads-at n o i at content file e h few = ap (λ k. little_from k n file) (sym e) ∙ reads-standing n o i content file h few

-- ---- both ways to put bytes together

lin2 : (a b : ℕ) → a + 256 * (b + 256 * 0) ≡ a + (b * 256)
lin2 a b = omega arith

horner2 : (a b : ℕ) → little_from 0 2 (a ∷ b ∷ []) ≡ from_le_bytes w16 (a ∷ b ∷ [])
horner2 a b = lin2 a b

lin4 : (a b c d : ℕ) → a + 256 * (b + 256 * (c + 256 * (d + 256 * 0))) ≡ a + b * 256 + c * 65536 + d * 16777216
lin4 a b c d = omega arith

horner4 : (a b c d : ℕ) → little_from 0 4 (a ∷ b ∷ c ∷ d ∷ []) ≡ from_le_bytes w32 (a ∷ b ∷ c ∷ d ∷ [])
horner4 a b c d = lin4 a b c d

lin8 : (a b c d e f g h : ℕ)
    → a + 256 * (b + 256 * (c + 256 * (d + 256 * (e + 256 * (f + 256 * (g + 256 * (h + 256 * 0)))))))
    ≡ a + b * 256 + c * 65536 + d * 16777216 + e * 4294967296 + f * 1099511627776 + g * 281474976710656 + h * 72057594037927936
lin8 a b c d e f g h = omega arith

horner8 : (a b c d e f g h : ℕ)
    → little_from 0 8 (a ∷ b ∷ c ∷ d ∷ e ∷ f ∷ g ∷ h ∷ []) ≡ from_le_bytes w64 (a ∷ b ∷ c ∷ d ∷ e ∷ f ∷ g ∷ h ∷ [])
horner8 a b c d e f g h = lin8 a b c d e f g h

-- numbers come back from their bytes
pub back2 : (n : ℕ) → n < 2 ^ 16 → little_from 0 2 (to_le_bytes w16 n) ≡ n
back2 n small = horner2 (n % 256) (n / 256 % 256) ∙ from_le_bytes-to_le_bytes_2 n small

pub back4 : (n : ℕ) → n < 2 ^ 32 → little_from 0 4 (to_le_bytes w32 n) ≡ n
back4 n small = horner4 (n % 256) (n / 256 % 256) (n / 65536 % 256) (n / 16777216 % 256) ∙ from_le_bytes-to_le_bytes_4 n small

pub back8 : (n : ℕ) → n < 2 ^ 64 → little_from 0 8 (to_le_bytes w64 n) ≡ n
back8 n small =
    horner8 (n % 256) (n / 256 % 256) (n / 65536 % 256) (n / 16777216 % 256) (n / 4294967296 % 256) (n / 1099511627776 % 256)
    (n / 281474976710656 % 256) (n / 72057594037927936 % 256) ∙ from_le_bytes-to_le_bytes_8 n small

-- ---- words

-- words that stand in the file are read there
pub words-back : (words : List ℕ) (o : ℕ) (file : List ℕ) → All (λ w. w < 2 ^ 32) words → StandsAt o (word_bytes words) file
    → words_at o (length words) file ≡ words
words-back [] o file small h = refl
words-back (w ∷ words) o file small h =
    let here : word_at o file ≡ w =
    reads-at 4 o 0 o (word w) file (omega arith) (StandsAt-front o (word w) (word_bytes words) file h) (omega arith)
    ∙ back4 w (All-head (λ x. x < 2 ^ 32) w words small) in
    let rest : words_at (o + 4) (length words) file ≡ words =
    words-back words (o + 4) file (All-tail (λ x. x < 2 ^ 32) w words small) (StandsAt-back o 4 (word w) (word_bytes words) file refl h) in
    ap (λ x. x ∷ words_at (o + 4) (length words) file) here ∙ ap (λ ws. w ∷ ws) rest
