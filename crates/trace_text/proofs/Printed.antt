-- Numbers and bytes that are printed are read again, and they hold no space.
use Rattle.std.proofs.Common.{◌≡◌, ◌≢◌, ℕ, zero, suc, ◌+◌, ◌-◌, ◌*◌, ◌/◌, ◌%◌, ◌^◌, ◌<◌, ◌≤◌, Bool, true, false, cond, eqb, ltb, leb, List, [], ◌∷◌, length, take, refl, sym, ap, ◌∙◌, arith, ℤ, pos, negsuc}
use Rattle.std.specs.Prelude.{Some, ◌&&◌, not, codes, decimal, bytes_eq}
use Rattle.std.specs.Char.{digit_char}
use Rattle.std.specs.Cmp.Derive.{both_true}
use Rattle.std.specs.Fmt.{digits, digits_onto, digit_glyph, signed_decimal}
use Rattle.std.specs.List.{list_all}
use Rattle.std.specs.Str.Parse.{digits_value}
use Rattle.std.proofs.Math.Nat.{div-lt_iff_lt-mul, pow-suc, pow-zero}
use Rattle.std.proofs.lemmas.Bool.{eqb-true, le-leb}
use Rattle.std.proofs.lemmas.Bool.Decides.{nat_tests}
use Rattle.std.proofs.lemmas.Fmt.{digits_is_IsNumeral}
use Rattle.trace_text.specs.Line.{hex_text, address_text}
use Rattle.trace_text.specs.Grammar.{digit_of, are_digits, has_no_leading_zero, number_in, minus, answer_in, address_in, is_hex, pairs, name_in, text_count_in}
use Rattle.trace_text.specs.RoundTrip.{IsAnswer, AreBytes, IsName}
use Rattle.trace_text.proofs.NumberLaws.{and-left, and-right, name_in-some}

-- a word holds no space
abbrev pub is_word : List ℕ → Bool
is_word word = list_all (λ c. not (eqb c 32)) word

digit-no_space : (base c : ℕ) → base ≤ 16 → ltb (digit_of c) base ≡ true → not (eqb c 32) ≡ true
digit-no_space base c few digit = grind (arith, nat_tests)

pub is_word-digits : (base : ℕ) (word : List ℕ) → base ≤ 16 → are_digits base word ≡ true → is_word word ≡ true
is_word-digits base [] few all = refl
is_word-digits base (c ∷ cs) few all =
    both_true (digit-no_space base c few (and-left (ltb (digit_of c) base) (are_digits base cs) all))
    (is_word-digits base cs few (and-right (ltb (digit_of c) base) (are_digits base cs) all))

-- ---- digits

glyph-digit : (base n : ℕ) → 2 ≤ base → base ≤ 16 → ltb (digit_of (digit_glyph false (n % base))) base ≡ true
glyph-digit base n some few = let small : n % base < base = omega arith in grind (arith, nat_tests)

digits_onto-digits : (k base n : ℕ) (acc : List ℕ) → 2 ≤ base → base ≤ 16 → are_digits base acc ≡ true
    → are_digits base (digits_onto k base false n acc) ≡ true
digits_onto-digits zero base n acc some few all = all
digits_onto-digits (suc k) base n acc some few all =
    let front : are_digits base (digit_glyph false (n % base) ∷ acc) ≡ true = both_true (glyph-digit base n some few) all in
    let behind = digits_onto-digits k base (n / base) (digit_glyph false (n % base) ∷ acc) some few front in
    elim (eqb (n / base) 0) as (λ b. are_digits base (cond b (digit_glyph false (n % base) ∷ acc) (digits_onto k base false (n / base) (digit_glyph false (n % base) ∷ acc))) ≡ true)
    [ true ↦ front | false ↦ behind ]

-- a first digit that isn't 0 leads no number with a zero
not_zero-leads : (c : ℕ) (cs : List ℕ) → c ≢ 48 → has_no_leading_zero (c ∷ cs) ≡ true
not_zero-leads c [] other = refl
not_zero-leads c (d ∷ cs) other = grind (arith, nat_tests)

glyph-not_zero : (base n : ℕ) → 2 ≤ base → base ≤ 16 → 0 < n → n / base ≡ 0 → digit_glyph false (n % base) ≢ 48
glyph-not_zero base n some few positive low = let none : base * (n / base) ≡ base * 0 = ap (λ (q : ℕ). base * q) low in let same : n % base ≡ n = omega (arith, none) in let small : n % base < base = omega arith in grind (arith, nat_tests)

chosen : (b : Bool) (m : ℕ) (first : List ℕ) (others : List ℕ) → eqb m 0 ≡ b
    → (m ≡ 0 → has_no_leading_zero first ≡ true) → (0 < m → has_no_leading_zero others ≡ true) → has_no_leading_zero (cond b first others) ≡ true
chosen true m first others test here behind = here (eqb-true m 0 test)
chosen false m first others test here behind = let positive : 0 < m = grind (arith, nat_tests) in behind positive

front-below : (k base n : ℕ) → 2 ≤ base → n < base ^ suc k → n / base < base ^ k
front-below k base n some small =
    let positive : zero < base = omega arith in
    let product : n < base ^ k * base = rw (sym (pow-suc base k)) small in
    (div-lt_iff_lt-mul {k = base} {x = n} {y = base ^ k} positive).1 product

digits_onto-leads : (k base n : ℕ) (acc : List ℕ) → 2 ≤ base → base ≤ 16 → 0 < n → n < base ^ k → has_no_leading_zero (digits_onto k base false n acc) ≡ true
digits_onto-leads zero base n acc some few positive small = absurd (omega (arith, pow-zero base))
digits_onto-leads (suc k) base n acc some few positive small =
    chosen (eqb (n / base) 0) (n / base) (digit_glyph false (n % base) ∷ acc) (digits_onto k base false (n / base) (digit_glyph false (n % base) ∷ acc)) refl
    (λ low. not_zero-leads (digit_glyph false (n % base)) acc (glyph-not_zero base n some few positive low))
    (λ more. digits_onto-leads k base (n / base) (digit_glyph false (n % base) ∷ acc) some few more (front-below k base n some small))

-- the number 0 is one digit
digits_onto-first : (k base n : ℕ) → 2 ≤ base → base ≤ 16 → n < base ^ suc k → has_no_leading_zero (digits_onto (suc k) base false n []) ≡ true
digits_onto-first k base n some few small =
    chosen (eqb (n / base) 0) (n / base) (digit_glyph false (n % base) ∷ []) (digits_onto k base false (n / base) (digit_glyph false (n % base) ∷ [])) refl
    (λ low. refl)
    (λ more. digits_onto-leads k base (n / base) (digit_glyph false (n % base) ∷ []) some few more (front-below k base n some small))

pub digits-digits : (base n : ℕ) → 2 ≤ base → base ≤ 16 → are_digits base (digits base false n) ≡ true
unfolding digits
digits-digits base n some few = digits_onto-digits 64 base n [] some few refl

pub digits-leads : (base n : ℕ) → 2 ≤ base → base ≤ 16 → n < base ^ 64 → has_no_leading_zero (digits base false n) ≡ true
unfolding digits
digits-leads base n some few small = digits_onto-first 63 base n some few small

-- a number that is printed is read
pub number_in-digits : (base most n : ℕ) → 2 ≤ base → base ≤ 16 → n < base ^ 64 → n ≤ most → number_in base most (digits base false n) ≡ Some n
unfolding number_in
number_in-digits base most n some few small bound =
    let value : digits_value base (digits base false n) ≡ n = (digits_is_IsNumeral base false some few n small).1 in
    let within : leb (digits_value base (digits base false n)) most ≡ true = rw value (grind (arith, nat_tests)) in
    rw (digits-leads base n some few small, digits-digits base n some few, within) (ap (λ (m : ℕ). Some m) value)

pub number_in-decimal : (most n : ℕ) → n < 2 ^ 64 → n ≤ most → number_in 10 most (decimal n) ≡ Some n
number_in-decimal most n small bound = number_in-digits 10 most n (omega arith) (omega arith) (omega arith) bound

pub is_word-decimal : (n : ℕ) → is_word (decimal n) ≡ true
is_word-decimal n = is_word-digits 10 (decimal n) (omega arith) (digits-digits 10 n (omega arith) (omega arith))

-- ---- answers

minus-free : (c : ℕ) → ltb (digit_of c) 10 ≡ true → (eqb c 45 && true) ≡ false
minus-free c digit = grind (arith, nat_tests)

minus-suc : (n : ℕ) → minus (suc n) ≡ Some (negsuc n)
minus-suc n = let test : eqb (suc n) 0 ≡ false = grind (arith, nat_tests) in let same : suc n - 1 ≡ n = omega arith in rw (test, same) refl

no_minus : (word : List ℕ) → are_digits 10 word ≡ true → bytes_eq (take 1 word) (codes "-") ≡ false
no_minus [] all = refl
no_minus (c ∷ cs) all = let digit = and-left (ltb (digit_of c) 10) (are_digits 10 cs) all in minus-free c digit

pub answer_in-signed : (z : ℤ) → IsAnswer z → answer_in (signed_decimal z) ≡ Some z
unfolding answer_in
answer_in-signed (pos n) small =
    rw (no_minus (decimal n) (digits-digits 10 n (omega arith) (omega arith)), number_in-decimal (2 ^ 63 - 1) n (omega arith) (omega arith)) refl
answer_in-signed (negsuc n) small = rw (number_in-decimal (2 ^ 63) (suc n) (omega arith) (omega arith)) (minus-suc n)

pub is_word-signed : (z : ℤ) → is_word (signed_decimal z) ≡ true
is_word-signed (pos n) = is_word-decimal n
is_word-signed (negsuc n) = is_word-decimal (suc n)

-- ---- addresses

pub address_in-text : (n : ℕ) → n < 2 ^ 64 → address_in (address_text n) ≡ Some n
unfolding address_in
address_in-text n small = number_in-digits 16 (2 ^ 64 - 1) n (omega arith) (omega arith) (omega arith) (omega arith)

pub is_word-address : (n : ℕ) → is_word (address_text n) ≡ true
is_word-address n = is_word-digits 16 (digits 16 false n) (omega arith) (digits-digits 16 n (omega arith) (omega arith))

-- ---- bytes

digit-char : (d : ℕ) → d < 16 → digit_of (digit_char d) ≡ d
digit-char d small = grind (arith, nat_tests)

char-digit : (d : ℕ) → d < 16 → ltb (digit_of (digit_char d)) 16 ≡ true
char-digit d small = rw (digit-char d small) (grind (arith, nat_tests))

pub hex_text-digits : (bytes : List ℕ) → AreBytes bytes → are_digits 16 (hex_text bytes) ≡ true
hex_text-digits [] all = refl
hex_text-digits (b ∷ bs) all =
    let low : b < 256 = all.0 in
    both_true (char-digit (b / 16) (omega arith)) (both_true (char-digit (b % 16) (omega arith)) (hex_text-digits bs all.1))

pub length-hex_text : (bytes : List ℕ) → length (hex_text bytes) ≡ 2 * length bytes
length-hex_text [] = refl
length-hex_text (b ∷ bs) = omega (arith, length-hex_text bs)

pub pairs-hex_text : (bytes : List ℕ) → AreBytes bytes → pairs (hex_text bytes) ≡ bytes
unfolding pairs
pairs-hex_text [] all = refl
pairs-hex_text (b ∷ bs) all =
    let low : b < 256 = all.0 in
    let high-is : digit_of (digit_char (b / 16)) ≡ b / 16 = digit-char (b / 16) (omega arith) in
    let low-is : digit_of (digit_char (b % 16)) ≡ b % 16 = digit-char (b % 16) (omega arith) in
    let byte : 16 * digit_of (digit_char (b / 16)) + digit_of (digit_char (b % 16)) ≡ b = rw (high-is, low-is) (omega arith) in
    ap (λ (c : ℕ). c ∷ pairs (hex_text bs)) byte ∙ ap (λ (cs : List ℕ). b ∷ cs) (pairs-hex_text bs all.1)

is_hex-hex_text : (bytes : List ℕ) → AreBytes bytes → is_hex (hex_text bytes) ≡ true
is_hex-hex_text bytes all =
    let even : length (hex_text bytes) % 2 ≡ 0 = omega (arith, length-hex_text bytes) in
    both_true (hex_text-digits bytes all) (rw even refl)

pub name_in-hex_text : (name : List ℕ) → IsName name → name_in (hex_text name) ≡ Some name
name_in-hex_text name h =
    let some : leb 2 (length (hex_text name)) ≡ true = rw (length-hex_text name) (le-leb 2 (2 * length name) (omega (arith, h.some))) in
    let few : leb (length (hex_text name)) 510 ≡ true = rw (length-hex_text name) (le-leb (2 * length name) 510 (omega (arith, h.few))) in
    name_in-some (hex_text name) (both_true (both_true (is_hex-hex_text name h.bytes) some) few) ∙ ap (λ (xs : List ℕ). Some xs) (pairs-hex_text name h.bytes)

pub text_count_in-hex_text : (text : List ℕ) → 1 ≤ length text → AreBytes text → text_count_in (hex_text text) ≡ Some (length text)
unfolding text_count_in
text_count_in-hex_text text some all =
    let long : leb 2 (length (hex_text text)) ≡ true = rw (length-hex_text text) (le-leb 2 (2 * length text) (omega (arith, some))) in
    let half : length (hex_text text) / 2 ≡ length text = omega (arith, length-hex_text text) in
    rw (is_hex-hex_text text all, long) (ap (λ (n : ℕ). Some n) half)

pub is_word-hex_text : (bytes : List ℕ) → AreBytes bytes → is_word (hex_text bytes) ≡ true
is_word-hex_text bytes all = is_word-digits 16 (hex_text bytes) (omega arith) (hex_text-digits bytes all)
