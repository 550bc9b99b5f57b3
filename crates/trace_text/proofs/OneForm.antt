-- A number that is read, and bytes that are read, are printed as they were.
use Rattle.std.proofs.Common.{◌≡◌, ℕ, zero, suc, ◌+◌, ◌-◌, ◌*◌, ◌/◌, ◌%◌, ◌^◌, ◌<◌, ◌≤◌, Bool, true, false, cond, eqb, ltb, leb, List, [], ◌∷◌, ◌++◌, length, take, drop, refl, sym, ap, ◌∙◌, arith, add-zero, ℤ, pos, negsuc, inl, inr}
use Rattle.std.specs.Prelude.{Option, Some, None, option_map, option_and_then, ◌&&◌, not, codes, decimal, bytes_eq}
use Rattle.std.specs.Char.{digit_value, digit_char}
use Rattle.std.specs.Fmt.{digits, digits_onto, digit_glyph, signed_decimal}
use Rattle.std.specs.Str.Parse.{digits_value, digits_value_after}
use Rattle.std.proofs.Math.Nat.{mul-add-div_right, div-eq_of_lt, mod-eq-sub-div-mul, mul-le-mul_left, mul-le-mul_right, pow-suc}
use Rattle.std.proofs.Math.Pow.{pow_mono}
use Rattle.std.proofs.lemmas.Bool.{ltb-true, leb-true, eqb-true, cases_lt}
use Rattle.std.proofs.lemmas.Bool.Decides.{nat_tests}
use Rattle.std.proofs.lemmas.List.{append-nil, take-append-drop}
use Rattle.std.proofs.lemmas.Option.{cond_some, same_Some}
use Rattle.std.proofs.lemmas.Slice.Eq.{bytes_eq-Decides}
use Rattle.trace_text.specs.Line.{hex_text, address_text}
use Rattle.trace_text.specs.Grammar.{digit_of, are_digits, has_no_leading_zero, number_in, minus, answer_in, address_in, is_hex, is_name, pairs, name_in, text_count_in}
use Rattle.trace_text.proofs.NumberLaws.{and-left, and-right, digit_value-is}

-- the value of a step that gave one
pub bind_some : {A B : Type 0} (o : Option A) (f : A → Option B) (y : B) → option_and_then f o ≡ Some y → (x : A) × (o ≡ Some x) × (f x ≡ Some y)
bind_some None f y read = absurd cc
bind_some (Some x) f y read = (x, refl, read)

pub map_some : {A B : Type 0} (f : A → B) (o : Option A) (y : B) → option_map f o ≡ Some y → (x : A) × (o ≡ Some x) × (f x ≡ y)
map_some f None y read = absurd cc
map_some f (Some x) y read = (x, refl, same_Some (f x) y read)

-- ---- numbers

glyph-digit_of : (base c : ℕ) → base ≤ 16 → digit_of c < base → digit_glyph false (digit_of c) ≡ c
glyph-digit_of base c few digit = grind (arith, nat_tests)

-- the last digit of a number whose front isn't 0
onto-last : (k base n d : ℕ) (acc : List ℕ) → 2 ≤ base → 0 < n → d < base
    → digits_onto (suc k) base false (n * base + d) acc ≡ digits_onto k base false n (digit_glyph false d ∷ acc)
onto-last k base n d acc some positive small =
    let low : d / base ≡ zero = div-eq_of_lt small in
    let front : (n * base + d) / base ≡ n = mul-add-div_right (omega arith) n d ∙ omega (arith, low) in
    let last : (n * base + d) % base ≡ d = mod-eq-sub-div-mul (n * base + d) base ∙ ap (λ (q : ℕ). n * base + d - q * base) front ∙ omega arith in
    let more : eqb n 0 ≡ false = grind (arith, nat_tests) in
    rw (front, last, more) refl

onto-one : (k base d : ℕ) (acc : List ℕ) → d < base → digits_onto (suc k) base false d acc ≡ digit_glyph false d ∷ acc
onto-one k base d acc small =
    let low : d / base ≡ zero = div-eq_of_lt small in
    let last : d % base ≡ d = omega (arith, ap (λ (q : ℕ). base * q) low) in
    rw (low, last) refl

onto-digits : (cs : List ℕ) (k base n : ℕ) (acc : List ℕ) → 2 ≤ base → base ≤ 16 → 0 < n → are_digits base cs ≡ true
    → digits_onto (k + length cs) base false (digits_value_after base n cs) acc ≡ digits_onto k base false n (cs ++ acc)
onto-digits [] k base n acc some few positive all = ap (λ (j : ℕ). digits_onto j base false n acc) (add-zero k)
onto-digits (c ∷ cs) k base n acc some few positive all =
    let digit : digit_of c < base = ltb-true (digit_of c) base (and-left (ltb (digit_of c) base) (are_digits base cs) all) in
    let value : digit_value c ≡ digit_of c = digit_value-is c base few digit in
    let fuel : k + suc (length cs) ≡ suc k + length cs = omega arith in
    let product : n * 2 ≤ n * base = mul-le-mul_left n some in
    let more : 0 < n * base + digit_of c = omega arith in
    let glyph : digit_glyph false (digit_of c) ≡ c = glyph-digit_of base c few digit in
    ap (λ (j : ℕ). digits_onto j base false (digits_value_after base (n * base + digit_value c) cs) acc) fuel
    ∙ ap (λ (d : ℕ). digits_onto (suc k + length cs) base false (digits_value_after base (n * base + d) cs) acc) value
    ∙ onto-digits cs (suc k) base (n * base + digit_of c) acc some few more (and-right (ltb (digit_of c) base) (are_digits base cs) all)
    ∙ onto-last k base n (digit_of c) (cs ++ acc) some positive digit
    ∙ ap (λ (g : ℕ). digits_onto k base false n (g ∷ cs ++ acc)) glyph

times : (n m p q v : ℕ) → (n * 2) * p ≤ m * p → m * p ≤ v → q ≡ p * 2 → n * q ≤ v
times n m p q v wide behind double = rw double (omega arith)

value-long : (cs : List ℕ) (base n : ℕ) → 2 ≤ base → n * 2 ^ length cs ≤ digits_value_after base n cs
value-long [] base n some = omega arith
value-long (c ∷ cs) base n some =
    let behind = value-long cs base (n * base + digit_value c) some in
    let product : n * 2 ≤ n * base = mul-le-mul_left n some in
    let wide : (n * 2) * 2 ^ length cs ≤ (n * base + digit_value c) * 2 ^ length cs = mul-le-mul_right (2 ^ length cs) (omega arith) in
    times n (n * base + digit_value c) (2 ^ length cs) (2 ^ suc (length cs)) _ wide behind (pow-suc 2 (length cs))

few-digits : (cs : List ℕ) (base n : ℕ) → 2 ≤ base → 0 < n → digits_value_after base n cs < 2 ^ 64 → length cs < 64
few-digits cs base n some positive small =
    elim (cases_lt (length cs) 64) [
      | inl lt ↦ lt
      | inr le ↦ (
          let large : 2 ^ 64 ≤ 2 ^ length cs = pow_mono le in
          let behind = value-long cs base n some in
          let one : 1 * 2 ^ length cs ≤ n * 2 ^ length cs = mul-le-mul_right (2 ^ length cs) positive in
          absurd (omega (arith, large, behind, one, small)))
    ]

-- digits that begin with no 0 are those of their value
digits-front : (base d : ℕ) (cs : List ℕ) → 2 ≤ base → base ≤ 16 → 0 < d → d < base → are_digits base cs ≡ true → digits_value_after base d cs < 2 ^ 64
    → digits base false (digits_value_after base d cs) ≡ digit_glyph false d ∷ cs
unfolding digits
digits-front base d cs some few positive small all bound =
    let short : length cs < 64 = few-digits cs base d some positive bound in
    let fuel : 64 ≡ suc (63 - length cs) + length cs = omega arith in
    ap (λ (j : ℕ). digits_onto j base false (digits_value_after base d cs) []) fuel
    ∙ onto-digits cs (suc (63 - length cs)) base d [] some few positive all
    ∙ onto-one (63 - length cs) base d (cs ++ []) small
    ∙ ap (λ (xs : List ℕ). digit_glyph false d ∷ xs) (append-nil cs)

digits-one : (base d : ℕ) → d < base → digits base false d ≡ digit_glyph false d ∷ []
unfolding digits
digits-one base d small = onto-one 63 base d [] small

first-positive : (base c : ℕ) → not (eqb c 48) ≡ true → digit_of c < base → base ≤ 16 → 0 < digit_of c
first-positive base c lead digit few = grind (arith, nat_tests)

digits-value : (base : ℕ) (word : List ℕ) → 2 ≤ base → base ≤ 16 → has_no_leading_zero word ≡ true → are_digits base word ≡ true → digits_value base word < 2 ^ 64
    → digits base false (digits_value base word) ≡ word
digits-value base [] some few lead all bound = absurd cc
digits-value base (c ∷ []) some few lead all bound =
    let digit : digit_of c < base = ltb-true (digit_of c) base (and-left (ltb (digit_of c) base) true all) in
    let value : 0 * base + digit_value c ≡ digit_of c = omega (arith, digit_value-is c base few digit) in
    ap (digits base false) value ∙ digits-one base (digit_of c) digit ∙ ap (λ (g : ℕ). g ∷ []) (glyph-digit_of base c few digit)
digits-value base (c ∷ d ∷ cs) some few lead all bound =
    let digit : digit_of c < base = ltb-true (digit_of c) base (and-left (ltb (digit_of c) base) (are_digits base (d ∷ cs)) all) in
    let value : 0 * base + digit_value c ≡ digit_of c = omega (arith, digit_value-is c base few digit) in
    let positive : 0 < digit_of c = first-positive base c lead digit few in
    let same : digits_value base (c ∷ d ∷ cs) ≡ digits_value_after base (digit_of c) (d ∷ cs) = ap (λ (n : ℕ). digits_value_after base n (d ∷ cs)) value in
    ap (digits base false) same
    ∙ digits-front base (digit_of c) (d ∷ cs) some few positive digit (and-right (ltb (digit_of c) base) (are_digits base (d ∷ cs)) all) (omega (arith, same, bound))
    ∙ ap (λ (g : ℕ). g ∷ d ∷ cs) (glyph-digit_of base c few digit)

pub number_in-form : (base most : ℕ) (word : List ℕ) (n : ℕ) → 2 ≤ base → base ≤ 16 → most < 2 ^ 64 → number_in base most word ≡ Some n → word ≡ digits base false n
unfolding number_in
number_in-form base most word n some few limit read =
    let parts = cond_some (has_no_leading_zero word && are_digits base word && leb (digits_value base word) most) (digits_value base word) n read in
    let front = and-left (has_no_leading_zero word && are_digits base word) (leb (digits_value base word) most) parts.0 in
    let bound = leb-true (digits_value base word) most (and-right (has_no_leading_zero word && are_digits base word) (leb (digits_value base word) most) parts.0) in
    sym (digits-value base word some few (and-left (has_no_leading_zero word) (are_digits base word) front) (and-right (has_no_leading_zero word) (are_digits base word) front) (omega (arith, bound, limit)))
    ∙ ap (digits base false) parts.1

pub decimal-form : (most : ℕ) (word : List ℕ) (n : ℕ) → most < 2 ^ 64 → number_in 10 most word ≡ Some n → word ≡ decimal n
decimal-form most word n limit read = number_in-form 10 most word n (omega arith) (omega arith) limit read

-- ---- answers and addresses

minus-value : (n : ℕ) → eqb (suc n) 0 ≡ false → suc n - 1 ≡ n → minus (suc n) ≡ Some (negsuc n)
minus-value n test same = rw (test, same) refl

minus-form : (n : ℕ) (z : ℤ) → minus n ≡ Some z → 45 ∷ decimal n ≡ signed_decimal z
minus-form zero z read = absurd cc
minus-form (suc n) z read =
    let test : eqb (suc n) 0 ≡ false = grind (arith, nat_tests) in
    let same : suc n - 1 ≡ n = omega arith in
    ap signed_decimal (same_Some (negsuc n) z (sym (minus-value n test same) ∙ read))

answer-branch : (b : Bool) (word : List ℕ) (z : ℤ) → bytes_eq (take 1 word) (codes "-") ≡ b
    → cond b (option_and_then minus (number_in 10 (2 ^ 63) (drop 1 word))) (option_map pos (number_in 10 (2 ^ 63 - 1) word)) ≡ Some z → word ≡ signed_decimal z
answer-branch true word z test read =
    let n = bind_some (number_in 10 (2 ^ 63) (drop 1 word)) minus z read in
    sym (take-append-drop 1 word) ∙ ap (λ (front : List ℕ). front ++ drop 1 word) ((bytes_eq-Decides (take 1 word) (codes "-")).0 test)
    ∙ ap (λ (ds : List ℕ). 45 ∷ ds) (decimal-form (2 ^ 63) (drop 1 word) n.0 (omega arith) n.1) ∙ minus-form n.0 z n.2
answer-branch false word z test read =
    let n = map_some pos (number_in 10 (2 ^ 63 - 1) word) z read in
    decimal-form (2 ^ 63 - 1) word n.0 (omega arith) n.1 ∙ ap signed_decimal n.2

pub answer_in-form : (word : List ℕ) (z : ℤ) → answer_in word ≡ Some z → word ≡ signed_decimal z
unfolding answer_in
answer_in-form word z read = answer-branch (bytes_eq (take 1 word) (codes "-")) word z refl read

address-branch : (b : Bool) (word : List ℕ) (n : ℕ) → bytes_eq (take 2 word) (codes "0x") ≡ b
    → cond b (number_in 16 (2 ^ 64 - 1) (drop 2 word)) None ≡ Some n → word ≡ address_text n
address-branch true word n test read =
    sym (take-append-drop 2 word) ∙ ap (λ (front : List ℕ). front ++ drop 2 word) ((bytes_eq-Decides (take 2 word) (codes "0x")).0 test)
    ∙ ap (λ (ds : List ℕ). codes "0x" ++ ds) (number_in-form 16 (2 ^ 64 - 1) (drop 2 word) n (omega arith) (omega arith) (omega arith) read)
address-branch false word n test read = absurd cc

pub address_in-form : (word : List ℕ) (n : ℕ) → address_in word ≡ Some n → word ≡ address_text n
unfolding address_in
address_in-form word n read = address-branch (bytes_eq (take 2 word) (codes "0x")) word n refl read

-- ---- bytes

char-digit_of : (c : ℕ) → digit_of c < 16 → digit_char (digit_of c) ≡ c
char-digit_of c digit = grind (arith, nat_tests)

pub hex_text-pairs : (word : List ℕ) → are_digits 16 word ≡ true → length word % 2 ≡ 0 → hex_text (pairs word) ≡ word
unfolding pairs
hex_text-pairs [] all even = refl
hex_text-pairs (c ∷ []) all even = absurd (omega (arith, even))
hex_text-pairs (high ∷ low ∷ cs) all even =
    let first : digit_of high < 16 = ltb-true (digit_of high) 16 (and-left (ltb (digit_of high) 16) (are_digits 16 (low ∷ cs)) all) in
    let rest = and-right (ltb (digit_of high) 16) (are_digits 16 (low ∷ cs)) all in
    let second : digit_of low < 16 = ltb-true (digit_of low) 16 (and-left (ltb (digit_of low) 16) (are_digits 16 cs) rest) in
    let behind = hex_text-pairs cs (and-right (ltb (digit_of low) 16) (are_digits 16 cs) rest) (omega (arith, even)) in
    let upper : (16 * digit_of high + digit_of low) / 16 ≡ digit_of high = omega arith in
    let lower : (16 * digit_of high + digit_of low) % 16 ≡ digit_of low = omega arith in
    ap (λ (d : ℕ). digit_char d ∷ digit_char ((16 * digit_of high + digit_of low) % 16) ∷ hex_text (pairs cs)) upper
    ∙ ap (λ (d : ℕ). digit_char (digit_of high) ∷ digit_char d ∷ hex_text (pairs cs)) lower
    ∙ ap (λ (c : ℕ). c ∷ digit_char (digit_of low) ∷ hex_text (pairs cs)) (char-digit_of high first)
    ∙ ap (λ (c : ℕ). high ∷ c ∷ hex_text (pairs cs)) (char-digit_of low second)
    ∙ ap (λ (ds : List ℕ). high ∷ low ∷ ds) behind

pub is_hex-form : (word : List ℕ) → is_hex word ≡ true → hex_text (pairs word) ≡ word
is_hex-form word holds =
    hex_text-pairs word (and-left (are_digits 16 word) (eqb (length word % 2) 0) holds)
    (eqb-true (length word % 2) 0 (and-right (are_digits 16 word) (eqb (length word % 2) 0) holds))

pub name_in-form : (word name : List ℕ) → name_in word ≡ Some name → word ≡ hex_text name
unfolding name_in
name_in-form word name read =
    let parts = cond_some (is_name word) (pairs word) name read in
    let front = and-left (is_hex word && leb 2 (length word)) (leb (length word) 510) parts.0 in
    sym (is_hex-form word (and-left (is_hex word) (leb 2 (length word)) front)) ∙ ap hex_text parts.1

-- the text of a put is what its digits write
pub text_count_in-form : (word : List ℕ) (count : ℕ) → text_count_in word ≡ Some count → word ≡ hex_text (pairs word)
unfolding text_count_in
text_count_in-form word count read =
    let parts = cond_some (is_hex word && leb 2 (length word)) (length word / 2) count read in
    sym (is_hex-form word (and-left (is_hex word) (leb 2 (length word)) parts.0))
