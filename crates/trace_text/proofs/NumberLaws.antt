-- Numbers and bytes in words.
use Rattle.std.proofs.Common.{◌≡◌, ℕ, zero, suc, ◌+◌, ◌*◌, ◌/◌, ◌<◌, ◌≤◌, Bool, true, false, cond, ltb, leb, List, [], ◌∷◌, ◌++◌, length, get_or, take, drop, refl, sym, ap, ◌∙◌, arith, add-one, drop-cons}
use Rattle.std.specs.Prelude.{Option, Some, None, ◌&&◌, IsSome, IfSome, ◌↔◌}
use Rattle.std.specs.Char.{digit_value}
use Rattle.std.specs.Str.Parse.{digits_value_after}
use Rattle.std.proofs.lemmas.Bool.Decides.{nat_tests}
use Rattle.std.proofs.lemmas.Bool.{leb-true, le-leb}
use Rattle.std.proofs.lemmas.List.{take_more, take_more_set, take_all, drop_all}
use Rattle.std.proofs.Math.ListN.{set}
use Rattle.std.proofs.Math.Nat.{mul-le-mul_left}
use Rattle.trace_text.specs.Grammar.{digit_of, are_digits, has_no_leading_zero, number_in, pairs, is_hex, is_name, name_in}

-- what is read behind the number n
abbrev pub number_after : ℕ → ℕ → ℕ → List ℕ → Option ℕ
number_after base most n ds =
    cond (are_digits base ds && leb (digits_value_after base n ds) most) (Some (digits_value_after base n ds)) None

pub number_after-begins : (base most : ℕ) (word : List ℕ) → has_no_leading_zero word ≡ true → number_in base most word ≡ number_after base most 0 word
unfolding number_in
number_after-begins base most word holds = rw holds refl

pub number_in-leading : (base most : ℕ) (word : List ℕ) → has_no_leading_zero word ≡ false → number_in base most word ≡ None
unfolding number_in
number_in-leading base most word fails = rw fails refl

pub digit_value-is : (c base : ℕ) → base ≤ 16 → digit_of c < base → digit_value c ≡ digit_of c
digit_value-is c base few lt = grind (arith, nat_tests)

number_after-cons : (base most n c : ℕ) (cs : List ℕ) → base ≤ 16 → digit_of c < base
    → number_after base most n (c ∷ cs) ≡ number_after base most (n * base + digit_of c) cs
number_after-cons base most n c cs few lt =
    let same = digit_value-is c base few lt in
    let holds : ltb (digit_of c) base ≡ true = grind (arith, nat_tests) in
    ap (λ (d : ℕ). cond ((ltb (digit_of c) base && are_digits base cs) && leb (digits_value_after base (n * base + d) cs) most) (Some (digits_value_after base (n * base + d) cs)) None) same
    ∙ ap (λ (b : Bool). cond ((b && are_digits base cs) && leb (digits_value_after base (n * base + digit_of c) cs) most) (Some (digits_value_after base (n * base + digit_of c) cs)) None) holds

-- a digit goes on
pub number_after-digit : (base most n : ℕ) (word : List ℕ) (i : ℕ) → base ≤ 16 → i < length word → digit_of (get_or word i 0) < base
    → number_after base most n (drop i word) ≡ number_after base most (n * base + digit_of (get_or word i 0)) (drop (i + 1) word)
number_after-digit base most n word i few lt digit =
    ap (number_after base most n) (drop-cons word i 0 lt) ∙ number_after-cons base most n (get_or word i 0) (drop (suc i) word) few digit
    ∙ ap (λ (j : ℕ). number_after base most (n * base + digit_of (get_or word i 0)) (drop j word)) (sym (add-one i))

-- the number with the digit is read behind it
pub number_after-more : (base most n next : ℕ) (word : List ℕ) (i : ℕ) → base ≤ 16 → i < length word → digit_of (get_or word i 0) < base
    → next ≡ n * base + digit_of (get_or word i 0) → number_after base most n (drop i word) ≡ number_after base most next (drop (i + 1) word)
number_after-more base most n next word i few lt digit is =
    number_after-digit base most n word i few lt digit ∙ ap (λ (m : ℕ). number_after base most m (drop (i + 1) word)) (sym is)

-- any other byte refuses
pub number_after-other : (base most n : ℕ) (word : List ℕ) (i : ℕ) → i < length word → base ≤ digit_of (get_or word i 0)
    → number_after base most n (drop i word) ≡ None
number_after-other base most n word i lt other =
    let fails : ltb (digit_of (get_or word i 0)) base ≡ false = grind (arith, nat_tests) in
    ap (number_after base most n) (drop-cons word i 0 lt)
    ∙ ap (λ (b : Bool). cond ((b && are_digits base (drop (suc i) word)) && leb (digits_value_after base n (get_or word i 0 ∷ drop (suc i) word)) most) (Some (digits_value_after base n (get_or word i 0 ∷ drop (suc i) word))) None) fails

grows : (base n : ℕ) (ds : List ℕ) → 0 < base → n ≤ digits_value_after base n ds
grows base n [] some = omega arith
grows base n (c ∷ cs) some =
    let more = grows base (n * base + digit_value c) cs some in
    let times : n * 1 ≤ n * base = mul-le-mul_left n some in
    omega (arith, more, times)

refused : (b : Bool) (x : Option ℕ) → cond (b && false) x None ≡ None
refused true x = refl
refused false x = refl

-- what is too large stays so
number_after-over : (base most n : ℕ) (ds : List ℕ) → 0 < base → most < n → number_after base most n ds ≡ None
number_after-over base most n ds some over =
    let more = grows base n ds some in
    let fails : leb (digits_value_after base n ds) most ≡ false = grind (arith, nat_tests) in
    ap (λ (b : Bool). cond (are_digits base ds && b) (Some (digits_value_after base n ds)) None) fails ∙ refused (are_digits base ds) (Some (digits_value_after base n ds))

pub number_after-overflow : (base most n : ℕ) (word : List ℕ) (i : ℕ) → 0 < base → base ≤ 16 → i < length word → digit_of (get_or word i 0) < base
    → most < n * base + digit_of (get_or word i 0) → number_after base most n (drop i word) ≡ None
number_after-overflow base most n word i some few lt digit over =
    number_after-digit base most n word i few lt digit ∙ number_after-over base most (n * base + digit_of (get_or word i 0)) (drop (i + 1) word) some over

-- no digit is left
pub number_after-fits : (base most n : ℕ) (word : List ℕ) (i : ℕ) → length word ≤ i → n ≤ most → number_after base most n (drop i word) ≡ Some n
number_after-fits base most n word i past few =
    ap (number_after base most n) (drop_all i word past) ∙ ap (λ (b : Bool). cond b (Some n) None) (le-leb n most few)

pub number_after-large : (base most n : ℕ) (word : List ℕ) (i : ℕ) → 0 < base → length word ≤ i → most < n → number_after base most n (drop i word) ≡ None
number_after-large base most n word i some past over = number_after-over base most n (drop i word) some over

-- ---- pairs of digits

pub and-left : (a b : Bool) → (a && b) ≡ true → a ≡ true
and-left true b h = refl
and-left false b h = h

pub and-right : (a b : Bool) → (a && b) ≡ true → b ≡ true
and-right true b h = h
and-right false b h = absurd cc

pub length-pairs : (word : List ℕ) → length (pairs word) ≡ length word / 2
unfolding pairs
length-pairs [] = refl
length-pairs (c ∷ []) = refl
length-pairs (high ∷ low ∷ cs) = omega (arith, length-pairs cs)

pub pairs-at : (word : List ℕ) (i : ℕ) → 2 * i + 1 < length word
    → get_or (pairs word) i 0 ≡ 16 * digit_of (get_or word (2 * i) 0) + digit_of (get_or word (2 * i + 1) 0)
unfolding pairs
pairs-at [] i lt = absurd (omega arith)
pairs-at (c ∷ []) i lt = absurd (omega arith)
pairs-at (high ∷ low ∷ cs) zero lt = refl
pairs-at (high ∷ low ∷ cs) (suc i) lt =
    let a : 2 * suc i ≡ suc (suc (2 * i)) = omega arith in
    let b : 2 * suc i + 1 ≡ suc (suc (2 * i + 1)) = omega arith in
    rw (a, ← a, b) (pairs-at cs i (omega arith))

-- a name's bytes, one after the other
pub pairs-take : (word bytes : List ℕ) (i v : ℕ) → 2 * i + 1 < length word → i < length bytes
    → v ≡ 16 * digit_of (get_or word (2 * i) 0) + digit_of (get_or word (2 * i + 1) 0)
    → take i bytes ≡ take i (pairs word) → take (i + 1) (set bytes i v) ≡ take (i + 1) (pairs word)
pairs-take word bytes i v lt room value so_far =
    take_more_set bytes i v room
    ∙ ap (λ (xs : List ℕ). xs ++ v ∷ []) so_far
    ∙ ap (λ (x : ℕ). take i (pairs word) ++ x ∷ []) (value ∙ sym (pairs-at word i lt))
    ∙ sym (take_more (pairs word) i 0 (omega (arith, length-pairs word)))

pub name_in-some : (word : List ℕ) → is_name word ≡ true → name_in word ≡ Some (pairs word)
unfolding name_in
name_in-some word holds = rw holds refl

pub name_in-none : (word : List ℕ) → is_name word ≡ false → name_in word ≡ None
unfolding name_in
name_in-none word fails = rw fails refl

name-bytes : (word bytes : List ℕ) (i : ℕ) → i ≡ length word / 2 → take i bytes ≡ take i (pairs word) → take (length word / 2) bytes ≡ pairs word
name-bytes word bytes i half so_far =
    ap (λ (n : ℕ). take n bytes) (sym half) ∙ so_far ∙ take_all i (pairs word) (omega (arith, length-pairs word))

pub name-bounds : (word : List ℕ) → is_name word ≡ true → (2 ≤ length word) × (length word ≤ 510)
name-bounds word holds =
    let front = and-left (is_hex word && leb 2 (length word)) (leb (length word) 510) holds in
    (leb-true 2 (length word) (and-right (is_hex word) (leb 2 (length word)) front), leb-true (length word) 510 (and-right (is_hex word && leb 2 (length word)) (leb (length word) 510) holds))

-- a name has 1 to 255 bytes, so it is made
pub is_named : (word bytes : List ℕ) (i : ℕ) (r : Option (List ℕ)) → is_name word ≡ true → i ≡ length word / 2 → take i bytes ≡ take i (pairs word)
    → (IsSome r ↔ ((0 < length (take (length word / 2) bytes)) × (length (take (length word / 2) bytes) ≤ 255)))
    → IfSome r (λ name. name ≡ take (length word / 2) bytes) → r ≡ name_in word
is_named word bytes i None holds half so_far fits same =
    let all = name-bytes word bytes i half so_far in
    let made : IsSome {T = List ℕ} None = fits.1 (omega (arith, ap length all, length-pairs word, name-bounds word holds), omega (arith, ap length all, length-pairs word, name-bounds word holds)) in
    absurd cc
is_named word bytes i (Some name) holds half so_far fits same =
    ap (λ (xs : List ℕ). Some xs) (same ∙ name-bytes word bytes i half so_far) ∙ sym (name_in-some word holds)
