-- The arguments, one after the other.
use Rattle.std.proofs.Common.{◌≡◌, ℕ, suc, ◌+◌, ◌*◌, ◌<◌, ◌≤◌, List, [], ◌∷◌, ◌++◌, length, get_or, drop, map, String, Global, string_bytes, refl, sym, ap, ◌∙◌, arith}
use Rattle.std.specs.List.{sum_by}
use Rattle.std.proofs.lemmas.List.{append_assoc, drop_more, get_or-map, length-map, length-append}
use Rattle.std.proofs.lemmas.List.Sums.{sum_by-cons}
use Rattle.std.proofs.Math.ListN.{drop_of_length-le}
use Rattle.spec_base.specs.Word.{bytes_of}
use Rattle.program_model.specs.Loading.{argument_bytes, argument_addresses, bytes_of_words}

-- ---- an argument as bytes

pub bytes_at : (words : List (String Global)) (i : ℕ) (word : String Global) → i < length words → word ≡ get_or words i word
    → string_bytes word ≡ get_or (map string_bytes words) i []
bytes_at words i word lt same = ap string_bytes same ∙ sym (get_or-map string_bytes words i word [] lt)

pub within : (words : List (String Global)) (i : ℕ) → i < length words → i < length (map string_bytes words)
within words i lt = omega (arith, length-map words string_bytes)

-- nothing is left behind the last one
pub none-left : (words : List (String Global)) (i : ℕ) → length words ≤ i → drop i (map string_bytes words) ≡ []
none-left words i le = drop_of_length-le (map string_bytes words) (omega (arith, le, length-map words string_bytes))

-- ---- their bytes and their addresses so far, with those of the arguments that are left

left-is : (args : List (List ℕ)) (i : ℕ) (a : List ℕ) → i < length args → a ≡ get_or args i [] → drop i args ≡ a ∷ drop (i + 1) args
left-is args i a lt same = drop_more args i [] lt ∙ ap (λ x. x ∷ drop (i + 1) args) (sym same)

pub bytes-more : (args : List (List ℕ)) (i : ℕ) (a items whole : List ℕ) → i < length args → a ≡ get_or args i []
    → items ++ argument_bytes (drop i args) ≡ whole → ((items ++ a) ++ 0 ∷ []) ++ argument_bytes (drop (i + 1) args) ≡ whole
bytes-more args i a items whole lt same e =
    let rest = argument_bytes (drop (i + 1) args) in
    append_assoc (items ++ a) (0 ∷ []) rest
    ∙ (append_assoc items a (0 ∷ rest) ∙ (ap (λ left. items ++ argument_bytes left) (sym (left-is args i a lt same)) ∙ e))

pub addresses-more : (args : List (List ℕ)) (i at : ℕ) (a items whole : List ℕ) → i < length args → a ≡ get_or args i []
    → items ++ argument_addresses at (drop i args) ≡ whole → (items ++ at ∷ []) ++ argument_addresses (at + (length a + 1)) (drop (i + 1) args) ≡ whole
addresses-more args i at a items whole lt same e =
    let place : at + (length a + 1) ≡ at + length a + 1 = omega arith in
    append_assoc items (at ∷ []) (argument_addresses (at + (length a + 1)) (drop (i + 1) args))
    ∙ (ap (λ n. items ++ at ∷ argument_addresses n (drop (i + 1) args)) place
    ∙ (ap (λ left. items ++ argument_addresses at left) (sym (left-is args i a lt same)) ∙ e))

pub at-more : (args : List (List ℕ)) (i at end : ℕ) (a : List ℕ) → i < length args → a ≡ get_or args i []
    → at + length (argument_bytes (drop i args)) ≡ end → at + (length a + 1) + length (argument_bytes (drop (i + 1) args)) ≡ end
at-more args i at end a lt same e =
    let left = ap (λ rest. length (argument_bytes rest)) (left-is args i a lt same) in
    let both = length-append a (0 ∷ argument_bytes (drop (i + 1) args)) in
    omega (arith, left, both, e)

-- ---- counts

pub sum-count : (args : List (List ℕ)) → sum_by (λ word. length word + 1) args ≡ length (argument_bytes args)
sum-count [] = refl
sum-count (a ∷ args) =
    let here = sum_by-cons (λ word. length word + 1) a args in
    let rest = sum-count args in
    let both = length-append a (0 ∷ argument_bytes args) in
    omega (arith, here, rest, both)

addresses-count : (args : List (List ℕ)) (at : ℕ) → length (argument_addresses at args) ≡ length args
addresses-count [] at = refl
addresses-count (a ∷ args) at = ap suc (addresses-count args (at + length a + 1))

words-count : (words : List ℕ) → length (bytes_of_words words) ≡ 8 * length words
words-count [] = refl
words-count (w ∷ words) =
    let rest = words-count words in
    let both = length-append (bytes_of 8 w) (bytes_of_words words) in
    omega (arith, rest, both)

pub stack-count : (args : List (List ℕ)) (n at : ℕ)
    → length (bytes_of_words (n ∷ (argument_addresses at args ++ 0 ∷ 0 ∷ 0 ∷ 0 ∷ []))) ≡ 8 * (length args + 5)
stack-count args n at =
    let words = words-count (n ∷ (argument_addresses at args ++ 0 ∷ 0 ∷ 0 ∷ 0 ∷ [])) in
    let both = length-append (argument_addresses at args) (0 ∷ 0 ∷ 0 ∷ 0 ∷ []) in
    let few = addresses-count args at in
    omega (arith, words, both, few)
