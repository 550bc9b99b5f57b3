-- The words of a command line.
use Rattle.std.proofs.Common.{◌≡◌, ℕ, suc, ◌+◌, ◌-◌, ◌<◌, ◌≤◌, Bool, true, false, cond, List, [], ◌∷◌, length, get_or, take, map, String, Global, string_bytes, refl, sym, ap, ◌∙◌, arith}
use Rattle.std.specs.Prelude.{◌||◌, not}
use Rattle.std.specs.List.{list_any, sum_by, position_or_len}
use Rattle.std.proofs.lemmas.Bool.Decides.{nat_tests}
use Rattle.std.proofs.lemmas.List.{take_all, get_or-map, length-map}
use Rattle.std.proofs.lemmas.List.Sums.{sum_by_more, sum_by_more_le}
use Rattle.command_words.specs.CommandLine.{fit_in_memory}

-- ---- words as bytes

pub bytes_at : (words : List (String Global)) (i : ℕ) (word : String Global) → i < length words → word ≡ get_or words i word
    → string_bytes word ≡ get_or (map string_bytes words) i []
bytes_at words i word lt same = ap string_bytes same ∙ sym (get_or-map string_bytes words i word [] lt)

pub within : (words : List (String Global)) (i : ℕ) → i < length words → i < length (map string_bytes words)
within words i lt = omega (arith, length-map words string_bytes)

pub past : (words : List (String Global)) (i : ℕ) → length words ≤ i → length (map string_bytes words) ≤ i
past words i le = omega (arith, length-map words string_bytes)

-- ---- words in memory

abbrev pub size : List ℕ → ℕ
size word = length word + 1

pub left-more : (words : List (List ℕ)) (i left : ℕ) (word : List ℕ) → i < length words → word ≡ get_or words i [] → left + sum_by size (take i words) ≡ 65_536
    → length word < left → (left - (length word + 1)) + sum_by size (take (i + 1) words) ≡ 65_536
left-more words i left word lt same sum fits =
    let one = ap size same in
    omega (arith, sum_by_more size words i [] lt)

pub left-over : (words : List (List ℕ)) (i left : ℕ) (word : List ℕ) → i < length words → word ≡ get_or words i [] → left + sum_by size (take i words) ≡ 65_536
    → left ≤ length word → fit_in_memory words ≡ false
left-over words i left word lt same sum over =
    let one = ap size same in
    let more : 65_536 < sum_by size words = omega (arith, sum_by_more_le size words i [] lt) in
    grind (arith, nat_tests)

pub left-all : (words : List (List ℕ)) (i left : ℕ) → length words ≤ i → left + sum_by size (take i words) ≡ 65_536 → fit_in_memory words ≡ true
left-all words i left all sum =
    let whole = ap (sum_by size) (take_all i words all) in
    let few : sum_by size words ≤ 65_536 = omega arith in
    grind (arith, nat_tests)

-- ---- the first byte that passes a test

none-here : (b rest : Bool) (n m : ℕ) → cond (not b) (1 + n) 0 ≡ suc m → (n ≡ m → rest ≡ false) → (b || rest) ≡ false
none-here true rest n m none more = absurd (omega arith)
none-here false rest n m none more = more (omega arith)

some-here : (b rest : Bool) (n m : ℕ) → cond (not b) (1 + n) 0 < suc m → (n < m → rest ≡ true) → (b || rest) ≡ true
some-here true rest n m some more = refl
some-here false rest n m some more = more (omega arith)

pub list_any-none : {A : Type 0} (test : A → Bool) (items : List A) → position_or_len test items ≡ length items → list_any test items ≡ false
list_any-none test [] none = refl
list_any-none test (item ∷ items) none =
    none-here (test item) (list_any test items) (position_or_len test items) (length items) none (list_any-none test items)

pub list_any-some : {A : Type 0} (test : A → Bool) (items : List A) → position_or_len test items < length items → list_any test items ≡ true
list_any-some test [] some = absurd (omega arith)
list_any-some test (item ∷ items) some =
    some-here (test item) (list_any test items) (position_or_len test items) (length items) some (list_any-some test items)
