-- Numbers and patterns.
use Rattle.std.proofs.Common.{◌≡◌, ℕ, ◌-◌, ◌<◌, ◌≤◌, ◌^◌, Bool, true, false, List, [], ◌∷◌, length, get_or, take, drop, refl, sym, ap, ◌∙◌, arith, rules}
use Rattle.std.specs.Prelude.{Option, Some, None, Result, Ok, option_and_then, ◌&&◌, if◌then◌else◌}
use Rattle.std.specs.Char.{is_ascii_digit}
use Rattle.std.specs.List.{list_all}
use Rattle.std.specs.Str.Parse.{digits_value, ParsesUnsigned}
use Rattle.std.proofs.lemmas.Bool.{leb-true}
use Rattle.std.proofs.lemmas.List.{take_rest}
use Rattle.std.proofs.lemmas.Str.Parse.{IsNumeralModel, numerals_by_value, parse_gives, digits_value_short}
use Rattle.spec_base.specs.declared.note.Move.{Move}
use Rattle.command_words.specs.Values.{read_all, read_byte, is_number, move_of, pattern_in, Pattern, whole_items, at_most_65_536}
use Rattle.command_words.specs.declared.pattern.Items.{Items}
use Rattle.command_words.proofs.Steps.{outcome}

pub and-left : (a b : Bool) → (a && b) ≡ true → a ≡ true
and-left true b h = refl
and-left false b h = h

pub and-right : (a b : Bool) → (a && b) ≡ true → b ≡ true
and-right true b h = h
and-right false b h = absurd cc

-- digits, as std's lemmas see them
digits : IsNumeralModel (λ word. list_all is_ascii_digit word ≡ true) (digits_value 10)
digits = numerals_by_value _ (search rules)

-- a number fits 64 bits, so that the parser takes it
pub parses : {E : Type 0} (word : List ℕ) (result : Result ℕ E) → ParsesUnsigned 64 10 word result → is_number word ≡ true → result ≡ Ok (digits_value 10 word)
parses word result parsed number =
    let bytes = leb-true 1 (length word) (and-left _ _ (and-left _ _ number)) in
    let few = leb-true (length word) 16 (and-right _ _ (and-left _ _ number)) in
    let all = and-right _ _ number in
    let small : digits_value 10 word < 10 ^ 16 = digits_value_short digits word 16 all few in
    parse_gives digits 64 word result parsed all bytes (omega arith)

-- ---- patterns

-- the pattern of the items that were read
abbrev pub finished : Items → Option Pattern
finished items = option_and_then at_most_65_536 (whole_items items)

pub pattern_in-begins : (word : List ℕ) (first : Move) → 0 < length word → Some first ≡ move_of (get_or word 0 0)
    → pattern_in word ≡ outcome read_byte finished (record { done = []; current = first; count = 0 }) (take (length word - 1) (drop 1 word))
unfolding pattern_in
pattern_in-begins [] first some letter = absurd (omega arith)
pattern_in-begins (c ∷ cs) first some letter =
    ap (λ o. option_and_then (λ move. outcome read_byte finished (record { done = []; current = move; count = 0 }) cs) o) (sym letter)
    ∙ ap (outcome read_byte finished (record { done = []; current = first; count = 0 })) (sym (take_rest (c ∷ cs) 1))

-- with what was read of the bytes behind the first letter, where no item stood yet
pub pattern_in-read : (word : List ℕ) (first : Move) (done : Pattern) (read : Option Items) → 0 < length word → Some first ≡ move_of (get_or word 0 0)
    → done ≡ [] → read ≡ read_all read_byte (record { done = done; current = first; count = 0 }) (take (length word - 1) (drop 1 word))
    → pattern_in word ≡ option_and_then finished read
pattern_in-read word first done read some letter none is =
    pattern_in-begins word first some letter
    ∙ ap (λ (d : Pattern). outcome read_byte finished (record { done = d; current = first; count = 0 }) (take (length word - 1) (drop 1 word))) (sym none)
    ∙ ap (option_and_then finished) (sym is)

pub finished-None : (items : Items) → None ≡ whole_items items → finished items ≡ None
finished-None items whole = ap (option_and_then at_most_65_536) (sym whole)
