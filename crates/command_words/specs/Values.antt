-- The values of options: numbers, versions and patterns of moves (this project's own).
use Rattle.std.specs.Prelude.{ℕ, ◌+◌, ◌-◌, ◌*◌, ◌==◌, Bool, true, false, ◌&&◌, nat_le, if◌then◌else◌, List, [], ◌∷◌, ◌++◌, length, Option, Some, None, option_map, option_and_then}
use Rattle.std.specs.Char.{is_ascii_digit}
use Rattle.std.specs.List.{list_all}
use Rattle.std.specs.Str.Parse.{digits_value}
use Rattle.spec_base.specs.declared.layout.Version.{Version}
use Rattle.spec_base.specs.declared.layout.Version.TheVariants.{One, Two}
use Rattle.spec_base.specs.declared.note.Move.{Move}
use Rattle.spec_base.specs.declared.note.Move.TheVariants as moves
use Rattle.command_words.specs.declared.pattern.Items.{Items}

-- the next step, where the one before gave a value
infixl 10 ◌>>=◌
abbrev pub ◌>>=◌ : {A B : Type 0} → Option A → (A → Option B) → Option B
o >>= f = option_and_then f o

-- the value where a test has passed
abbrev pub taken_if : {A : Type 0} → Bool → A → Option A
taken_if true value = Some value
taken_if false value = None

-- what all items of a list lead to, one step after another, where no step refuses its item
abbrev pub read_all : {S A : Type 0} → (S → A → Option S) → S → List A → Option S
read_all step state [] = Some state
read_all step state (item ∷ items) = step state item >>= (λ next. read_all step next items)

-- ---- numbers

-- 1 to 16 decimal digits; the first may be 0
abbrev pub is_number : List ℕ → Bool
is_number word = nat_le 1 (length word) && nat_le (length word) 16 && list_all is_ascii_digit word

-- the number that a word writes, if it lies between these two
unfoldable pub number_in : ℕ → ℕ → List ℕ → Option ℕ
number_in least most word =
    if is_number word && nat_le least (digits_value 10 word) && nat_le (digits_value 10 word) most
    then Some (digits_value 10 word)
    else None

-- 1 is the first version, and 2 the second
abbrev pub version_with : ℕ → Version
version_with number = if number == 1 then One else Two

-- a version of the program range: 1 or 2
unfoldable pub version_in : List ℕ → Option Version
version_in word = option_map version_with (number_in 1 2 word)

-- ---- patterns

-- a pattern is a list of items, each a move and how often it is made
abbrev pub Pattern : Type 0
Pattern = List (Move × ℕ)

-- the letter of a move
unfoldable pub move_of : ℕ → Option Move
move_of letter =
    if letter == 79 then Some moves.O
    else if letter == 83 then Some moves.S
    else if letter == 84 then Some moves.T
    else if letter == 68 then Some moves.D
    else None

-- a count of 1 to 1,000,000 goes on with a digit; since it begins as 0, no 0 stands first
abbrev pub with_digit : Items → ℕ → Option Items
with_digit items digit =
    if nat_le 1 (10 * items.count + digit) && nat_le (10 * items.count + digit) 1_000_000
    then Some (record items { count = 10 * items.count + digit })
    else None

-- the items with the last one, if it has a count
abbrev pub whole_items : Items → Option Pattern
whole_items items = if items.count == 0 then None else Some (items.done ++ (items.current, items.count) ∷ [])

-- a new item begins, and has no count yet
abbrev pub with_move : Items → Move → Option Items
with_move items move = whole_items items >>= (λ done. Some (record { done = done; current = move; count = 0 }))

-- a byte of a pattern: a digit of a count, or the letter of a move
unfoldable pub read_byte : Items → ℕ → Option Items
read_byte items byte =
    if is_ascii_digit byte then with_digit items (byte - 48) else move_of byte >>= with_move items

-- a pattern that isn't too long
abbrev pub at_most_65_536 : Pattern → Option Pattern
at_most_65_536 items = if nat_le (length items) 65_536 then Some items else None

-- a pattern of 1 to 65,536 items, as `O1S600D1`
unfoldable pub pattern_in : List ℕ → Option Pattern
pattern_in [] = None
pattern_in (letter ∷ bytes) = do
  first ← move_of letter
  items ← read_all read_byte (record { done = []; current = first; count = 0 }) bytes
  pattern ← whole_items items
  at_most_65_536 pattern
