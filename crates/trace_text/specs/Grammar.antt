-- The grammar of trace lines (this project's own): a line's words, and what they say.
use Rattle.std.specs.Prelude.{ℕ, ◌+◌, ◌-◌, ◌*◌, ◌/◌, ◌%◌, ◌^◌, ℤ, pos, negsuc, Bool, true, false, not, ◌&&◌, ◌==◌, nat_lt, nat_le, if◌then◌else◌, List, [], ◌∷◌, length, take, drop, codes, bytes_eq, Option, Some, None, option_and_then, option_map}
use Rattle.std.specs.List.{list_all}
use Rattle.std.specs.Str.Parse.{digits_value}
use Rattle.spec_base.specs.declared.machine.Trap.{Trap}
use Rattle.spec_base.specs.declared.machine.Trap.TheVariants as traps
use Rattle.spec_base.specs.declared.note.Note.{Note}
use Rattle.spec_base.specs.declared.note.Note.TheVariants as notes
use Rattle.spec_base.specs.declared.park.Park.{Park}
use Rattle.spec_base.specs.declared.park.Park.TheVariants as parks
use Rattle.spec_base.specs.declared.spot.ReadSpot.{ReadSpot}
use Rattle.spec_base.specs.declared.spot.BlockSpot.{BlockSpot}
use Rattle.trace_text.specs.Line.{park_name, trap_name}
use Rattle.trace_text.specs.declared.keyword.Keyword.{Keyword}
use Rattle.trace_text.specs.declared.keyword.Keyword.TheVariants as keywords
use Rattle.trace_text.specs.declared.trace_line.TraceBody.{TraceBody}
use Rattle.trace_text.specs.declared.trace_line.TraceBody.TheVariants as bodies
use Rattle.trace_text.specs.declared.trace_line.TraceLine.{TraceLine}

infixl 10 ◌>>=◌
abbrev pub ◌>>=◌ : {A B : Type 0} → Option A → (A → Option B) → Option B
o >>= f = option_and_then f o

-- ---- words

abbrev pub with_first : ℕ → List (List ℕ) → List (List ℕ)
with_first c [] = (c ∷ []) ∷ []
with_first c (word ∷ words) = (c ∷ word) ∷ words

-- the words of a text: each space ends one and begins another
unfoldable pub words_of : List ℕ → List (List ℕ)
words_of [] = [] ∷ []
words_of (c ∷ cs) = if c == 32 then [] ∷ words_of cs else with_first c (words_of cs)

-- exactly one word, two, three or five
abbrev pub one_word : List (List ℕ) → Option (List ℕ)
one_word (a ∷ []) = Some a
one_word _ = None

abbrev pub two_words : List (List ℕ) → Option (List ℕ × List ℕ)
two_words (a ∷ b ∷ []) = Some (a, b)
two_words _ = None

abbrev pub three_words : List (List ℕ) → Option (List ℕ × List ℕ × List ℕ)
three_words (a ∷ b ∷ c ∷ []) = Some (a, b, c)
three_words _ = None

abbrev pub five_words : List (List ℕ) → Option (List ℕ × List ℕ × List ℕ × List ℕ × List ℕ)
five_words (a ∷ b ∷ c ∷ d ∷ e ∷ []) = Some (a, b, c, d, e)
five_words _ = None

-- ---- numbers

-- the value of a digit: 0 to 9, then a to f in lower case; 16 of any other byte
abbrev pub digit_of : ℕ → ℕ
digit_of c =
    if nat_le 48 c && nat_le c 57 then c - 48
    else if nat_le 97 c && nat_le c 102 then c - 87
    else 16

abbrev pub are_digits : ℕ → List ℕ → Bool
are_digits base word = list_all (λ c. nat_lt (digit_of c) base) word

-- there is a first byte, and it is 0 only where it is the last as well
abbrev pub has_no_leading_zero : List ℕ → Bool
has_no_leading_zero [] = false
has_no_leading_zero (c ∷ []) = true
has_no_leading_zero (c ∷ d ∷ cs) = not (c == 48)

-- a number of at most `most`, in a base
unfoldable pub number_in : ℕ → ℕ → List ℕ → Option ℕ
number_in base most word =
    if has_no_leading_zero word && are_digits base word && nat_le (digits_value base word) most
    then Some (digits_value base word)
    else None

abbrev pub decimal_in : List ℕ → Option ℕ
decimal_in word = number_in 10 (2 ^ 64 - 1) word

-- minus a number, which isn't 0
abbrev pub minus : ℕ → Option ℤ
minus n = if n == 0 then None else Some (negsuc (n - 1))

-- a signed number of 64 bits: a minus stands first where it is below 0
unfoldable pub answer_in : List ℕ → Option ℤ
answer_in word =
    if bytes_eq (take 1 word) (codes "-")
    then (number_in 10 (2 ^ 63) (drop 1 word) >>= minus)
    else option_map pos (number_in 10 (2 ^ 63 - 1) word)

-- an address: a hexadecimal number behind 0x
unfoldable pub address_in : List ℕ → Option ℕ
address_in word =
    if bytes_eq (take 2 word) (codes "0x") then number_in 16 (2 ^ 64 - 1) (drop 2 word) else None

-- ---- bytes

-- pairs of hexadecimal digits
abbrev pub is_hex : List ℕ → Bool
is_hex word = are_digits 16 word && (length word % 2 == 0)

-- the bytes that pairs of digits write
unfoldable pub pairs : List ℕ → List ℕ
pairs [] = []
pairs (c ∷ []) = []
pairs (high ∷ low ∷ cs) = (16 * digit_of high + digit_of low) ∷ pairs cs

-- pairs of digits for 1 to 255 bytes
abbrev pub is_name : List ℕ → Bool
is_name word = is_hex word && nat_le 2 (length word) && nat_le (length word) 510

-- a file's name
unfoldable pub name_in : List ℕ → Option (List ℕ)
name_in word = if is_name word then Some (pairs word) else None

-- how many bytes were put, where any were
unfoldable pub text_count_in : List ℕ → Option ℕ
text_count_in word = if is_hex word && nat_le 2 (length word) then Some (length word / 2) else None

-- ---- names

abbrev pub park_in : List ℕ → Option Park
park_in word =
    if bytes_eq word (park_name parks.Exit) then Some parks.Exit
    else if bytes_eq word (park_name parks.Fault) then Some parks.Fault
    else if bytes_eq word (park_name parks.Regions) then Some parks.Regions
    else if bytes_eq word (park_name parks.LogFull) then Some parks.LogFull
    else if bytes_eq word (park_name parks.Store) then Some parks.Store
    else None

abbrev pub trap_in : List ℕ → Option Trap
trap_in word =
    if bytes_eq word (trap_name traps.Illegal) then Some traps.Illegal
    else if bytes_eq word (trap_name traps.FetchOut) then Some traps.FetchOut
    else if bytes_eq word (trap_name traps.Misaligned) then Some traps.Misaligned
    else if bytes_eq word (trap_name traps.LoadOut) then Some traps.LoadOut
    else if bytes_eq word (trap_name traps.StoreOut) then Some traps.StoreOut
    else if bytes_eq word (trap_name traps.Break) then Some traps.Break
    else None

abbrev pub keyword_in : List ℕ → Option Keyword
keyword_in word =
    if bytes_eq word (codes "call") then Some keywords.Call
    else if bytes_eq word (codes "text") then Some keywords.Text
    else if bytes_eq word (codes "match") then Some keywords.Match
    else if bytes_eq word (codes "restart") then Some keywords.Restart
    else if bytes_eq word (codes "stall") then Some keywords.Stall
    else if bytes_eq word (codes "hint") then Some keywords.Hint
    else if bytes_eq word (codes "fill") then Some keywords.Fill
    else if bytes_eq word (codes "park") then Some keywords.Park
    else if bytes_eq word (codes "fetch") then Some keywords.Fetch
    else if bytes_eq word (codes "drop") then Some keywords.Drop
    else if bytes_eq word (codes "lost") then Some keywords.Lost
    else if bytes_eq word (codes "exit") then Some keywords.Exit
    else if bytes_eq word (codes "trap") then Some keywords.Trap
    else if bytes_eq word (codes "fault") then Some keywords.Fault
    else if bytes_eq word (codes "use") then Some keywords.Use
    else None

-- ---- fields

-- a call's number, three arguments and answer
unfoldable pub call_in : List (List ℕ) → Option Note
call_in fields = do
  w ← five_words fields
  number ← decimal_in w.0
  a0 ← decimal_in w.1
  a1 ← decimal_in w.2
  a2 ← decimal_in w.3
  answer ← answer_in w.4
  Some (notes.Call number a0 a1 a2 answer)

-- 1 or 2, for standard output or standard error, and the bytes that were put
unfoldable pub text_in : List (List ℕ) → Option Note
text_in fields = do
  w ← two_words fields
  to ← number_in 10 2 w.0
  count ← text_count_in w.1
  if to == 0 then None else Some (notes.Text to count)

-- a read's name, offset below 2^56 and count of at most 65,536
unfoldable pub read_in : List (List ℕ) → Option ReadSpot
read_in fields = do
  w ← three_words fields
  name ← name_in w.0
  offset ← number_in 10 (2 ^ 56 - 1) w.1
  count ← number_in 10 65_536 w.2
  Some (record { name = name; offset = offset; count = count })

-- a block's name and number, below 2^44
unfoldable pub block_in : List (List ℕ) → Option BlockSpot
block_in fields = do
  w ← two_words fields
  name ← name_in w.0
  block ← number_in 10 (2 ^ 44 - 1) w.1
  Some (record { name = name; block = block })

-- an exit code
unfoldable pub exit_in : List (List ℕ) → Option Note
exit_in fields = do
  w ← one_word fields
  code ← number_in 10 255 w
  Some (notes.Exit code)

unfoldable pub trapped_in : List (List ℕ) → Option Note
trapped_in fields = do
  w ← two_words fields
  trap ← trap_in w.0
  pc ← address_in w.1
  Some (notes.Trap trap pc)

unfoldable pub parked_in : List (List ℕ) → Option Note
parked_in fields = do
  w ← one_word fields
  cause ← park_in w
  Some (notes.Park cause)

unfoldable pub fault_in : List (List ℕ) → Option Note
fault_in fields = do
  w ← one_word fields
  if bytes_eq w (codes "store") then Some notes.Fault else None

-- the number of the instruction that uses an unfilled byte
unfoldable pub use_in : List (List ℕ) → Option TraceBody
use_in fields = do
  w ← one_word fields
  number ← decimal_in w
  Some (bodies.Use number)

abbrev pub noted : Option Note → Option TraceBody
noted note = option_map bodies.Note note

-- what the fields behind a keyword say
unfoldable pub fields_in : Keyword → List (List ℕ) → Option TraceBody
fields_in keywords.Call fields = noted (call_in fields)
fields_in keywords.Text fields = noted (text_in fields)
fields_in keywords.Match fields = noted (option_map notes.Match (read_in fields))
fields_in keywords.Restart fields = noted (option_map notes.Restart (read_in fields))
fields_in keywords.Stall fields = noted (option_map notes.Stall (block_in fields))
fields_in keywords.Hint fields = noted (option_map notes.Hint (read_in fields))
fields_in keywords.Fill fields = noted (option_map notes.Fill (read_in fields))
fields_in keywords.Park fields = noted (parked_in fields)
fields_in keywords.Fetch fields = noted (option_map notes.Fetch (block_in fields))
fields_in keywords.Drop fields = noted (option_map notes.Drop (block_in fields))
fields_in keywords.Lost fields = noted (option_map notes.Lost (block_in fields))
fields_in keywords.Exit fields = noted (exit_in fields)
fields_in keywords.Trap fields = noted (trapped_in fields)
fields_in keywords.Fault fields = noted (fault_in fields)
fields_in keywords.Use fields = use_in fields

-- ---- lines

-- what the words behind the counts say: `turns` stands alone, and all other keywords have fields
unfoldable pub body_in : List (List ℕ) → Option TraceBody
body_in [] = None
body_in (keyword ∷ []) = if bytes_eq keyword (codes "turns") then Some bodies.Turns else None
body_in (keyword ∷ field ∷ fields) = do
  k ← keyword_in keyword
  fields_in k (field ∷ fields)

-- what a line's words say: two counts stand first
unfoldable pub line_in : List (List ℕ) → Option TraceLine
line_in (own ∷ shadow ∷ words) = do
  o ← decimal_in own
  s ← decimal_in shadow
  body ← body_in words
  Some (record { own = o; shadow = s; body = body })
line_in _ = None

-- what the bytes say, where they are a line: its words, and a newline at the end
unfoldable pub line_at : List ℕ → Option TraceLine
line_at bytes =
    if bytes_eq (drop (length bytes - 1) bytes) (codes "\n")
    then line_in (words_of (take (length bytes - 1) bytes))
    else None
