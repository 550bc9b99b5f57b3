-- The lines of a trace (this project's own): counts, a keyword and its fields, with single spaces between them.
use Rattle.std.specs.Prelude.{ℕ, false, ◌/◌, ◌%◌, List, [], ◌∷◌, ◌++◌, codes, decimal}
use Rattle.std.specs.Fmt.{digits, signed_decimal}
use Rattle.std.specs.Char.{digit_char}
use Rattle.spec_base.specs.declared.machine.Trap.{Trap}
use Rattle.spec_base.specs.declared.machine.Trap.TheVariants.{Illegal, FetchOut, Misaligned, LoadOut, StoreOut, Break}
use Rattle.spec_base.specs.declared.note.Note.{Note}
use Rattle.spec_base.specs.declared.note.Note.TheVariants as notes
use Rattle.spec_base.specs.declared.park.Park.{Park}
use Rattle.spec_base.specs.declared.park.Park.TheVariants.{Exit, Fault, Regions, LogFull, Store}
use Rattle.spec_base.specs.declared.spot.ReadSpot.{ReadSpot}
use Rattle.spec_base.specs.declared.spot.BlockSpot.{BlockSpot}

-- each byte as two lower-case hexadecimal digits
abbrev pub hex_text : List ℕ → List ℕ
hex_text [] = []
hex_text (b ∷ bs) = digit_char (b / 16) ∷ digit_char (b % 16) ∷ hex_text bs

-- a number in lower-case hexadecimal, behind 0x
abbrev pub address_text : ℕ → List ℕ
address_text n = codes "0x" ++ digits 16 false n

abbrev pub park_name : Park → List ℕ
park_name Exit = codes "Exit"
park_name Fault = codes "Fault"
park_name Regions = codes "Regions"
park_name LogFull = codes "LogFull"
park_name Store = codes "Store"

abbrev pub trap_name : Trap → List ℕ
trap_name Illegal = codes "Illegal"
trap_name FetchOut = codes "FetchOut"
trap_name Misaligned = codes "Misaligned"
trap_name LoadOut = codes "LoadOut"
trap_name StoreOut = codes "StoreOut"
trap_name Break = codes "Break"

-- the fields of a read: its file's name, its offset and its count
abbrev pub read_words : ReadSpot → List (List ℕ)
read_words spot = hex_text spot.name ∷ decimal spot.offset ∷ decimal spot.count ∷ []

-- the fields of a block: its file's name and its number
abbrev pub block_words : BlockSpot → List (List ℕ)
block_words spot = hex_text spot.name ∷ decimal spot.block ∷ []

-- the keyword of a note and its fields; text is what the program put
abbrev pub note_words : Note → List ℕ → List (List ℕ)
note_words (notes.Call number a0 a1 a2 answer) text =
    codes "call" ∷ decimal number ∷ decimal a0 ∷ decimal a1 ∷ decimal a2 ∷ signed_decimal answer ∷ []
note_words (notes.Text to count) text = codes "text" ∷ decimal to ∷ hex_text text ∷ []
note_words (notes.Exit code) text = codes "exit" ∷ decimal code ∷ []
note_words (notes.Trap trap pc) text = codes "trap" ∷ trap_name trap ∷ address_text pc ∷ []
note_words (notes.Restart spot) text = codes "restart" ∷ read_words spot
note_words (notes.Match spot) text = codes "match" ∷ read_words spot
note_words (notes.Hint spot) text = codes "hint" ∷ read_words spot
note_words (notes.Fill spot) text = codes "fill" ∷ read_words spot
note_words (notes.Park cause) text = codes "park" ∷ park_name cause ∷ []
note_words (notes.Stall spot) text = codes "stall" ∷ block_words spot
note_words (notes.Fetch spot) text = codes "fetch" ∷ block_words spot
note_words (notes.Drop spot) text = codes "drop" ∷ block_words spot
note_words (notes.Lost spot) text = codes "lost" ∷ block_words spot
note_words notes.Fault text = codes "fault" ∷ codes "store" ∷ []

-- the words, each behind a space
abbrev pub spaced : List (List ℕ) → List ℕ
spaced [] = []
spaced (word ∷ words) = codes " " ++ word ++ spaced words

-- the line of these words behind the counts: the instructions of the program so far, and those of the shadow since its restart
abbrev pub line_with : ℕ → ℕ → List (List ℕ) → List ℕ
line_with own shadow words = decimal own ++ spaced (decimal shadow ∷ words) ++ codes "\n"

-- the line of a note
abbrev pub line_of : ℕ → ℕ → Note → List ℕ → List ℕ
line_of own shadow note text = line_with own shadow (note_words note text)

-- the line that says that the turns are over
abbrev pub turns_line_of : ℕ → ℕ → List ℕ
turns_line_of own shadow = line_with own shadow (codes "turns" ∷ [])

-- the line of the instruction that uses a byte which a skipped read left unfilled
abbrev pub use_line_of : ℕ → ℕ → ℕ → List ℕ
use_line_of own shadow number = line_with own shadow (codes "use" ∷ decimal number ∷ [])
