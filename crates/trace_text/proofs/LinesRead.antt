-- A line that is printed is read again: its words stand apart, and each says what it was made from.
use Rattle.std.proofs.Common.{◌≡◌, ℕ, ◌-◌, ◌^◌, ◌<◌, ◌≤◌, true, false, eqb, List, [], ◌∷◌, ◌++◌, length, take, drop, refl, sym, ap, ◌∙◌, arith, inl, inr}
use Rattle.std.specs.Prelude.{Some, not, codes, decimal}
use Rattle.std.specs.Cmp.Derive.{both_true}
use Rattle.std.specs.List.{list_all}
use Rattle.std.proofs.lemmas.Bool.{not-true}
use Rattle.std.proofs.lemmas.List.{append-nil, take_at, drop_at, length-append}
use Rattle.spec_base.specs.declared.machine.Trap.{Trap}
use Rattle.spec_base.specs.declared.machine.Trap.TheVariants as traps
use Rattle.spec_base.specs.declared.note.Note.{Note}
use Rattle.spec_base.specs.declared.note.Note.TheVariants as notes
use Rattle.spec_base.specs.declared.park.Park.{Park}
use Rattle.spec_base.specs.declared.park.Park.TheVariants as parks
use Rattle.spec_base.specs.declared.spot.ReadSpot.{ReadSpot}
use Rattle.spec_base.specs.declared.spot.BlockSpot.{BlockSpot}
use Rattle.trace_text.specs.declared.trace_line.TraceBody.{TraceBody}
use Rattle.trace_text.specs.declared.trace_line.TraceBody.TheVariants as bodies
use Rattle.trace_text.specs.Line.{hex_text, park_name, trap_name, read_words, block_words, note_words, spaced, line_with}
use Rattle.trace_text.specs.Grammar.{words_of, with_first, park_in, trap_in, call_in, text_in, read_in, block_in, exit_in, trapped_in, parked_in, fault_in, use_in, fields_in, body_in, line_in, line_at}
use Rattle.trace_text.specs.RoundTrip.{IsRead, IsBlock, IsPut, HasLine, NoteLinesAreRead, TurnsLinesAreRead, UseLinesAreRead}
use Rattle.trace_text.proofs.NumberLaws.{and-left, and-right}
use Rattle.trace_text.proofs.Printed.{is_word, number_in-decimal, is_word-decimal, answer_in-signed, is_word-signed, address_in-text, is_word-address, name_in-hex_text, text_count_in-hex_text, is_word-hex_text}

-- ---- words

words_of-space : (text : List ℕ) → words_of (32 ∷ text) ≡ [] ∷ words_of text
unfolding words_of
words_of-space text = refl

words_of-letter : (c : ℕ) (text : List ℕ) → not (eqb c 32) ≡ true → words_of (c ∷ text) ≡ with_first c (words_of text)
unfolding words_of
words_of-letter c text other = rw (not-true (eqb c 32) other) refl

-- a word ends at the space behind it
words_of-front : (word text : List ℕ) → is_word word ≡ true → words_of (word ++ 32 ∷ text) ≡ word ∷ words_of text
words_of-front [] text h = words_of-space text
words_of-front (c ∷ cs) text h =
    words_of-letter c (cs ++ 32 ∷ text) (and-left (not (eqb c 32)) (is_word cs) h)
    ∙ ap (with_first c) (words_of-front cs text (and-right (not (eqb c 32)) (is_word cs) h))

words_of-word : (word : List ℕ) → is_word word ≡ true → words_of word ≡ word ∷ []
words_of-word [] h = unfold words_of in refl
words_of-word (c ∷ cs) h =
    words_of-letter c cs (and-left (not (eqb c 32)) (is_word cs) h)
    ∙ ap (with_first c) (words_of-word cs (and-right (not (eqb c 32)) (is_word cs) h))

words_of-spaced : (word : List ℕ) (words : List (List ℕ)) → is_word word ≡ true → list_all is_word words ≡ true → words_of (word ++ spaced words) ≡ word ∷ words
words_of-spaced word [] h all = ap words_of (append-nil word) ∙ words_of-word word h
words_of-spaced word (next ∷ words) h all =
    words_of-front word (next ++ spaced words) h
    ∙ ap (λ (ws : List (List ℕ)). word ∷ ws) (words_of-spaced next words (and-left (is_word next) (list_all is_word words) all) (and-right (is_word next) (list_all is_word words) all))

-- ---- lines

line_at-newline : (text : List ℕ) → line_at (text ++ 10 ∷ []) ≡ line_in (words_of text)
unfolding line_at
line_at-newline text =
    let long : length text ≡ length (text ++ 10 ∷ []) - 1 = omega (arith, length-append text (10 ∷ [])) in
    let last : drop (length (text ++ 10 ∷ []) - 1) (text ++ 10 ∷ []) ≡ 10 ∷ [] = drop_at text (10 ∷ []) _ long in
    let front : take (length (text ++ 10 ∷ []) - 1) (text ++ 10 ∷ []) ≡ text = take_at text (10 ∷ []) _ long in
    rw (last, front) refl

line_in-counts : (own shadow : ℕ) (words : List (List ℕ)) (body : TraceBody) → own < 2 ^ 64 → shadow < 2 ^ 64 → body_in words ≡ Some body
    → line_in (decimal own ∷ decimal shadow ∷ words) ≡ Some (record { own = own; shadow = shadow; body = body })
unfolding line_in
line_in-counts own shadow words body small few said =
    rw (number_in-decimal (2 ^ 64 - 1) own small (omega arith), number_in-decimal (2 ^ 64 - 1) shadow few (omega arith), said) refl

line_at-line_with : (own shadow : ℕ) (words : List (List ℕ)) (body : TraceBody) → own < 2 ^ 64 → shadow < 2 ^ 64 → list_all is_word words ≡ true → body_in words ≡ Some body
    → line_at (line_with own shadow words) ≡ Some (record { own = own; shadow = shadow; body = body })
line_at-line_with own shadow words body small few all said =
    line_at-newline (decimal own ++ spaced (decimal shadow ∷ words))
    ∙ ap line_in (words_of-spaced (decimal own) (decimal shadow ∷ words) (is_word-decimal own) (both_true (is_word-decimal shadow) all))
    ∙ line_in-counts own shadow words body small few said

-- ---- fields

is_word-read : (spot : ReadSpot) → IsRead spot → list_all is_word (read_words spot) ≡ true
is_word-read spot h = both_true (is_word-hex_text spot.name h.name.bytes) (both_true (is_word-decimal spot.offset) (both_true (is_word-decimal spot.count) refl))

is_word-block : (spot : BlockSpot) → IsBlock spot → list_all is_word (block_words spot) ≡ true
is_word-block spot h = both_true (is_word-hex_text spot.name h.name.bytes) (both_true (is_word-decimal spot.block) refl)

read_in-words : (spot : ReadSpot) → IsRead spot → read_in (read_words spot) ≡ Some spot
unfolding read_in
read_in-words spot h =
    let offset : spot.offset < 2 ^ 56 = h.offset in
    let count : spot.count ≤ 65_536 = h.count in
    rw (name_in-hex_text spot.name h.name, number_in-decimal (2 ^ 56 - 1) spot.offset (omega arith) (omega arith), number_in-decimal 65_536 spot.count (omega arith) count) refl

block_in-words : (spot : BlockSpot) → IsBlock spot → block_in (block_words spot) ≡ Some spot
unfolding block_in
block_in-words spot h =
    let block : spot.block < 2 ^ 44 = h.block in
    rw (name_in-hex_text spot.name h.name, number_in-decimal (2 ^ 44 - 1) spot.block (omega arith) (omega arith)) refl

park_in-name : (cause : Park) → park_in (park_name cause) ≡ Some cause
park_in-name parks.Exit = refl
park_in-name parks.Fault = refl
park_in-name parks.Regions = refl
park_in-name parks.LogFull = refl
park_in-name parks.Store = refl

is_word-park : (cause : Park) → is_word (park_name cause) ≡ true
is_word-park parks.Exit = refl
is_word-park parks.Fault = refl
is_word-park parks.Regions = refl
is_word-park parks.LogFull = refl
is_word-park parks.Store = refl

trap_in-name : (trap : Trap) → trap_in (trap_name trap) ≡ Some trap
trap_in-name traps.Illegal = refl
trap_in-name traps.FetchOut = refl
trap_in-name traps.Misaligned = refl
trap_in-name traps.LoadOut = refl
trap_in-name traps.StoreOut = refl
trap_in-name traps.Break = refl

is_word-trap : (trap : Trap) → is_word (trap_name trap) ≡ true
is_word-trap traps.Illegal = refl
is_word-trap traps.FetchOut = refl
is_word-trap traps.Misaligned = refl
is_word-trap traps.LoadOut = refl
is_word-trap traps.StoreOut = refl
is_word-trap traps.Break = refl

-- ---- notes

text_in-put : (to count : ℕ) (text : List ℕ) → IsPut to count text → text_in (decimal to ∷ hex_text text ∷ []) ≡ Some (notes.Text to count)
unfolding text_in
text_in-put to count text h =
    let few : to ≤ 2 = elim h.output [ inl e ↦ omega (arith, e) | inr e ↦ omega (arith, e) ] in
    let other : eqb to 0 ≡ false = elim h.output [ inl e ↦ rw e refl | inr e ↦ rw e refl ] in
    rw (number_in-decimal 2 to (omega (arith, few)) few, text_count_in-hex_text text h.some h.bytes, other) (ap (λ (n : ℕ). Some (notes.Text to n)) (sym h.counted))

words_are_words : (note : Note) (text : List ℕ) → HasLine note text → list_all is_word (note_words note text) ≡ true
words_are_words (notes.Call number a0 a1 a2 answer) text h =
    both_true (is_word-decimal number) (both_true (is_word-decimal a0) (both_true (is_word-decimal a1) (both_true (is_word-decimal a2) (both_true (is_word-signed answer) refl))))
words_are_words (notes.Text to count) text h = both_true (is_word-decimal to) (both_true (is_word-hex_text text h.bytes) refl)
words_are_words (notes.Exit code) text h = both_true (is_word-decimal code) refl
words_are_words (notes.Trap trap pc) text h = both_true (is_word-trap trap) (both_true (is_word-address pc) refl)
words_are_words (notes.Restart spot) text h = is_word-read spot h
words_are_words (notes.Match spot) text h = is_word-read spot h
words_are_words (notes.Hint spot) text h = is_word-read spot h
words_are_words (notes.Fill spot) text h = is_word-read spot h
words_are_words (notes.Park cause) text h = both_true (is_word-park cause) refl
words_are_words (notes.Stall spot) text h = is_word-block spot h
words_are_words (notes.Fetch spot) text h = is_word-block spot h
words_are_words (notes.Drop spot) text h = is_word-block spot h
words_are_words (notes.Lost spot) text h = is_word-block spot h
words_are_words notes.Fault text h = refl

body_in-note : (note : Note) (text : List ℕ) → HasLine note text → body_in (note_words note text) ≡ Some (bodies.Note note)
unfolding body_in fields_in call_in exit_in trapped_in parked_in fault_in
body_in-note (notes.Call number a0 a1 a2 answer) text h =
    rw (
      number_in-decimal (2 ^ 64 - 1) number h.0 (omega (arith, h.0)),
      number_in-decimal (2 ^ 64 - 1) a0 h.1 (omega (arith, h.1)),
      number_in-decimal (2 ^ 64 - 1) a1 h.2 (omega (arith, h.2)),
      number_in-decimal (2 ^ 64 - 1) a2 h.3 (omega (arith, h.3)),
      answer_in-signed answer h.4,
    ) refl
body_in-note (notes.Text to count) text h =
    rw (text_in-put to count text h) refl
body_in-note (notes.Exit code) text h = rw (number_in-decimal 255 code (omega (arith, h)) h) refl
body_in-note (notes.Trap trap pc) text h = rw (trap_in-name trap, address_in-text pc h) refl
body_in-note (notes.Restart spot) text h = rw (read_in-words spot h) refl
body_in-note (notes.Match spot) text h = rw (read_in-words spot h) refl
body_in-note (notes.Hint spot) text h = rw (read_in-words spot h) refl
body_in-note (notes.Fill spot) text h = rw (read_in-words spot h) refl
body_in-note (notes.Park cause) text h = rw (park_in-name cause) refl
body_in-note (notes.Stall spot) text h = rw (block_in-words spot h) refl
body_in-note (notes.Fetch spot) text h = rw (block_in-words spot h) refl
body_in-note (notes.Drop spot) text h = rw (block_in-words spot h) refl
body_in-note (notes.Lost spot) text h = rw (block_in-words spot h) refl
body_in-note notes.Fault text h = refl

pub note_lines : NoteLinesAreRead
note_lines own shadow note text small few h =
    line_at-line_with own shadow (note_words note text) (bodies.Note note) small few (words_are_words note text h) (body_in-note note text h)

pub turns_lines : TurnsLinesAreRead
turns_lines own shadow small few = line_at-line_with own shadow (codes "turns" ∷ []) bodies.Turns small few refl (unfold body_in in refl)

body_in-use : (number : ℕ) → number < 2 ^ 64 → body_in (codes "use" ∷ decimal number ∷ []) ≡ Some (bodies.Use number)
unfolding body_in fields_in use_in
body_in-use number small = rw (number_in-decimal (2 ^ 64 - 1) number small (omega arith)) refl

pub use_lines : UseLinesAreRead
use_lines own shadow number small few used =
    line_at-line_with own shadow (codes "use" ∷ decimal number ∷ []) (bodies.Use number) small few (both_true (is_word-decimal number) refl) (body_in-use number used)
