-- A line that is read is the line that is printed of what it says.
use Rattle.std.proofs.Common.{◌≡◌, ℕ, ◌+◌, ◌-◌, ◌^◌, Bool, true, false, cond, eqb, List, [], ◌∷◌, ◌++◌, length, take, drop, refl, sym, ap, ◌∙◌, arith}
use Rattle.std.specs.Prelude.{Option, Some, None, option_map, codes, decimal, bytes_eq}
use Rattle.std.proofs.lemmas.Bool.{eqb-true}
use Rattle.std.proofs.lemmas.List.{take-append-drop}
use Rattle.std.proofs.lemmas.Option.{cond_some, same_Some}
use Rattle.std.proofs.lemmas.Slice.Eq.{bytes_eq-Decides}
use Rattle.spec_base.specs.declared.machine.Trap.{Trap}
use Rattle.spec_base.specs.declared.machine.Trap.TheVariants as traps
use Rattle.spec_base.specs.declared.note.Note.{Note}
use Rattle.spec_base.specs.declared.note.Note.TheVariants as notes
use Rattle.spec_base.specs.declared.park.Park.{Park}
use Rattle.spec_base.specs.declared.park.Park.TheVariants as parks
use Rattle.spec_base.specs.declared.spot.ReadSpot.{ReadSpot}
use Rattle.spec_base.specs.declared.spot.BlockSpot.{BlockSpot}
use Rattle.trace_text.specs.declared.keyword.Keyword.{Keyword}
use Rattle.trace_text.specs.declared.keyword.Keyword.TheVariants as keywords
use Rattle.trace_text.specs.declared.trace_line.TraceBody.{TraceBody}
use Rattle.trace_text.specs.declared.trace_line.TraceBody.TheVariants as bodies
use Rattle.trace_text.specs.declared.trace_line.TraceLine.{TraceLine}
use Rattle.trace_text.specs.Line.{park_name, trap_name, read_words, block_words, note_words, spaced}
use Rattle.trace_text.specs.Grammar.{words_of, with_first, one_word, two_words, three_words, five_words, number_in, decimal_in, answer_in, address_in, pairs, name_in, text_count_in, park_in, trap_in, keyword_in, call_in, text_in, read_in, block_in, exit_in, trapped_in, parked_in, fault_in, use_in, noted, fields_in, body_in, line_in, line_at}
use Rattle.trace_text.specs.RoundTrip.{body_words, OnlyPrintedIsRead}
use Rattle.trace_text.proofs.WordLaws.{words_of-some}
use Rattle.trace_text.proofs.OneForm.{bind_some, map_some, decimal-form, answer_in-form, address_in-form, name_in-form, text_count_in-form}

-- ---- words

-- the text of words
joined : List (List ℕ) → List ℕ
joined [] = []
joined (word ∷ words) = word ++ spaced words

letter : (b : Bool) (c : ℕ) (ws : List (List ℕ)) (v : List ℕ) (vs : List (List ℕ)) → eqb c 32 ≡ b → ws ≡ v ∷ vs
    → joined (cond b ([] ∷ ws) (with_first c ws)) ≡ c ∷ joined ws
unfolding joined
letter true c ws v vs test some = rw some (ap (λ (s : ℕ). s ∷ v ++ spaced vs) (sym (eqb-true c 32 test)))
letter false c ws v vs test some = rw some refl

joined-words_of : (text : List ℕ) → joined (words_of text) ≡ text
unfolding joined words_of
joined-words_of [] = refl
joined-words_of (c ∷ cs) =
    let some = words_of-some cs in
    letter (eqb c 32) c (words_of cs) some.0 some.1 refl some.2 ∙ ap (λ (t : List ℕ). c ∷ t) (joined-words_of cs)

-- ---- words of a fixed number

one_word-form : (ws : List (List ℕ)) (a : List ℕ) → one_word ws ≡ Some a → ws ≡ a ∷ []
one_word-form [] a read = absurd cc
one_word-form (w ∷ []) a read = ap (λ (x : List ℕ). x ∷ []) (same_Some w a read)
one_word-form (w ∷ x ∷ ws) a read = absurd cc

two_words-form : (ws : List (List ℕ)) (w : List ℕ × List ℕ) → two_words ws ≡ Some w → ws ≡ w.0 ∷ w.1 ∷ []
two_words-form [] w read = absurd cc
two_words-form (a ∷ []) w read = absurd cc
two_words-form (a ∷ b ∷ []) w read = ap (λ (x : List ℕ × List ℕ). x.0 ∷ x.1 ∷ []) (same_Some (a, b) w read)
two_words-form (a ∷ b ∷ c ∷ ws) w read = absurd cc

three_words-form : (ws : List (List ℕ)) (w : List ℕ × List ℕ × List ℕ) → three_words ws ≡ Some w → ws ≡ w.0 ∷ w.1 ∷ w.2 ∷ []
three_words-form [] w read = absurd cc
three_words-form (a ∷ []) w read = absurd cc
three_words-form (a ∷ b ∷ []) w read = absurd cc
three_words-form (a ∷ b ∷ c ∷ []) w read = ap (λ (x : List ℕ × List ℕ × List ℕ). x.0 ∷ x.1 ∷ x.2 ∷ []) (same_Some (a, b, c) w read)
three_words-form (a ∷ b ∷ c ∷ d ∷ ws) w read = absurd cc

five_words-form : (ws : List (List ℕ)) (w : List ℕ × List ℕ × List ℕ × List ℕ × List ℕ) → five_words ws ≡ Some w → ws ≡ w.0 ∷ w.1 ∷ w.2 ∷ w.3 ∷ w.4 ∷ []
five_words-form [] w read = absurd cc
five_words-form (a ∷ []) w read = absurd cc
five_words-form (a ∷ b ∷ []) w read = absurd cc
five_words-form (a ∷ b ∷ c ∷ []) w read = absurd cc
five_words-form (a ∷ b ∷ c ∷ d ∷ []) w read = absurd cc
five_words-form (a ∷ b ∷ c ∷ d ∷ e ∷ []) w read =
    ap (λ (x : List ℕ × List ℕ × List ℕ × List ℕ × List ℕ). x.0 ∷ x.1 ∷ x.2 ∷ x.3 ∷ x.4 ∷ []) (same_Some (a, b, c, d, e) w read)
five_words-form (a ∷ b ∷ c ∷ d ∷ e ∷ f ∷ ws) w read = absurd cc

-- ---- names

-- the first name that a word is, of several
picked : {T : Type 0} (name : T → List ℕ) (word : List ℕ) (k x : T) (rest : Option T) (b : Bool) → bytes_eq word (name x) ≡ b → (rest ≡ Some k → word ≡ name k)
    → cond b (Some x) rest ≡ Some k → word ≡ name k
picked name word k x rest true test others read = (bytes_eq-Decides word (name x)).0 test ∙ ap name (same_Some x k read)
picked name word k x rest false test others read = others read

pick : {T : Type 0} (name : T → List ℕ) (word : List ℕ) (k x : T) (rest : Option T) → (rest ≡ Some k → word ≡ name k)
    → cond (bytes_eq word (name x)) (Some x) rest ≡ Some k → word ≡ name k
pick name word k x rest others read = picked name word k x rest (bytes_eq word (name x)) refl others read

never : {T : Type 0} (name : T → List ℕ) (word : List ℕ) (k : T) → None ≡ Some k → word ≡ name k
never name word k read = absurd cc

park_in-form : (word : List ℕ) (cause : Park) → park_in word ≡ Some cause → word ≡ park_name cause
park_in-form word k =
    let p : (x : Park) (rest : Option Park) → (rest ≡ Some k → word ≡ park_name k) → cond (bytes_eq word (park_name x)) (Some x) rest ≡ Some k → word ≡ park_name k = pick park_name word k in
    p parks.Exit _ (p parks.Fault _ (p parks.Regions _ (p parks.LogFull _ (p parks.Store _ (never park_name word k)))))

trap_in-form : (word : List ℕ) (trap : Trap) → trap_in word ≡ Some trap → word ≡ trap_name trap
trap_in-form word k =
    let p : (x : Trap) (rest : Option Trap) → (rest ≡ Some k → word ≡ trap_name k) → cond (bytes_eq word (trap_name x)) (Some x) rest ≡ Some k → word ≡ trap_name k = pick trap_name word k in
    p traps.Illegal _ (p traps.FetchOut _ (p traps.Misaligned _ (p traps.LoadOut _ (p traps.StoreOut _ (p traps.Break _ (never trap_name word k))))))

abbrev keyword_text : Keyword → List ℕ
keyword_text keywords.Call = codes "call"
keyword_text keywords.Text = codes "text"
keyword_text keywords.Match = codes "match"
keyword_text keywords.Restart = codes "restart"
keyword_text keywords.Stall = codes "stall"
keyword_text keywords.Hint = codes "hint"
keyword_text keywords.Fill = codes "fill"
keyword_text keywords.Park = codes "park"
keyword_text keywords.Fetch = codes "fetch"
keyword_text keywords.Drop = codes "drop"
keyword_text keywords.Lost = codes "lost"
keyword_text keywords.Exit = codes "exit"
keyword_text keywords.Trap = codes "trap"
keyword_text keywords.Fault = codes "fault"
keyword_text keywords.Use = codes "use"

keyword_in-form : (word : List ℕ) (keyword : Keyword) → keyword_in word ≡ Some keyword → word ≡ keyword_text keyword
keyword_in-form word k =
    let p : (x : Keyword) (rest : Option Keyword) → (rest ≡ Some k → word ≡ keyword_text k) → cond (bytes_eq word (keyword_text x)) (Some x) rest ≡ Some k → word ≡ keyword_text k = pick keyword_text word k in
    p keywords.Call _ (p keywords.Text _ (p keywords.Match _ (p keywords.Restart _ (p keywords.Stall _ (p keywords.Hint _ (p keywords.Fill _ (p keywords.Park _
    (p keywords.Fetch _ (p keywords.Drop _ (p keywords.Lost _ (p keywords.Exit _ (p keywords.Trap _ (p keywords.Fault _ (p keywords.Use _ (never keyword_text word k)))))))))))))))

-- ---- fields

two : {a b x y : List ℕ} → a ≡ x → b ≡ y → ◌≡◌ {A = List (List ℕ)} (a ∷ b ∷ []) (x ∷ y ∷ [])
two p q = λ i. p i ∷ q i ∷ []

three : {a b c x y z : List ℕ} → a ≡ x → b ≡ y → c ≡ z → ◌≡◌ {A = List (List ℕ)} (a ∷ b ∷ c ∷ []) (x ∷ y ∷ z ∷ [])
three p q r = λ i. p i ∷ q i ∷ r i ∷ []

five : {a b c d e v w x y z : List ℕ} → a ≡ v → b ≡ w → c ≡ x → d ≡ y → e ≡ z → ◌≡◌ {A = List (List ℕ)} (a ∷ b ∷ c ∷ d ∷ e ∷ []) (v ∷ w ∷ x ∷ y ∷ z ∷ [])
five p q r s t = λ i. p i ∷ q i ∷ r i ∷ s i ∷ t i ∷ []

front : {a b x y : List ℕ} {ws xs : List (List ℕ)} → a ≡ x → b ≡ y → ws ≡ xs → ◌≡◌ {A = List (List ℕ)} (a ∷ b ∷ ws) (x ∷ y ∷ xs)
front p q r = λ i. p i ∷ q i ∷ r i

unless_some : {T : Type 0} (b : Bool) (x y : T) → cond b None (Some x) ≡ Some y → x ≡ y
unless_some true x y read = absurd cc
unless_some false x y read = same_Some x y read

ended : {T : Type 0} (b : Bool) (o : Option T) (y : T) → cond b o None ≡ Some y → (b ≡ true) × (o ≡ Some y)
ended true o y read = (refl, read)
ended false o y read = absurd cc

read_in-form : (ws : List (List ℕ)) (spot : ReadSpot) → read_in ws ≡ Some spot → ws ≡ read_words spot
unfolding read_in
read_in-form ws spot read =
    let w = bind_some (three_words ws) _ spot read in
    let name = bind_some (name_in w.0.0) _ spot w.2 in
    let offset = bind_some (number_in 10 (2 ^ 56 - 1) w.0.1) _ spot name.2 in
    let count = bind_some (number_in 10 65_536 w.0.2) _ spot offset.2 in
    let first = name_in-form w.0.0 name.0 name.1 in
    let second = decimal-form (2 ^ 56 - 1) w.0.1 offset.0 (omega arith) offset.1 in
    let third = decimal-form 65_536 w.0.2 count.0 (omega arith) count.1 in
    let made : ReadSpot = record { name = name.0; offset = offset.0; count = count.0 } in
    let words : ws ≡ read_words made = three_words-form ws w.0 w.1 ∙ three first second third in
    words ∙ ap read_words (same_Some made spot count.2)

block_in-form : (ws : List (List ℕ)) (spot : BlockSpot) → block_in ws ≡ Some spot → ws ≡ block_words spot
unfolding block_in
block_in-form ws spot read =
    let w = bind_some (two_words ws) _ spot read in
    let name = bind_some (name_in w.0.0) _ spot w.2 in
    let block = bind_some (number_in 10 (2 ^ 44 - 1) w.0.1) _ spot name.2 in
    let first = name_in-form w.0.0 name.0 name.1 in
    let second = decimal-form (2 ^ 44 - 1) w.0.1 block.0 (omega arith) block.1 in
    let made : BlockSpot = record { name = name.0; block = block.0 } in
    let words : ws ≡ block_words made = two_words-form ws w.0 w.1 ∙ two first second in
    words ∙ ap block_words (same_Some made spot block.2)

call_in-form : (ws : List (List ℕ)) (note : Note) → call_in ws ≡ Some note → codes "call" ∷ ws ≡ note_words note []
unfolding call_in
call_in-form ws note read =
    let w = bind_some (five_words ws) _ note read in
    let number = bind_some (decimal_in w.0.0) _ note w.2 in
    let a0 = bind_some (decimal_in w.0.1) _ note number.2 in
    let a1 = bind_some (decimal_in w.0.2) _ note a0.2 in
    let a2 = bind_some (decimal_in w.0.3) _ note a1.2 in
    let answer = bind_some (answer_in w.0.4) _ note a2.2 in
    let first = decimal-form (2 ^ 64 - 1) w.0.0 number.0 (omega arith) number.1 in
    let second = decimal-form (2 ^ 64 - 1) w.0.1 a0.0 (omega arith) a0.1 in
    let third = decimal-form (2 ^ 64 - 1) w.0.2 a1.0 (omega arith) a1.1 in
    let fourth = decimal-form (2 ^ 64 - 1) w.0.3 a2.0 (omega arith) a2.1 in
    let fifth = answer_in-form w.0.4 answer.0 answer.1 in
    ap (λ (xs : List (List ℕ)). codes "call" ∷ xs) (five_words-form ws w.0 w.1 ∙ five first second third fourth fifth)
    ∙ ap (λ (n : Note). note_words n []) (same_Some (notes.Call number.0 a0.0 a1.0 a2.0 answer.0) note answer.2)

text_in-form : (ws : List (List ℕ)) (note : Note) → text_in ws ≡ Some note → (text : List ℕ) × (codes "text" ∷ ws ≡ note_words note text)
unfolding text_in
text_in-form ws note read =
    let w = bind_some (two_words ws) _ note read in
    let to = bind_some (number_in 10 2 w.0.0) _ note w.2 in
    let count = bind_some (text_count_in w.0.1) _ note to.2 in
    let first = decimal-form 2 w.0.0 to.0 (omega arith) to.1 in
    let second = text_count_in-form w.0.1 count.0 count.1 in
    let same : notes.Text to.0 count.0 ≡ note = unless_some (eqb to.0 0) (notes.Text to.0 count.0) note count.2 in
    (pairs w.0.1, ap (λ (xs : List (List ℕ)). codes "text" ∷ xs) (two_words-form ws w.0 w.1 ∙ two first second) ∙ ap (λ (n : Note). note_words n (pairs w.0.1)) same)

exit_in-form : (ws : List (List ℕ)) (note : Note) → exit_in ws ≡ Some note → codes "exit" ∷ ws ≡ note_words note []
unfolding exit_in
exit_in-form ws note read =
    let w = bind_some (one_word ws) _ note read in
    let code = bind_some (number_in 10 255 w.0) _ note w.2 in
    ap (λ (xs : List (List ℕ)). codes "exit" ∷ xs) (one_word-form ws w.0 w.1 ∙ ap (λ (x : List ℕ). x ∷ []) (decimal-form 255 w.0 code.0 (omega arith) code.1))
    ∙ ap (λ (n : Note). note_words n []) (same_Some (notes.Exit code.0) note code.2)

trapped_in-form : (ws : List (List ℕ)) (note : Note) → trapped_in ws ≡ Some note → codes "trap" ∷ ws ≡ note_words note []
unfolding trapped_in
trapped_in-form ws note read =
    let w = bind_some (two_words ws) _ note read in
    let trap = bind_some (trap_in w.0.0) _ note w.2 in
    let pc = bind_some (address_in w.0.1) _ note trap.2 in
    ap (λ (xs : List (List ℕ)). codes "trap" ∷ xs) (two_words-form ws w.0 w.1 ∙ two (trap_in-form w.0.0 trap.0 trap.1) (address_in-form w.0.1 pc.0 pc.1))
    ∙ ap (λ (n : Note). note_words n []) (same_Some (notes.Trap trap.0 pc.0) note pc.2)

parked_in-form : (ws : List (List ℕ)) (note : Note) → parked_in ws ≡ Some note → codes "park" ∷ ws ≡ note_words note []
unfolding parked_in
parked_in-form ws note read =
    let w = bind_some (one_word ws) _ note read in
    let cause = bind_some (park_in w.0) _ note w.2 in
    ap (λ (xs : List (List ℕ)). codes "park" ∷ xs) (one_word-form ws w.0 w.1 ∙ ap (λ (x : List ℕ). x ∷ []) (park_in-form w.0 cause.0 cause.1))
    ∙ ap (λ (n : Note). note_words n []) (same_Some (notes.Park cause.0) note cause.2)

fault_in-form : (ws : List (List ℕ)) (note : Note) → fault_in ws ≡ Some note → codes "fault" ∷ ws ≡ note_words note []
unfolding fault_in
fault_in-form ws note read =
    let w = bind_some (one_word ws) _ note read in
    let parts = cond_some (bytes_eq w.0 (codes "store")) notes.Fault note w.2 in
    ap (λ (xs : List (List ℕ)). codes "fault" ∷ xs) (one_word-form ws w.0 w.1 ∙ ap (λ (x : List ℕ). x ∷ []) ((bytes_eq-Decides w.0 (codes "store")).0 parts.0))
    ∙ ap (λ (n : Note). note_words n []) parts.1

use_in-form : (ws : List (List ℕ)) (body : TraceBody) → use_in ws ≡ Some body → codes "use" ∷ ws ≡ body_words body []
unfolding use_in
use_in-form ws body read =
    let w = bind_some (one_word ws) _ body read in
    let number = bind_some (decimal_in w.0) _ body w.2 in
    ap (λ (xs : List (List ℕ)). codes "use" ∷ xs) (one_word-form ws w.0 w.1 ∙ ap (λ (x : List ℕ). x ∷ []) (decimal-form (2 ^ 64 - 1) w.0 number.0 (omega arith) number.1))
    ∙ ap (λ (b : TraceBody). body_words b []) (same_Some (bodies.Use number.0) body number.2)

-- ---- bodies

-- the words of a body, with some text that was put
Said : List (List ℕ) → TraceBody → Type 0
Said words body = (text : List ℕ) × (words ≡ body_words body text)

note-said : (f : List (List ℕ) → Option Note) (keyword : List ℕ) (ws : List (List ℕ)) (body : TraceBody)
    → ((note : Note) → f ws ≡ Some note → keyword ∷ ws ≡ note_words note []) → noted (f ws) ≡ Some body → Said (keyword ∷ ws) body
unfolding Said
note-said f keyword ws body form read =
    let note = map_some bodies.Note (f ws) body read in
    ([], form note.0 note.1 ∙ ap (λ (b : TraceBody). body_words b []) note.2)

spot-said : {S : Type 0} (g : List (List ℕ) → Option S) (make : S → Note) (keyword : List ℕ) (words : S → List (List ℕ)) (ws : List (List ℕ)) (body : TraceBody)
    → ((spot : S) → note_words (make spot) [] ≡ keyword ∷ words spot) → ((spot : S) → g ws ≡ Some spot → ws ≡ words spot)
    → noted (option_map make (g ws)) ≡ Some body → Said (keyword ∷ ws) body
spot-said g make keyword words ws body says form read =
    note-said (λ xs. option_map make (g xs)) keyword ws body
    (λ note is. let spot = map_some make (g ws) note is in
    ap (λ (xs : List (List ℕ)). keyword ∷ xs) (form spot.0 spot.1) ∙ sym (says spot.0) ∙ ap (λ (n : Note). note_words n []) spot.2) read

fields_in-said : (keyword : Keyword) (ws : List (List ℕ)) (body : TraceBody) → fields_in keyword ws ≡ Some body → Said (keyword_text keyword ∷ ws) body
unfolding fields_in Said
fields_in-said keywords.Call ws body read = note-said call_in (codes "call") ws body (call_in-form ws) read
fields_in-said keywords.Text ws body read =
    let note = map_some bodies.Note (text_in ws) body read in
    let text = text_in-form ws note.0 note.1 in
    (text.0, text.1 ∙ ap (λ (b : TraceBody). body_words b text.0) note.2)
fields_in-said keywords.Match ws body read = spot-said read_in notes.Match (codes "match") read_words ws body (λ s. refl) (read_in-form ws) read
fields_in-said keywords.Restart ws body read = spot-said read_in notes.Restart (codes "restart") read_words ws body (λ s. refl) (read_in-form ws) read
fields_in-said keywords.Stall ws body read = spot-said block_in notes.Stall (codes "stall") block_words ws body (λ s. refl) (block_in-form ws) read
fields_in-said keywords.Hint ws body read = spot-said read_in notes.Hint (codes "hint") read_words ws body (λ s. refl) (read_in-form ws) read
fields_in-said keywords.Fill ws body read = spot-said read_in notes.Fill (codes "fill") read_words ws body (λ s. refl) (read_in-form ws) read
fields_in-said keywords.Park ws body read = note-said parked_in (codes "park") ws body (parked_in-form ws) read
fields_in-said keywords.Fetch ws body read = spot-said block_in notes.Fetch (codes "fetch") block_words ws body (λ s. refl) (block_in-form ws) read
fields_in-said keywords.Drop ws body read = spot-said block_in notes.Drop (codes "drop") block_words ws body (λ s. refl) (block_in-form ws) read
fields_in-said keywords.Lost ws body read = spot-said block_in notes.Lost (codes "lost") block_words ws body (λ s. refl) (block_in-form ws) read
fields_in-said keywords.Exit ws body read = note-said exit_in (codes "exit") ws body (exit_in-form ws) read
fields_in-said keywords.Trap ws body read = note-said trapped_in (codes "trap") ws body (trapped_in-form ws) read
fields_in-said keywords.Fault ws body read = note-said fault_in (codes "fault") ws body (fault_in-form ws) read
fields_in-said keywords.Use ws body read = ([], use_in-form ws body read)

body_in-said : (ws : List (List ℕ)) (body : TraceBody) → body_in ws ≡ Some body → Said ws body
unfolding body_in Said
body_in-said [] body read = absurd cc
body_in-said (keyword ∷ []) body read =
    let parts = cond_some (bytes_eq keyword (codes "turns")) bodies.Turns body read in
    ([], ap (λ (x : List ℕ). x ∷ []) ((bytes_eq-Decides keyword (codes "turns")).0 parts.0) ∙ ap (λ (b : TraceBody). body_words b []) parts.1)
body_in-said (keyword ∷ field ∷ fields) body read =
    let k = bind_some (keyword_in keyword) (λ k. fields_in k (field ∷ fields)) body read in
    let said = fields_in-said k.0 (field ∷ fields) body k.2 in
    (said.0, ap (λ (x : List ℕ). x ∷ field ∷ fields) (keyword_in-form keyword k.0 k.1) ∙ said.1)

-- ---- lines

line_in-said : (ws : List (List ℕ)) (l : TraceLine) → line_in ws ≡ Some l → (text : List ℕ) × (ws ≡ decimal l.own ∷ decimal l.shadow ∷ body_words l.body text)
unfolding line_in Said
line_in-said [] l read = absurd cc
line_in-said (a ∷ []) l read = absurd cc
line_in-said (a ∷ b ∷ ws) l read =
    let own = bind_some (decimal_in a) _ l read in
    let shadow = bind_some (decimal_in b) _ l own.2 in
    let body = bind_some (body_in ws) _ l shadow.2 in
    let said = body_in-said ws body.0 body.1 in
    let first = decimal-form (2 ^ 64 - 1) a own.0 (omega arith) own.1 in
    let second = decimal-form (2 ^ 64 - 1) b shadow.0 (omega arith) shadow.1 in
    let made : TraceLine = record { own = own.0; shadow = shadow.0; body = body.0 } in (
      said.0,
      front first second said.1
          ∙ ap (λ (x : TraceLine). decimal x.own ∷ decimal x.shadow ∷ body_words x.body said.0) (same_Some made l body.2),
    )

pub only_printed : OnlyPrintedIsRead
unfolding line_at joined
only_printed bytes l read =
    let parts = ended (bytes_eq (drop (length bytes - 1) bytes) (codes "\n")) (line_in (words_of (take (length bytes - 1) bytes))) l read in
    let newline = (bytes_eq-Decides (drop (length bytes - 1) bytes) (codes "\n")).0 parts.0 in
    let text = take (length bytes - 1) bytes in
    let said = line_in-said (words_of text) l parts.1 in (
      said.0,
      sym (take-append-drop (length bytes - 1) bytes) ∙ ap (λ (x : List ℕ). text ++ x) newline
          ∙ ap (λ (t : List ℕ). t ++ 10 ∷ []) (sym (joined-words_of text) ∙ ap joined said.1),
    )
