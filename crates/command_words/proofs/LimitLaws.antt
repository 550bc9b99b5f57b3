-- The limits hold for every accepted command line.
use Rattle.std.proofs.Common.{◌≡◌, ℕ, ◌+◌, ◌*◌, ◌-◌, ◌≤◌, Bool, true, false, List, [], ◌∷◌, ◌++◌, length, refl, sym, subst, arith, All, IfSome, length-append, ◌⊎◌, inl, inr}
use Rattle.std.specs.Prelude.{Option, Some, None, option_map, option_and_then, unwrap_or, ◌&&◌, nat_le, if◌then◌else◌, ◌==◌, codes, bytes_eq}
use Rattle.std.specs.Char.{is_ascii_digit}
use Rattle.std.specs.List.{list_any, before_first, after_first, sum_by}
use Rattle.std.specs.Str.Parse.{digits_value}
use Rattle.std.proofs.lemmas.Bool.{leb-true}
use Rattle.std.proofs.lemmas.List.Elements.{All-push, All-nil, All-cons}
use Rattle.std.proofs.lemmas.Bool.Decides.{nat_tests}
use Rattle.spec_base.specs.declared.layout.Version.{Version}
use Rattle.spec_base.specs.declared.note.Move.{Move}
use Rattle.spec_base.specs.declared.note.Move.TheVariants as moves
use Rattle.command_words.specs.declared.command.Command.{Command}
use Rattle.command_words.specs.declared.command.Command.TheVariants as commands
use Rattle.command_words.specs.declared.setting.Setting.{Setting}
use Rattle.command_words.specs.declared.setting.Setting.TheVariants.{Turns, Regions, Pattern, Layout, Report, Uses, Blocks, Depth, Every}
use Rattle.command_words.specs.declared.options.Chosen.{Chosen}
use Rattle.command_words.specs.declared.pattern.Items.{Items}
use Rattle.command_words.specs.declared.reading.Stage.{Stage}
use Rattle.command_words.specs.declared.reading.Stage.TheVariants.{Open, Awaits, Closed}
use Rattle.command_words.specs.declared.reading.Reading.{Reading}
use Rattle.command_words.specs.declared.request.Request.{Request}
use Rattle.command_words.specs.Values.{◌>>=◌, read_all, number_in, is_number, version_in, move_of, with_digit, with_move, whole_items, read_byte, at_most_65_536, pattern_in, Pattern as Moves}
use Rattle.command_words.specs.Settings.{command_named, setting_named, has_value, is_single, once, with_value, with_flag, options_of, default_pattern}
use Rattle.command_words.specs.CommandLine.{begins_with_dash, is_equals, with_argument, with_setting, with_name, read_option, read_open, read_at, read_word, are_arguments, is_complete, number_for, request_of, command_of, beginning}
use Rattle.command_words.proofs.ValueLaws.{and-left, and-right}
use Rattle.command_words.specs.Limits.{IsBetween, IsPattern, AreOptions, AreArguments, IsWithinLimits}

-- ---- steps

-- the value of a step that gave one
bind_some : {A B : Type 0} (o : Option A) (f : A → Option B) (y : B) → option_and_then f o ≡ Some y → (x : A) × (o ≡ Some x) × (f x ≡ Some y)
bind_some None f y made = absurd cc
bind_some (Some x) f y made = (x, refl, made)

map_some : {A B : Type 0} (f : A → B) (o : Option A) (y : B) → option_map f o ≡ Some y → (x : A) × (o ≡ Some x) × (f x ≡ y)
map_some f None y made = absurd cc
map_some f (Some x) y made = (x, refl, cc)

-- a test that passed
if_some : {A : Type 0} (b : Bool) (x y : A) → (if b then Some x else None) ≡ Some y → (b ≡ true) × (x ≡ y)
if_some true x y made = (refl, cc)
if_some false x y made = absurd cc

-- what each step keeps holds at the end
read_all-keeps : {S A : Type 0} (P : S → Type 0) (step : S → A → Option S) → ((s next : S) (a : A) → P s → step s a ≡ Some next → P next)
    → (s last : S) (items : List A) → P s → read_all step s items ≡ Some last → P last
read_all-keeps P step keeps s last [] holds made = let same : s ≡ last = cc in subst P same holds
read_all-keeps P step keeps s last (item ∷ items) holds made =
    let one = bind_some (step s item) (λ next. read_all step next items) last made in
    read_all-keeps P step keeps one.0 last items (keeps s one.0 item holds one.1) one.2

-- ---- numbers

number_in-between : (least most : ℕ) (word : List ℕ) (n : ℕ) → number_in least most word ≡ Some n → IsBetween least most n
unfolding number_in
number_in-between least most word n made =
    let passed = if_some (is_number word && nat_le least (digits_value 10 word) && nat_le (digits_value 10 word) most) (digits_value 10 word) n made in
    let low : least ≤ digits_value 10 word = leb-true least (digits_value 10 word) (and-right _ _ (and-left _ _ passed.0)) in
    let high : digits_value 10 word ≤ most = leb-true (digits_value 10 word) most (and-right _ _ passed.0) in
    subst (IsBetween least most) passed.1 (low, high)

once-some : {A : Type 0} (P : A → Type 0) (before value after : Option A) → ((x : A) → value ≡ Some x → P x) → once before value ≡ Some after → IfSome after P
once-some {A = A} P None (Some x) after holds made =
    let same : Some x ≡ after = cc in
    subst (λ (o : Option A). IfSome o P) same (holds x refl)
once-some P None None after holds made = absurd cc
once-some P (Some y) value after holds made = absurd cc

-- ---- patterns

abbrev HasCount : Move × ℕ → Type 0
HasCount item = IsBetween 1 1_000_000 item.1

record AreItems (items : Items) : Type 0 where
  done : All HasCount items.done
  count : items.count ≤ 1_000_000

if_not_some : {A : Type 0} (b : Bool) (x y : A) → (if b then None else Some x) ≡ Some y → (b ≡ false) × (x ≡ y)
if_not_some false x y made = (refl, cc)
if_not_some true x y made = absurd cc

if_either : {A : Type 0} (b : Bool) (o p : Option A) (y : A) → (if b then o else p) ≡ Some y → (o ≡ Some y) ⊎ (p ≡ Some y)
if_either true o p y made = inl made
if_either false o p y made = inr made

whole_items-keeps : (items : Items) (pattern : Moves) → AreItems items → whole_items items ≡ Some pattern → All HasCount pattern × (1 ≤ length pattern)
whole_items-keeps items pattern h made =
    let passed = if_not_some (items.count == 0) (items.done ++ (items.current, items.count) ∷ []) pattern made in
    let some : 1 ≤ items.count = grind (arith, nat_tests) in
    let all = All-push HasCount items.done (items.current, items.count) h.done (some, h.count) in
    let few : 1 ≤ length (items.done ++ (items.current, items.count) ∷ []) = omega (arith, length-append items.done ((items.current, items.count) ∷ [])) in
    subst (λ (p : Moves). All HasCount p × (1 ≤ length p)) passed.1 (all, few)

with_digit-keeps : (items next : Items) (digit : ℕ) → AreItems items → with_digit items digit ≡ Some next → AreItems next
with_digit-keeps items next digit h made =
    let n = 10 * items.count + digit in
    let passed = if_some (nat_le 1 n && nat_le n 1_000_000) (record items { count = n }) next made in
    subst AreItems passed.1 (record { done = h.done; count = leb-true n 1_000_000 (and-right _ _ passed.0) })

with_move-keeps : (items next : Items) (move : Move) → AreItems items → with_move items move ≡ Some next → AreItems next
with_move-keeps items next move h made =
    let whole = bind_some (whole_items items) (λ done. Some (record { done = done; current = move; count = 0 })) next made in
    let same : record { done = whole.0; current = move; count = 0 } ≡ next = cc (whole.2) in
    subst AreItems same (record { done = (whole_items-keeps items whole.0 h whole.1).0; count = omega arith })

read_byte-keeps : (items next : Items) (byte : ℕ) → AreItems items → read_byte items byte ≡ Some next → AreItems next
unfolding read_byte
read_byte-keeps items next byte h made =
    elim (if_either (is_ascii_digit byte) (with_digit items (byte - 48)) (move_of byte >>= with_move items) next made) [
      | inl digit ↦ with_digit-keeps items next (byte - 48) h digit
      | inr letter ↦ let move = bind_some (move_of byte) (with_move items) next letter in with_move-keeps items next move.0 h move.2
    ]

pattern_in-IsPattern : (word : List ℕ) (pattern : Moves) → pattern_in word ≡ Some pattern → IsPattern pattern
unfolding pattern_in
pattern_in-IsPattern [] pattern made = absurd cc
pattern_in-IsPattern (letter ∷ bytes) pattern made =
    let begun = λ (move : Move). let start : Items = record { done = []; current = move; count = 0 } in start in
    let first = bind_some (move_of letter) (λ move. read_all read_byte (begun move) bytes >>= (λ items. whole_items items >>= at_most_65_536)) pattern made in
    let items = bind_some (read_all read_byte (begun first.0) bytes) (λ items. whole_items items >>= at_most_65_536) pattern first.2 in
    let whole = bind_some (whole_items items.0) at_most_65_536 pattern items.2 in
    let passed = if_some (nat_le (length whole.0) 65_536) whole.0 pattern whole.2 in
    let start : AreItems (begun first.0) = record { done = All-nil HasCount; count = omega arith } in
    let kept = read_all-keeps AreItems read_byte (λ s next a. read_byte-keeps s next a) (begun first.0) items.0 bytes start items.1 in
    let held = whole_items-keeps items.0 whole.0 kept whole.1 in
    subst IsPattern passed.1 (record { items = (held.1, leb-true (length whole.0) 65_536 passed.0); counts = held.0 })

-- ---- options

record AreChosen (chosen : Chosen) : Type 0 where
  turns : IfSome chosen.turns (IsBetween 1 1_000_000_000_000_000)
  regions : IfSome chosen.regions (IsBetween 1 65_536)
  pattern : IfSome chosen.pattern IsPattern
  blocks : IfSome chosen.blocks (IsBetween 1 65_536)
  depth : IfSome chosen.depth (IsBetween 1 65_536)
  every : IfSome chosen.every (IsBetween 1 1_000_000_000_000_000)

-- a value that is put in an empty place
put-keeps : {A : Type 0} (P : A → Type 0) (put : Option A → Chosen) (before value : Option A) (next : Chosen) → ((x : A) → value ≡ Some x → P x)
    → ((v : Option A) → IfSome v P → AreChosen (put v)) → option_map put (once before value) ≡ Some next → AreChosen next
put-keeps P put before value next holds keeps made =
    let after = map_some put (once before value) next made in
    subst AreChosen after.2 (keeps after.0 (once-some P before value after.0 holds after.1))

with_value-keeps : (chosen next : Chosen) (setting : Setting) (word : List ℕ) → AreChosen chosen → with_value chosen setting word ≡ Some next → AreChosen next
unfolding with_value
with_value-keeps chosen next Turns word h made =
    put-keeps (IsBetween 1 1_000_000_000_000_000) (λ v. record chosen { turns = v }) chosen.turns (number_in 1 1_000_000_000_000_000 word) next (number_in-between 1 1_000_000_000_000_000 word)
    (λ v held. record { turns = held; regions = h.regions; pattern = h.pattern; blocks = h.blocks; depth = h.depth; every = h.every }) made
with_value-keeps chosen next Regions word h made =
    put-keeps (IsBetween 1 65_536) (λ v. record chosen { regions = v }) chosen.regions (number_in 1 65_536 word) next (number_in-between 1 65_536 word)
    (λ v held. record { turns = h.turns; regions = held; pattern = h.pattern; blocks = h.blocks; depth = h.depth; every = h.every }) made
with_value-keeps chosen next Pattern word h made =
    put-keeps IsPattern (λ v. record chosen { pattern = v }) chosen.pattern (pattern_in word) next (pattern_in-IsPattern word)
    (λ v held. record { turns = h.turns; regions = h.regions; pattern = held; blocks = h.blocks; depth = h.depth; every = h.every }) made
with_value-keeps chosen next Blocks word h made =
    put-keeps (IsBetween 1 65_536) (λ v. record chosen { blocks = v }) chosen.blocks (number_in 1 65_536 word) next (number_in-between 1 65_536 word)
    (λ v held. record { turns = h.turns; regions = h.regions; pattern = h.pattern; blocks = held; depth = h.depth; every = h.every }) made
with_value-keeps chosen next Depth word h made =
    put-keeps (IsBetween 1 65_536) (λ v. record chosen { depth = v }) chosen.depth (number_in 1 65_536 word) next (number_in-between 1 65_536 word)
    (λ v held. record { turns = h.turns; regions = h.regions; pattern = h.pattern; blocks = h.blocks; depth = held; every = h.every }) made
with_value-keeps chosen next Every word h made =
    put-keeps (IsBetween 1 1_000_000_000_000_000) (λ v. record chosen { every = v }) chosen.every (number_in 1 1_000_000_000_000_000 word) next (number_in-between 1 1_000_000_000_000_000 word)
    (λ v held. record { turns = h.turns; regions = h.regions; pattern = h.pattern; blocks = h.blocks; depth = h.depth; every = held }) made
with_value-keeps chosen next Layout word h made =
    put-keeps (λ (v : Version). Unit {0}) (λ v. record chosen { layout = v }) chosen.layout (version_in word) next (λ x e. tt)
    (λ v held. record { turns = h.turns; regions = h.regions; pattern = h.pattern; blocks = h.blocks; depth = h.depth; every = h.every }) made
with_value-keeps chosen next Report word h made = absurd cc
with_value-keeps chosen next Uses word h made = absurd cc

with_flag-keeps : (chosen next : Chosen) (setting : Setting) → AreChosen chosen → with_flag chosen setting ≡ Some next → AreChosen next
unfolding with_flag
with_flag-keeps chosen next Report h made =
    subst AreChosen (if_not_some chosen.report (record chosen { report = true }) next made).1 (record { turns = h.turns; regions = h.regions; pattern = h.pattern; blocks = h.blocks; depth = h.depth; every = h.every })
with_flag-keeps chosen next Uses h made =
    subst AreChosen (if_not_some chosen.uses (record chosen { uses = true }) next made).1 (record { turns = h.turns; regions = h.regions; pattern = h.pattern; blocks = h.blocks; depth = h.depth; every = h.every })
with_flag-keeps chosen next Turns h made = absurd cc
with_flag-keeps chosen next Regions h made = absurd cc
with_flag-keeps chosen next Pattern h made = absurd cc
with_flag-keeps chosen next Layout h made = absurd cc
with_flag-keeps chosen next Blocks h made = absurd cc
with_flag-keeps chosen next Depth h made = absurd cc
with_flag-keeps chosen next Every h made = absurd cc

-- a value or its default
or-default : {A : Type 0} (P : A → Type 0) (value : Option A) (default : A) → IfSome value P → P default → P (unwrap_or value default)
or-default P None default held other = other
or-default P (Some x) default held other = held

default_pattern-IsPattern : IsPattern default_pattern
default_pattern-IsPattern =
    let last : All HasCount ((moves.D, 1) ∷ []) = All-cons HasCount (moves.D, 1) [] (omega arith, omega arith) (All-nil HasCount) in
    let two : All HasCount ((moves.S, 600) ∷ (moves.D, 1) ∷ []) = All-cons HasCount (moves.S, 600) ((moves.D, 1) ∷ []) (omega arith, omega arith) last in
    record { items = (omega arith, omega arith); counts = All-cons HasCount (moves.O, 1) ((moves.S, 600) ∷ (moves.D, 1) ∷ []) (omega arith, omega arith) two }

options_of-keeps : (chosen : Chosen) → AreChosen chosen → AreOptions (options_of chosen)
unfolding options_of
options_of-keeps chosen h = record {
  turns = or-default (IsBetween 1 1_000_000_000_000_000) chosen.turns 10_000_000_000 h.turns (omega arith, omega arith);
  regions = or-default (IsBetween 1 65_536) chosen.regions 4096 h.regions (omega arith, omega arith);
  pattern = or-default IsPattern chosen.pattern default_pattern h.pattern default_pattern-IsPattern;
  blocks = or-default (IsBetween 1 65_536) chosen.blocks 256 h.blocks (omega arith, omega arith);
  depth = or-default (IsBetween 1 65_536) chosen.depth 64 h.depth (omega arith, omega arith);
  every = or-default (IsBetween 1 1_000_000_000_000_000) chosen.every 1 h.every (omega arith, omega arith);
}

-- ---- words

abbrev IsRead : Reading → Type 0
IsRead reading = AreChosen reading.chosen

with_setting-keeps : (reading next : Reading) (word : List ℕ) (setting : Setting) → IsRead reading → with_setting reading word setting ≡ Some next → IsRead next
with_setting-keeps reading next word setting h made =
    let put = map_some (λ (c : Chosen). let r : Reading = record reading { stage = Open; chosen = c } in r) (with_value reading.chosen setting word) next made in
    subst IsRead put.2 (with_value-keeps reading.chosen put.0 setting word h put.1)

with_name-keeps : (reading next : Reading) (setting : Setting) → IsRead reading → with_name reading setting ≡ Some next → IsRead next
with_name-keeps reading next setting h made =
    let flagged = λ (c : Chosen). let r : Reading = record reading { chosen = c } in r in
    elim (if_either (has_value setting) (Some (record reading { stage = Awaits setting })) (option_map flagged (with_flag reading.chosen setting)) next made) [
      | inl awaits ↦ let same : record reading { stage = Awaits setting } ≡ next = cc in subst IsRead same h
      | inr flag ↦ let put = map_some flagged (with_flag reading.chosen setting) next flag in subst IsRead put.2 (with_flag-keeps reading.chosen put.0 setting h put.1)
    ]

read_option-keeps : (command : Command) (reading next : Reading) (word : List ℕ) → IsRead reading → read_option command reading word ≡ Some next → IsRead next
unfolding read_option
read_option-keeps command reading next word h made =
    let value = after_first is_equals word in
    let whole = setting_named command (before_first is_equals word) in
    let alone = setting_named command word in
    elim (if_either (list_any is_equals word) (whole >>= with_setting reading value) (alone >>= with_name reading) next made) [
      | inl made ↦ let one = bind_some whole (with_setting reading value) next made in with_setting-keeps reading next value one.0 h one.2
      | inr made ↦ let one = bind_some alone (with_name reading) next made in with_name-keeps reading next one.0 h one.2
    ]

read_open-keeps : (command : Command) (reading next : Reading) (word : List ℕ) → IsRead reading → read_open command reading word ≡ Some next → IsRead next
read_open-keeps command reading next word h made =
    let closed : Reading = record reading { stage = Closed } in
    elim (if_either (begins_with_dash word) (if bytes_eq word (codes "--") then Some closed else read_option command reading word) (Some (with_argument reading word)) next made) [
      | inl dashed ↦ elim (if_either (bytes_eq word (codes "--")) (Some closed) (read_option command reading word) next dashed) [
        | inl ends ↦ let same : closed ≡ next = cc in subst IsRead same h
        | inr option ↦ read_option-keeps command reading next word h option
      ]
      | inr other ↦ let same : with_argument reading word ≡ next = cc in subst IsRead same h
    ]

read_at-keeps : (stage : Stage) (command : Command) (reading next : Reading) (word : List ℕ) → IsRead reading → read_at stage command reading word ≡ Some next → IsRead next
read_at-keeps Open command reading next word h made = read_open-keeps command reading next word h made
read_at-keeps (Awaits setting) command reading next word h made =
    elim (if_either (begins_with_dash word) None (with_setting reading word setting) next made) [
      | inl none ↦ absurd cc
      | inr made ↦ with_setting-keeps reading next word setting h made
    ]
read_at-keeps Closed command reading next word h made = let same : with_argument reading word ≡ next = cc in subst IsRead same h

read_word-keeps : (command : Command) (reading next : Reading) (word : List ℕ) → IsRead reading → read_word command reading word ≡ Some next → IsRead next
unfolding read_word
read_word-keeps command reading next word h made = read_at-keeps reading.stage command reading next word h made

-- ---- requests

most-64 : (single : Bool) (count : ℕ) → count ≤ (if single then 1 else 64) → count ≤ 64
most-64 true count few = omega arith
most-64 false count few = few

are_arguments-keeps : (command : Command) (words : List (List ℕ)) → are_arguments command words ≡ true → AreArguments words
unfolding are_arguments
are_arguments-keeps command [] held = absurd cc
are_arguments-keeps command (first ∷ words) held =
    let some : 1 ≤ length (first ∷ words) = omega arith in
    let both = and-left _ _ (and-left _ _ held) in
    let name = and-left _ _ both in
    let few = leb-true (length (first ∷ words)) (if is_single command then 1 else 64) (and-right _ _ both) in
    record {
      count = (some, most-64 (is_single command) (length (first ∷ words)) few);
      name = (leb-true 1 (length first) (and-left _ _ name), leb-true (length first) 255 (and-right _ _ name));
      short = leb-true (sum_by (λ word. length word + 1) (first ∷ words)) 65_536 (and-right _ _ held);
    }

number_for-most : (command : Command) (words : List (List ℕ)) (n : ℕ) → number_for command words ≡ Some n → n ≤ 200_000
unfolding number_for
number_for-most commands.Demo (word ∷ words) n made = (number_in-between 0 200_000 word n made).1
number_for-most commands.Demo [] n made = absurd cc
number_for-most commands.Plain words n made = let zero : 0 ≡ n = cc in omega arith
number_for-most commands.Rewrite words n made = let zero : 0 ≡ n = cc in omega arith
number_for-most commands.Run words n made = let zero : 0 ≡ n = cc in omega arith
number_for-most commands.Trace words n made = let zero : 0 ≡ n = cc in omega arith
number_for-most commands.Replay words n made = let zero : 0 ≡ n = cc in omega arith
number_for-most commands.Plan words n made = let zero : 0 ≡ n = cc in omega arith

if_then : {A : Type 0} (b : Bool) (o : Option A) (y : A) → (if b then o else None) ≡ Some y → (b ≡ true) × (o ≡ Some y)
if_then true o y made = (refl, made)
if_then false o y made = absurd cc

request_of-keeps : (command : Command) (reading : Reading) (request : Request) → IsRead reading → request_of command reading ≡ Some request → IsWithinLimits request
unfolding request_of
request_of-keeps command reading request h made =
    let asked = λ (n : ℕ). let r : Request = record { command = command; options = options_of reading.chosen; arguments = reading.arguments; number = n } in r in
    let passed = if_then (is_complete reading.stage && are_arguments command reading.arguments) (option_map asked (number_for command reading.arguments)) request made in
    let number = map_some asked (number_for command reading.arguments) request passed.1 in
    subst IsWithinLimits number.2 (record {
      options = options_of-keeps reading.chosen h;
      arguments = are_arguments-keeps command reading.arguments (and-right _ _ passed.0);
      number = number_for-most command reading.arguments number.0 number.1;
    })

command_of-keeps : (words : List (List ℕ)) (request : Request) → command_of words ≡ Some request → IsWithinLimits request
unfolding command_of
command_of-keeps [] request made = absurd cc
command_of-keeps (first ∷ words) request made =
    let command = bind_some (command_named first) (λ c. read_all (read_word c) beginning words >>= request_of c) request made in
    let reading = bind_some (read_all (read_word command.0) beginning words) (request_of command.0) request command.2 in
    let start : IsRead beginning = record { turns = tt; regions = tt; pattern = tt; blocks = tt; depth = tt; every = tt } in
    let kept = read_all-keeps IsRead (read_word command.0) (λ s next a. read_word-keeps command.0 s next a) beginning reading.0 words start reading.1 in
    request_of-keeps command.0 reading.0 request kept reading.2

-- whatever a command line asks for is within the limits
pub command_of-within : (words : List (List ℕ)) (answer : Option Request) → answer ≡ command_of words → IfSome answer IsWithinLimits
command_of-within words None same = tt
command_of-within words (Some request) same = command_of-keeps words request (sym same)
