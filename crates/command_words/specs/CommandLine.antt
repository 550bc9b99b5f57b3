-- Command lines: a command, its options, and the words that these act on (this project's own).
use Rattle.std.specs.Prelude.{ℕ, ◌+◌, ◌==◌, Bool, true, false, not, ◌&&◌, nat_le, if◌then◌else◌, List, [], ◌∷◌, ◌++◌, length, codes, bytes_eq, Option, Some, None, option_map}
use Rattle.std.specs.List.{list_any, list_all, sum_by, before_first, after_first}
use Rattle.command_words.specs.declared.command.Command.{Command}
use Rattle.command_words.specs.declared.command.Command.TheVariants as commands
use Rattle.command_words.specs.declared.setting.Setting.{Setting}
use Rattle.command_words.specs.declared.reading.Stage.{Stage}
use Rattle.command_words.specs.declared.reading.Stage.TheVariants.{Open, Awaits, Closed}
use Rattle.command_words.specs.declared.reading.Reading.{Reading}
use Rattle.command_words.specs.declared.request.Request.{Request}
use Rattle.command_words.specs.Values.{◌>>=◌, read_all, number_in}
use Rattle.command_words.specs.Settings.{command_named, setting_named, has_value, is_single, with_value, with_flag, options_of, nothing_chosen}

-- ---- words

-- whether a word's first byte is `-`
abbrev pub begins_with_dash : List ℕ → Bool
begins_with_dash [] = false
begins_with_dash (byte ∷ bytes) = byte == 45

-- whether a byte is `=`
abbrev pub is_equals : ℕ → Bool
is_equals byte = byte == 61

-- a word is one of those that the command acts on
abbrev pub with_argument : Reading → List ℕ → Reading
with_argument reading word = record reading { arguments = reading.arguments ++ word ∷ [] }

-- an option has this value, and the next word may be an option again
abbrev pub with_setting : Reading → List ℕ → Setting → Option Reading
with_setting reading value setting =
    option_map (λ chosen. record reading { stage = Open; chosen = chosen }) (with_value reading.chosen setting value)

-- an option stands alone: its value is the next word, if it has one
abbrev pub with_name : Reading → Setting → Option Reading
with_name reading setting =
    if has_value setting
    then Some (record reading { stage = Awaits setting })
    else option_map (λ chosen. record reading { chosen = chosen }) (with_flag reading.chosen setting)

-- an option of the command, as `--name=value` or `--name`
unfoldable pub read_option : Command → Reading → List ℕ → Option Reading
read_option command reading word =
    if list_any is_equals word
    then setting_named command (before_first is_equals word) >>= with_setting reading (after_first is_equals word)
    else setting_named command word >>= with_name reading

-- a word that stands where options may stand: `--` ends them, and any other word with a dash in front is one
abbrev pub read_open : Command → Reading → List ℕ → Option Reading
read_open command reading word =
    if begins_with_dash word
    then (if bytes_eq word (codes "--") then Some (record reading { stage = Closed }) else read_option command reading word)
    else Some (with_argument reading word)

-- the next word, by what may stand there
abbrev pub read_at : Stage → Command → Reading → List ℕ → Option Reading
read_at Open command reading word = read_open command reading word
read_at (Awaits setting) command reading word = if begins_with_dash word then None else with_setting reading word setting
read_at Closed command reading word = Some (with_argument reading word)

-- the next word of a command line
unfoldable pub read_word : Command → Reading → List ℕ → Option Reading
read_word command reading word = read_at reading.stage command reading word

-- ---- what a command acts on

-- IMAGE or TRACE: 1 to 255 bytes
abbrev pub is_file_name : List ℕ → Bool
is_file_name word = nat_le 1 (length word) && nat_le (length word) 255

-- no byte of a word is 0
abbrev pub has_no_zero : List ℕ → Bool
has_no_zero word = list_all (λ byte. not (byte == 0)) word

-- the words take at most 65,536 bytes with a zero byte behind each
abbrev pub fit_in_memory : List (List ℕ) → Bool
fit_in_memory words = nat_le (sum_by (λ word. length word + 1) words) 65_536

-- one word or 64 at most, by the command
abbrev pub is_count_of : Command → ℕ → Bool
is_count_of command count = nat_le count (if is_single command then 1 else 64)

-- whether a command may act on these words
unfoldable pub are_arguments : Command → List (List ℕ) → Bool
are_arguments command [] = false
are_arguments command (first ∷ words) =
    is_file_name first && is_count_of command (length (first ∷ words)) && list_all has_no_zero (first ∷ words) && fit_in_memory (first ∷ words)

-- ---- command lines

-- no option waits for its value
abbrev pub is_complete : Stage → Bool
is_complete Open = true
is_complete (Awaits setting) = false
is_complete Closed = true

-- the number of `demo` is 0 to 200,000, and 0 stands for it elsewhere
unfoldable pub number_for : Command → List (List ℕ) → Option ℕ
number_for commands.Demo (word ∷ words) = number_in 0 200_000 word
number_for commands.Demo [] = None
number_for _ words = Some 0

-- what a command was asked for
unfoldable pub request_of : Command → Reading → Option Request
request_of command reading =
    if is_complete reading.stage && are_arguments command reading.arguments
    then option_map (λ number. record { command = command; options = options_of reading.chosen; arguments = reading.arguments; number = number }) (number_for command reading.arguments)
    else None

-- nothing is read
abbrev pub beginning : Reading
beginning = record { stage = Open; chosen = nothing_chosen; arguments = [] }

-- what the words of a command line ask for: the first word is the command, and each further one is read in turn
unfoldable pub command_of : List (List ℕ) → Option Request
command_of [] = None
command_of (first ∷ words) = do
  command ← command_named first
  reading ← read_all (read_word command) beginning words
  request_of command reading
