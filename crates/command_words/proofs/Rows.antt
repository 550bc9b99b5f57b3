-- Command lines and what they ask for.
use Rattle.std.proofs.Common.{◌≡◌, [], ◌∷◌, refl, false}
use Rattle.std.specs.Prelude.{Some, None, codes}
use Rattle.spec_base.specs.declared.layout.Version.TheVariants.{Two}
use Rattle.spec_base.specs.declared.note.Move.TheVariants as moves
use Rattle.command_words.specs.declared.command.Command.TheVariants as commands
use Rattle.command_words.specs.Values.{number_in, version_in, move_of, read_byte, pattern_in}
use Rattle.command_words.specs.Settings.{command_named, setting_named, with_value, options_of, nothing_chosen, default_pattern}
use Rattle.command_words.specs.CommandLine.{read_option, read_word, are_arguments, number_for, request_of, command_of}

-- ---- lines that are none

no_words : command_of [] ≡ None
unfolding command_of
no_words = refl

unknown_move : command_of (codes "run" ∷ codes "--pattern" ∷ codes "X1" ∷ codes "m1" ∷ []) ≡ None
unfolding command_of command_named read_word read_option setting_named with_value pattern_in move_of read_byte
unknown_move = refl

no_region : command_of (codes "run" ∷ codes "--regions" ∷ codes "0" ∷ codes "m1" ∷ []) ≡ None
unfolding command_of command_named read_word read_option setting_named with_value number_in
no_region = refl

too_many_regions : command_of (codes "run" ∷ codes "--regions" ∷ codes "65537" ∷ codes "m1" ∷ []) ≡ None
unfolding command_of command_named read_word read_option setting_named with_value number_in
too_many_regions = refl

turns_twice : command_of (codes "run" ∷ codes "--turns" ∷ codes "5" ∷ codes "--turns" ∷ codes "6" ∷ codes "m1" ∷ []) ≡ None
unfolding command_of command_named read_word read_option setting_named with_value number_in
turns_twice = refl

report_of_plain : command_of (codes "plain" ∷ codes "--report" ∷ codes "m1" ∷ []) ≡ None
unfolding command_of command_named read_word read_option setting_named
report_of_plain = refl

no_such_version : command_of (codes "run" ∷ codes "--layout" ∷ codes "3" ∷ codes "m1" ∷ []) ≡ None
unfolding command_of command_named read_word read_option setting_named with_value version_in number_in
no_such_version = refl

no_turns : command_of (codes "run" ∷ codes "--turns" ∷ codes "0" ∷ codes "m1" ∷ []) ≡ None
unfolding command_of command_named read_word read_option setting_named with_value number_in
no_turns = refl

seventeen_digits : command_of (codes "run" ∷ codes "--turns=00000000000000001" ∷ codes "m1" ∷ []) ≡ None
unfolding command_of command_named read_word read_option setting_named with_value number_in
seventeen_digits = refl

value_missing : command_of (codes "run" ∷ codes "m1" ∷ codes "--turns" ∷ []) ≡ None
unfolding command_of command_named read_word read_option setting_named request_of
value_missing = refl

value_with_dash : command_of (codes "run" ∷ codes "--turns" ∷ codes "-5" ∷ codes "m1" ∷ []) ≡ None
unfolding command_of command_named read_word read_option setting_named
value_with_dash = refl

value_of_a_flag : command_of (codes "run" ∷ codes "--report=" ∷ codes "m1" ∷ []) ≡ None
unfolding command_of command_named read_word read_option setting_named with_value
value_of_a_flag = refl

zero_byte : command_of (codes "run" ∷ (109 ∷ 0 ∷ []) ∷ []) ≡ None
unfolding command_of command_named read_word request_of are_arguments
zero_byte = refl

two_images : command_of (codes "rewrite" ∷ codes "m1" ∷ codes "m2" ∷ []) ≡ None
unfolding command_of command_named read_word request_of are_arguments
two_images = refl

-- ---- lines and what they ask for

most_regions : command_of (codes "run" ∷ codes "--regions=65536" ∷ codes "m1" ∷ [])
    ≡ Some (record { command = commands.Run; options = options_of (record nothing_chosen { regions = Some 65_536 }); arguments = codes "m1" ∷ []; number = 0 })
unfolding command_of command_named read_word read_option setting_named with_value number_in request_of are_arguments number_for
most_regions = refl

dashes_behind_the_end : command_of (codes "plain" ∷ codes "--" ∷ codes "-x" ∷ codes "-y" ∷ [])
    ≡ Some (record { command = commands.Plain; options = options_of nothing_chosen; arguments = codes "-x" ∷ codes "-y" ∷ []; number = 0 })
unfolding command_of command_named read_word request_of are_arguments number_for
dashes_behind_the_end = refl

turns_behind_the_image : command_of (codes "plain" ∷ codes "m1" ∷ codes "--turns" ∷ codes "5" ∷ codes "a" ∷ codes "b" ∷ [])
    ≡ Some (record { command = commands.Plain; options = options_of (record nothing_chosen { turns = Some 5 }); arguments = codes "m1" ∷ codes "a" ∷ codes "b" ∷ []; number = 0 })
unfolding command_of command_named read_word read_option setting_named with_value number_in request_of are_arguments number_for
turns_behind_the_image = refl

number_of_demo : command_of (codes "demo" ∷ codes "0200000" ∷ [])
    ≡ Some (record { command = commands.Demo; options = options_of nothing_chosen; arguments = codes "0200000" ∷ []; number = 200_000 })
unfolding command_of command_named read_word request_of are_arguments number_for number_in
number_of_demo = refl

-- ---- values

default_is_written : pattern_in (codes "O1S600D1") ≡ Some default_pattern
unfolding pattern_in move_of read_byte
default_is_written = refl

zero_in_front : pattern_in (codes "O01") ≡ None
unfolding pattern_in move_of read_byte
zero_in_front = refl

count_too_high : pattern_in (codes "O1000001") ≡ None
unfolding pattern_in move_of read_byte
count_too_high = refl

defaults : options_of nothing_chosen
    ≡ record { turns = 10_000_000_000; regions = 4096; pattern = (moves.O, 1) ∷ (moves.S, 600) ∷ (moves.D, 1) ∷ []; layout = Two; report = false; uses = false; blocks = 256; depth = 64; every = 1 }
unfolding options_of
defaults = refl
