use Rattle.std.proofs.Common.{◌≡◌, drop, map, string_bytes}
use Rattle.command_words.specs.Values.{read_all}
use Rattle.command_words.specs.CommandLine.{read_word}
use Rattle.command_words.proofs.reading.Reading.read_all.Given as goal

-- the words that are left make of the reading what all words make
abbrev pub invariant-loop-word : goal.invariant-loop-word
invariant-loop-word l =
    read_all (read_word l.command) l.fn.self (map string_bytes l.words) ≡ read_all (read_word l.command) l.self (drop l.word-index (map string_bytes l.words))
