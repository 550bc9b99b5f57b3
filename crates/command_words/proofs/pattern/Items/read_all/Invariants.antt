use Rattle.std.proofs.Common.{◌≡◌, drop}
use Rattle.command_words.specs.Values.{read_all, read_byte}
use Rattle.command_words.proofs.pattern.Items.read_all.Given as goal

-- the bytes that are left make of the items what all bytes make
abbrev pub invariant-loop-byte : goal.invariant-loop-byte
invariant-loop-byte l = read_all read_byte l.fn.self l.bytes ≡ read_all read_byte l.self (drop l.byte-index l.bytes)
