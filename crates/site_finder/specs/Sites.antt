-- The words of a text that a rewriting replaces (opcodes by RISC-V Unprivileged ISA 20191213, chapter 24; the gate instructions in custom-0 are this project's own).
use Rattle.std.specs.Prelude.{ℕ, ◌==◌, Bool, List, length, slice_index}
use Rattle.std.specs.List.{filter, range_with_len}
use Rattle.rv_decode.specs.Fields.{opcode}

-- a word is ECALL
abbrev pub is_call : ℕ → Bool
is_call word = word == 0x00000073

-- a word has the opcode custom-0
abbrev pub is_special : ℕ → Bool
is_special word = opcode word == 0b0001011

-- the indices of the words that pass a test, ascending
abbrev pub indices_of : (ℕ → Bool) → List ℕ → List ℕ
indices_of test text = filter (λ i. test (slice_index text i)) (range_with_len 0 (length text))
