use Rattle.std.proofs.Common.{◌≡◌, ◌++◌, ◌∷◌, drop}
use Rattle.trace_text.specs.Line.{hex_text}
use Rattle.trace_text.proofs.writing.push_bytes.Given as goal

-- with the digits of the bytes that are left, the line is whole
abbrev pub invariant-loop-byte : goal.invariant-loop-byte
invariant-loop-byte l = l.line.items ++ hex_text (drop l.byte-index l.bytes) ≡ l.fn.line.items ++ 32 ∷ hex_text l.bytes
