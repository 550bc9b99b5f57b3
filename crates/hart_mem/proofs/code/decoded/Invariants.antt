use Rattle.std.proofs.Common.{◌≡◌, map, take}
use Rattle.rv_decode.specs.Instruction.{instr_of}
use Rattle.hart_mem.specs.Operation.{instr_of_operation}
use Rattle.hart_mem.proofs.code.decoded.Given as goal

-- the words before this one are decoded
abbrev pub invariant-loop-word : goal.invariant-loop-word
invariant-loop-word l = map instr_of_operation l.operations.items ≡ map instr_of (take l.word-index l.words)
