-- The words so far are those of the instructions so far.
use Rattle.std.proofs.Common.{◌≡◌, take}
use Rattle.assembler.specs.Emitted.{with_code}
use Rattle.assembler.proofs.emitting.emit.Given as goal

abbrev pub invariant-loop-instr : goal.invariant-loop-instr
invariant-loop-instr l = l.buf ≡ with_code l.initial.buf (take l.instr-index l.code)
