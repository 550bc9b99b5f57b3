-- The loads so far are in the buffer.
use Rattle.std.proofs.Common.{◌≡◌, ◌-◌}
use Rattle.code_model.specs.Helpers.{box_loads}
use Rattle.assembler.specs.Emitted.{with_code}
use Rattle.hint_log.proofs.restart_box.emit_box_loads.Given as goal

abbrev pub invariant-loop-number : goal.invariant-loop-number
invariant-loop-number l = l.buf ≡ with_code l.initial.buf (box_loads 1 (l.number - 1))
