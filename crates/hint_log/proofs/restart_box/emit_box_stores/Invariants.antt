-- The stores so far are in the buffer.
use Rattle.std.proofs.Common.{◌≡◌, ◌-◌}
use Rattle.code_model.specs.Stub.{box_stores}
use Rattle.assembler.specs.Emitted.{with_code}
use Rattle.hint_log.proofs.restart_box.emit_box_stores.Given as goal

abbrev pub invariant-loop-number : goal.invariant-loop-number
invariant-loop-number l = l.buf ≡ with_code l.initial.buf (box_stores 1 (l.number - 1))
