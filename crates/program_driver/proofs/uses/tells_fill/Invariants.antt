use Rattle.std.proofs.Common.{◌≡◌, drop}
use Rattle.use_marks.specs.Along.{tells_fill}
use Rattle.program_driver.proofs.uses.tells_fill.Given as goal

abbrev pub invariant-loop-note : goal.invariant-loop-note
invariant-loop-note l = tells_fill l.notes ≡ tells_fill (drop l.note-index l.notes)
