use Rattle.std.proofs.Common.{drop}
use Rattle.program_driver.specs.Lines.{note_lines}
use Rattle.program_driver.proofs.Lining.{LinesLog}
use Rattle.program_driver.proofs.lines.put_notes.Given as goal

abbrev pub invariant-loop-note : goal.invariant-loop-note
invariant-loop-note g l = LinesLog (g.K.Sink.state l.fn.sink) (note_lines l.own l.shadow l.notes l.text) (note_lines l.own l.shadow (drop l.note-index l.notes) l.text) (g.K.Sink.state l.sink)
