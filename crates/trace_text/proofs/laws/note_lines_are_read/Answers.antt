use Rattle.trace_text.proofs.LinesRead.{note_lines}
use Rattle.trace_text.proofs.laws.note_lines_are_read.Goals as goal

pub returns : goal.returns
returns c = note_lines
