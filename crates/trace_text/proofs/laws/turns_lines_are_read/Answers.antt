use Rattle.trace_text.proofs.LinesRead.{turns_lines}
use Rattle.trace_text.proofs.laws.turns_lines_are_read.Goals as goal

pub returns : goal.returns
returns c = turns_lines
