use Rattle.trace_text.proofs.LinesRead.{use_lines}
use Rattle.trace_text.proofs.laws.use_lines_are_read.Goals as goal

pub returns : goal.returns
returns c = use_lines
