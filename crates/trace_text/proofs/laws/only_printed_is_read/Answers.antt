use Rattle.trace_text.proofs.ReadLines.{only_printed}
use Rattle.trace_text.proofs.laws.only_printed_is_read.Goals as goal

pub returns : goal.returns
returns c = only_printed
