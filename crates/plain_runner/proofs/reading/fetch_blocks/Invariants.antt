use Rattle.plain_runner.proofs.Blocks.{FetchLog}
use Rattle.plain_runner.proofs.reading.fetch_blocks.Given as goal

abbrev pub invariant-loop-index : goal.invariant-loop-index
invariant-loop-index g l = FetchLog (g.S.Store.state l.fn.store) l.spot l.index l.had l.into (g.S.Store.state l.store)
