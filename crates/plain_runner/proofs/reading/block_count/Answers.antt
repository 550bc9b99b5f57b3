use Rattle.plain_runner.proofs.Blocks.{block_count-is}
use Rattle.plain_runner.proofs.reading.block_count.Goals as goal

pub returns-clause-count : goal.returns-clause-count
returns-clause-count c = block_count-is c.args.spot.now c.if-spot-eq0.false
