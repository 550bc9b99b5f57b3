use Rattle.runner_parts.proofs.Blocks.{block_count-is}
use Rattle.runner_parts.proofs.hinting.block_count.Goals as goal

pub returns-clause-count : goal.returns-clause-count
returns-clause-count c = block_count-is c.args.spot.now c.if-spot-eq0.false
