use Rattle.std.proofs.Common.{arith}
use Rattle.runner_parts.proofs.Blocks.{behind}
use Rattle.runner_parts.proofs.reading.block_behind.Goals as goal

pub returns-then-had-block_count : goal.returns-then-had-block_count
returns-then-had-block_count c = behind c.args.spot.now c.args.had (omega (arith, c.if-had-block_count.true, c.block_count.ensures.count))
