use Rattle.cache_queue.proofs.ReadBlocks.{blocks_of-range, blocks_of-none}
use Rattle.cache_queue.proofs.read_blocks.block_numbers.Goals as goal

pub returns-clause-blocks : goal.returns-clause-blocks
returns-clause-blocks c = blocks_of-range c.args.read.now c.if-count-eq0.false
