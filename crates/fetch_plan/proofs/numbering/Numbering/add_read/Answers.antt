use Rattle.fetch_plan.proofs.Noting.{read_starts, read_goes_on, read_ends}
use Rattle.fetch_plan.proofs.numbering.Numbering.add_read.Goals as goal

pub loop-block-init : goal.loop-block-init
loop-block-init c = read_starts c.args.self.now c.args.read.now c.block_numbers-blocks.result.start c.block_numbers-blocks.result.end c.block_numbers-blocks.ensures.blocks

pub loop-block-preserved : goal.loop-block-preserved
loop-block-preserved c =
    read_goes_on c.args.self.now c.loop-block.self c.add.new.self c.args.read.now c.loop-block.block c.block_numbers-blocks.result.end c.loop-block-test.true c.in_ok-add.ensures c.loop-block.invariant

pub returns : goal.returns
returns c = read_ends c.args.self.now c.loop-block.self c.args.read.now c.loop-block.block c.block_numbers-blocks.result.end c.loop-block-test.false c.loop-block.invariant
