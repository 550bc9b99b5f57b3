-- A decoded instruction can be encoded, so its immediate fits its format.
use Rattle.shadow_text.proofs.Decoded.{jalr-fits, branch-fits, load-fits, store-fits}
use Rattle.shadow_text.proofs.shadow.block.Goals as goal

pub jalr_block-requires-clause-imm : goal.jalr_block-requires-clause-imm
jalr_block-requires-clause-imm c = jalr-fits c.args.word c.args.instr.now c.ranges.word.fits c.requires.decoded c.in-Jalr.rd c.in-Jalr.rs1 c.in-Jalr.imm c.in-Jalr.is

pub branch_block-requires-clause-imm : goal.branch_block-requires-clause-imm
branch_block-requires-clause-imm c = branch-fits c.args.word c.args.instr.now c.ranges.word.fits c.requires.decoded c.in-Branch.op c.in-Branch.rs1 c.in-Branch.rs2 c.in-Branch.imm c.in-Branch.is

pub load_block-requires : goal.load_block-requires
load_block-requires c = load-fits c.args.word c.args.instr.now c.ranges.word.fits c.requires.decoded c.in-Load.op c.in-Load.rd c.in-Load.rs1 c.in-Load.imm c.in-Load.is

pub store_block-requires : goal.store_block-requires
store_block-requires c = store-fits c.args.word c.args.instr.now c.ranges.word.fits c.requires.decoded c.in-Store.op c.in-Store.rs1 c.in-Store.rs2 c.in-Store.imm c.in-Store.is
