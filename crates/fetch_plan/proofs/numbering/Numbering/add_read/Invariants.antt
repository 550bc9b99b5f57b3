use Rattle.fetch_plan.proofs.Noting.{InRead}
use Rattle.fetch_plan.proofs.numbering.Numbering.add_read.Given as goal

abbrev pub invariant-loop-block : goal.invariant-loop-block
invariant-loop-block l = InRead l.initial.self l.self l.read l.block l.block-end
