use Rattle.std.proofs.Common.{rules, is_ok}
use Rattle.elf_writer.proofs.StreamLemmas.{start-Toward}
use Rattle.elf_writer.proofs.WordLemmas.{block-Toward, stop_block-Toward}
use Rattle.elf_writer.proofs.words.give_shadow.Goals as goal

pub loop-block-init : goal.loop-block-init
loop-block-init g c = record { toward = start-Toward _ _ _ _; size = search rules }

pub returns-in_err-give_block-clause-gives : goal.returns-in_err-give_block-clause-gives
returns-in_err-give_block-clause-gives g c =
    stop_block-Toward _ _ _ _ _ _ (g.C.CodeSource.code c.args.code.now).shadow c.shadow.result 16 c.loop-block.block _ _ c.loop-block.invariant.toward c.loop-block.invariant.size c.shadow.ensures c.in_err-give_block.ensures.gives
    (is_ok c.from_residual.result) (search rules)

pub loop-block-preserved : goal.loop-block-preserved
loop-block-preserved g c = record {
  toward = block-Toward _ _ _ _ _ _ (g.C.CodeSource.code c.args.code.now).shadow c.shadow.result 16 c.loop-block.block _ _ c.loop-block.invariant.toward c.loop-block.invariant.size c.shadow.ensures c.in_ok-give_block.ensures.gives;
  size = search rules;
}
