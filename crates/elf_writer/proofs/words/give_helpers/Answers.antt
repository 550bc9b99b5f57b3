use Rattle.std.proofs.Common.{rules, is_ok}
use Rattle.elf_writer.proofs.StreamLemmas.{start-Toward}
use Rattle.elf_writer.proofs.WordLemmas.{word-Toward, stop_word-Toward}
use Rattle.elf_writer.proofs.words.give_helpers.Goals as goal

pub loop-index-init : goal.loop-index-init
loop-index-init g c = record { toward = start-Toward _ _ _ _; size = search rules }

pub returns-in_err-give_word-clause-gives : goal.returns-in_err-give_word-clause-gives
returns-in_err-give_word-clause-gives g c =
    stop_word-Toward _ _ _ _ _ _ (g.C.CodeSource.code c.args.code.now).helpers c.loop-index.index c.helper.result _ _ c.loop-index.invariant.toward c.loop-index.invariant.size (search rules) c.helper.ensures c.in_err-give_word.ensures.gives
    (is_ok c.from_residual.result) (search rules)

pub loop-index-preserved : goal.loop-index-preserved
loop-index-preserved g c = record {
  toward = word-Toward _ _ _ _ _ _ (g.C.CodeSource.code c.args.code.now).helpers c.loop-index.index c.helper.result _ _ c.loop-index.invariant.toward c.loop-index.invariant.size (search rules) c.helper.ensures c.in_ok-give_word.ensures.gives;
  size = search rules;
}
