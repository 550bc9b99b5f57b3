use Rattle.std.proofs.Common.{rules, is_ok}
use Rattle.elf_writer.proofs.StreamLemmas.{start-Toward, zeros-Toward, stop_zeros-Toward}
use Rattle.elf_writer.proofs.stream.give_zeros.Goals as goal

pub loop-left-init : goal.loop-left-init
loop-left-init g c = record { toward = start-Toward _ _ _ _; size = search rules }

pub returns-in_err-give-clause-gives : goal.returns-in_err-give-clause-gives
returns-in_err-give-clause-gives g c =
    stop_zeros-Toward _ _ 64 _ _ _ _ _ _ _ c.loop-left.left c.min-some.result c.loop-left.invariant.toward c.loop-left.invariant.size (search rules) (search rules) c.in_err-give.ensures.gives
    (is_ok c.from_residual.result) (search rules)

pub loop-left-preserved : goal.loop-left-preserved
loop-left-preserved g c = record {
  toward = zeros-Toward _ _ 64 _ _ _ _ _ _ _ c.loop-left.left c.min-some.result c.loop-left.invariant.toward c.loop-left.invariant.size (search rules) (search rules) c.in_ok-give.ensures.gives;
  size = search rules;
}
