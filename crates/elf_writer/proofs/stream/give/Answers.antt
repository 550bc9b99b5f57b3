use Rattle.std.proofs.Common.{rules, is_ok, []}
use Rattle.elf_writer.proofs.StreamLemmas.{start-Toward, stop-Toward, hold-Toward}
use Rattle.elf_writer.proofs.stream.give.Goals as goal

pub loop-rest-init : goal.loop-rest-init
loop-rest-init g c = record { toward = start-Toward _ _ _ _; size = search rules }

pub returns-in_err-make_room-clause-gives : goal.returns-in_err-make_room-clause-gives
returns-in_err-make_room-clause-gives g c =
    stop-Toward _ _ _ _ _ _ _ [] c.loop-rest.rest.now _ _ c.loop-rest.invariant.toward c.loop-rest.invariant.size c.in_err-make_room.ensures.gives
    (is_ok c.from_residual.result) (search rules)

pub loop-rest-preserved : goal.loop-rest-preserved
loop-rest-preserved g c = record {
  toward = hold-Toward _ _ c.min-count.result _ _ _ _ _ c.loop-rest.rest.now _ _ _ c.loop-rest.invariant.toward c.loop-rest.invariant.size c.in_ok-make_room.ensures.gives c.hold.ensures.value;
  size = search rules;
}
