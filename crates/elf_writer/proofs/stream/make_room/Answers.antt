use Rattle.std.proofs.Common.{arith, subst, sym, [], is_ok}
use Rattle.elf_writer.specs.Streams.{Gives}
use Rattle.elf_writer.proofs.StreamLemmas.{full-Gives}
use Rattle.elf_writer.proofs.stream.make_room.Goals as goal

pub returns-then-room-eq0-clause-gives : goal.returns-then-room-eq0-clause-gives
returns-then-room-eq0-clause-gives g c =
    subst (λ held. Gives (g.S.Staging.size c.args.staging.now) (g.S.Staging.held c.args.staging.now) (g.O.Sink.state c.args.sink.now) [] (is_ok c.flush.result) held (g.O.Sink.state c.flush.new.sink))
    (sym c.flush.ensures.held)
    (full-Gives (g.S.Staging.size c.args.staging.now) (g.S.Staging.held c.args.staging.now) _ _ _ (omega arith) c.flush.ensures.puts)
