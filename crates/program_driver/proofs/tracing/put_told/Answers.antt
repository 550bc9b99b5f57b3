use Rattle.std.proofs.Common.{subst}
use Rattle.program_driver.specs.Lines.{LinesTo, note_lines}
use Rattle.program_driver.proofs.Traced.{lines-last}
use Rattle.program_driver.proofs.Causes.{counts-lines}
use Rattle.program_driver.proofs.tracing.put_told.Goals as goal

pub returns-clause-lines : goal.returns-clause-lines
returns-clause-lines g c w r shows =
    subst (λ lines. LinesTo lines c.put_notes.result (g.O.Sink.state c.args.out.now) (g.O.Sink.state c.put_notes.new.sink))
    (lines-last r c.own_done-own.result c.shadow_done-shadow.result c.notes.result.now c.text.result.now
    (c.own_done-own.ensures w r shows) (c.shadow_done-shadow.ensures w r shows) (c.notes.ensures w r shows) (c.text.ensures w r shows))
    c.put_notes.ensures

pub returns-clause-counts : goal.returns-clause-counts
returns-clause-counts g c =
    counts-lines (note_lines c.own_done-own.result c.shadow_done-shadow.result c.notes.result.now c.text.result.now) c.put_notes.result (g.O.Sink.state c.args.out.now) (g.O.Sink.state c.put_notes.new.sink) c.put_notes.ensures
