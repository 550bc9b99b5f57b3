use Rattle.std.proofs.Common.{◌+◌, [], ◌∷◌, drop, subst}
use Rattle.trace_text.specs.Line.{line_of}
use Rattle.program_driver.specs.Lines.{LinesTo, note_lines}
use Rattle.program_driver.proofs.Lining.{next-LinesLog, stop-LinesLog, lines-at}
use Rattle.program_driver.proofs.lines.put_notes.Goals as goal

pub returns-in-Err : goal.returns-in-Err
returns-in-Err g c =
    stop-LinesLog c.in-Err.fault (g.K.Sink.state c.args.sink.now) (g.K.Sink.state c.loop-note.sink) (g.K.Sink.state c.put_made.new.sink)
    (note_lines c.args.own c.args.shadow c.args.notes.now c.args.text.now) (note_lines c.args.own c.args.shadow (drop c.loop-note.note-index c.args.notes.now) c.args.text.now)
    (note_lines c.args.own c.args.shadow (drop (c.loop-note.note-index + 1) c.args.notes.now) c.args.text.now) (line_of c.args.own c.args.shadow c.note-item.result c.args.text.now)
    c.loop-note.invariant (lines-at c.args.own c.args.shadow c.args.notes.now c.args.text.now c.loop-note.note-index c.note-item.result c.loop-note-test.true c.note-item.is)
    (subst (λ r. LinesTo (line_of c.args.own c.args.shadow c.note-item.result c.args.text.now ∷ []) r (g.K.Sink.state c.loop-note.sink) (g.K.Sink.state c.put_made.new.sink)) c.in-Err.is
    (c.put_made.ensures (line_of c.args.own c.args.shadow c.note-item.result c.args.text.now) c.line.ensures))

pub loop-note-preserved : goal.loop-note-preserved
loop-note-preserved g c =
    next-LinesLog (g.K.Sink.state c.args.sink.now) (g.K.Sink.state c.loop-note.sink) (g.K.Sink.state c.put_made.new.sink)
    (note_lines c.args.own c.args.shadow c.args.notes.now c.args.text.now) (note_lines c.args.own c.args.shadow (drop c.loop-note.note-index c.args.notes.now) c.args.text.now)
    (note_lines c.args.own c.args.shadow (drop (c.loop-note.note-index + 1) c.args.notes.now) c.args.text.now) (line_of c.args.own c.args.shadow c.note-item.result c.args.text.now)
    c.loop-note.invariant (lines-at c.args.own c.args.shadow c.args.notes.now c.args.text.now c.loop-note.note-index c.note-item.result c.loop-note-test.true c.note-item.is)
    (subst (λ r. LinesTo (line_of c.args.own c.args.shadow c.note-item.result c.args.text.now ∷ []) r (g.K.Sink.state c.loop-note.sink) (g.K.Sink.state c.put_made.new.sink)) c.in_default.is
    (c.put_made.ensures (line_of c.args.own c.args.shadow c.note-item.result c.args.text.now) c.line.ensures))
