use Rattle.std.proofs.Common.{◌∙◌, ◌+◌, ◌||◌, drop, ap, sym}
use Rattle.use_marks.specs.Along.{tells_fill}
use Rattle.program_driver.proofs.Using.{fill-at, no-fill}
use Rattle.program_driver.proofs.uses.tells_fill.Goals as goal

pub returns-then-is_fill : goal.returns-then-is_fill
returns-then-is_fill c =
    sym (c.loop-note.invariant ∙ fill-at c.args.notes.now c.loop-note.note-index c.note-item.result c.loop-note-test.true c.note-item.is
    ∙ ap (λ b. b || tells_fill (drop (c.loop-note.note-index + 1) c.args.notes.now)) (sym c.is_fill.ensures ∙ c.if-is_fill.true))

pub loop-note-preserved : goal.loop-note-preserved
loop-note-preserved c =
    c.loop-note.invariant ∙ fill-at c.args.notes.now c.loop-note.note-index c.note-item.result c.loop-note-test.true c.note-item.is
    ∙ ap (λ b. b || tells_fill (drop (c.loop-note.note-index + 1) c.args.notes.now)) (sym c.is_fill.ensures ∙ c.if-is_fill.false)

pub returns : goal.returns
returns c = sym (c.loop-note.invariant ∙ no-fill c.args.notes.now c.loop-note.note-index c.loop-note-test.false)
