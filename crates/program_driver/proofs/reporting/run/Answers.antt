use Rattle.std.proofs.Common.{◌∙◌, sym, subst}
use Rattle.program_driver.specs.Runs.{Drives, RunsTo}
use Rattle.program_driver.proofs.Reported.{silent-Drives, reported-Drives}
use Rattle.program_driver.proofs.Causes.{reported-later, reported-HasCause}
use Rattle.program_driver.specs.Causes.{HasCause}
use Rattle.plain_runner.specs.declared.ending.Ending.{Ending}
use Rattle.program_driver.proofs.reporting.run.Goals as goal

pub returns-then-not-is_reported-clause-drives : goal.returns-then-not-is_reported-clause-drives
returns-then-not-is_reported-clause-drives g c =
    silent-Drives c.args.pattern.now c.args.turns c.args.with_report c.drive-ending.result c.args.runner.now c.drive-ending.new.runner
    (record { store = g.D.Store.state c.args.store.now; out = g.O.Sink.state c.args.out.now; err = g.E.Sink.state c.args.err.now })
    (record { store = g.D.Store.state c.drive-ending.new.store; out = g.O.Sink.state c.drive-ending.new.out; err = g.E.Sink.state c.drive-ending.new.err })
    c.drive-ending.ensures.drives (sym c.is_reported.ensures ∙ c.if-not-is_reported.true)

pub returns-clause-drives : goal.returns-clause-drives
returns-clause-drives g c =
    subst (λ ending. Drives (RunsTo c.args.pattern.now c.args.turns c.args.with_report ending) c.args.runner.now c.drive-ending.new.runner
    (record { store = g.D.Store.state c.args.store.now; out = g.O.Sink.state c.args.out.now; err = g.E.Sink.state c.args.err.now })
    (record { store = g.D.Store.state c.drive-ending.new.store; out = g.O.Sink.state c.drive-ending.new.out; err = g.E.Sink.state c.put_report.new.err })) (sym c.ending_with.ensures)
    (reported-Drives c.args.pattern.now c.args.turns c.args.with_report c.drive-ending.result c.args.runner.now c.drive-ending.new.runner
    (record { store = g.D.Store.state c.args.store.now; out = g.O.Sink.state c.args.out.now; err = g.E.Sink.state c.args.err.now })
    (record { store = g.D.Store.state c.drive-ending.new.store; out = g.O.Sink.state c.drive-ending.new.out; err = g.E.Sink.state c.drive-ending.new.err })
    c.drive-ending.ensures.drives c.put_report.result (g.E.Sink.state c.put_report.new.err) (sym c.is_reported.ensures ∙ c.if-not-is_reported.false) c.put_report.ensures.line)

pub returns-clause-later : goal.returns-clause-later
returns-clause-later g c =
    reported-later (record { store = g.D.Store.state c.args.store.now; out = g.O.Sink.state c.args.out.now; err = g.E.Sink.state c.args.err.now })
    (record { store = g.D.Store.state c.drive-ending.new.store; out = g.O.Sink.state c.drive-ending.new.out; err = g.E.Sink.state c.drive-ending.new.err })
    (g.E.Sink.state c.put_report.new.err) c.put_report.result c.drive-ending.ensures.later c.put_report.ensures.counts

pub returns-clause-cause : goal.returns-clause-cause
returns-clause-cause g c on =
    subst (λ (e : Ending). HasCause e (record { store = g.D.Store.state c.args.store.now; out = g.O.Sink.state c.args.out.now; err = g.E.Sink.state c.args.err.now })
    (record { store = g.D.Store.state c.drive-ending.new.store; out = g.O.Sink.state c.drive-ending.new.out; err = g.E.Sink.state c.put_report.new.err })) (sym c.ending_with.ensures)
    (reported-HasCause c.drive-ending.result (record { store = g.D.Store.state c.args.store.now; out = g.O.Sink.state c.args.out.now; err = g.E.Sink.state c.args.err.now })
    (record { store = g.D.Store.state c.drive-ending.new.store; out = g.O.Sink.state c.drive-ending.new.out; err = g.E.Sink.state c.drive-ending.new.err })
    (g.E.Sink.state c.put_report.new.err) c.put_report.result c.drive-ending.ensures.later (c.drive-ending.ensures.cause on) c.put_report.ensures.counts)
