use Rattle.std.proofs.Common.{inl, refl, sym, subst, ◌∙◌, Option, IfSome}
use Rattle.program_driver.specs.Advances.{Advances}
use Rattle.program_driver.proofs.Turning.{turn-Advances}
use Rattle.plain_runner.specs.declared.ending.Ending.{Ending}
use Rattle.runner.proofs.Causes.{same-later}
use Rattle.program_driver.specs.Causes.{HasCause}
use Rattle.program_driver.proofs.Causes.{turn-HasCause, turn-goes_on}
use Rattle.program_driver.proofs.advancing.advance.Goals as goal

pub returns-then-not-keep_spare-clause-advances : goal.returns-then-not-keep_spare-clause-advances
returns-then-not-keep_spare-clause-advances g c = inl (record { starved = refl; shows = c.keep_spare.ensures.shows; untouched = refl })

pub returns-clause-advances : goal.returns-clause-advances
returns-clause-advances g c =
    subst (λ ending. Advances c.args.step ending c.args.runner.now c.go.new.self (record { store = g.D.Store.state c.args.store.now; out = g.O.Sink.state c.args.out.now; err = g.E.Sink.state c.args.err.now }) (record { store = g.D.Store.state c.go.new.store; out = g.O.Sink.state c.go.new.out; err = g.E.Sink.state c.go.new.err })) (sym c.ending_after.ensures)
    (turn-Advances c.args.runner.now c.keep_spare.new.runner c.args.step c.go.result c.go.new.self (record { store = g.D.Store.state c.args.store.now; out = g.O.Sink.state c.args.out.now; err = g.E.Sink.state c.args.err.now }) (record { store = g.D.Store.state c.go.new.store; out = g.O.Sink.state c.go.new.out; err = g.E.Sink.state c.go.new.err }) c.keep_spare.ensures.shows c.go.ensures.wants c.go.ensures.makes)

pub returns-then-not-keep_spare-clause-later : goal.returns-then-not-keep_spare-clause-later
returns-then-not-keep_spare-clause-later g c = same-later _

pub returns-clause-cause : goal.returns-clause-cause
returns-clause-cause g c on =
    subst (λ (o : Option Ending). IfSome o (λ e. HasCause e (record { store = g.D.Store.state c.args.store.now; out = g.O.Sink.state c.args.out.now; err = g.E.Sink.state c.args.err.now })
    (record { store = g.D.Store.state c.go.new.store; out = g.O.Sink.state c.go.new.out; err = g.E.Sink.state c.go.new.err }))) (sym c.ending_after.ensures)
    (turn-HasCause c.go.result c.go.new.self.end (record { store = g.D.Store.state c.args.store.now; out = g.O.Sink.state c.args.out.now; err = g.E.Sink.state c.args.err.now }) (record { store = g.D.Store.state c.go.new.store; out = g.O.Sink.state c.go.new.out; err = g.E.Sink.state c.go.new.err }) c.go.ensures.end (c.go.ensures.ended (c.keep_spare.ensures.end ∙ on)))

pub returns-clause-goes_on : goal.returns-clause-goes_on
returns-clause-goes_on g c none = turn-goes_on c.go.result c.go.new.self.end c.go.ensures.end (sym c.ending_after.ensures ∙ none)
