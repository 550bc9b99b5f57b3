use Rattle.std.proofs.Common.{◌∙◌, ◌+◌, ◌-◌, ◌∷◌, ◌++◌, sym, arith, refl}
use Rattle.std.specs.Prelude.{replicate}
use Rattle.program_driver.proofs.Traced.{moves-TraceProgress, next-TraceProgress, ended-Drives}
use Rattle.program_driver.proofs.Idling.{rest-TraceProgress}
use Rattle.program_driver.proofs.Stretching.{first-of, none-left, all-left}
use Rattle.runner.proofs.Causes.{same-later}
use Rattle.program_driver.proofs.Causes.{later-IsLater, earlier-HasCause}
use Rattle.program_driver.specs.Traces.{with_err}
use Rattle.program_driver.proofs.tracing.trace_stretch.Goals as goal

pub loop-made-init : goal.loop-made-init
loop-made-init g c = record {
  few = omega arith;
  goes = λ uses pattern turns left start first empty log. (
      moves-TraceProgress uses pattern turns c.args.uses.now start c.args.runner.now first empty (g.D.Store.state c.args.store.now) (g.O.Sink.state c.args.out.now)
      (replicate c.args.count c.args.step ++ left) (replicate (c.args.count - 0) c.args.step ++ left) (sym (all-left c.args.count c.args.step left)) log);
  later = λ err. same-later _;
  on = λ on. on;
}

pub loop-made-preserved : goal.loop-made-preserved
loop-made-preserved g c = record {
  few = omega (arith, c.loop-made.invariant.few, c.trace_move.ensures.moves);
  goes = λ uses pattern turns left start first empty log. (
      next-TraceProgress uses pattern turns c.loop-made.uses start c.loop-made.runner c.trace_move.new.runner first (g.D.Store.state c.loop-made.store) (g.D.Store.state c.trace_move.new.store) empty (g.O.Sink.state c.loop-made.out) (g.O.Sink.state c.trace_move.new.out) c.args.step (replicate (c.args.count - (c.loop-made.made + 1)) c.args.step ++ left)
      (moves-TraceProgress uses pattern turns c.loop-made.uses start c.loop-made.runner first empty (g.D.Store.state c.loop-made.store) (g.O.Sink.state c.loop-made.out) (replicate (c.args.count - c.loop-made.made) c.args.step ++ left) (c.args.step ∷ (replicate (c.args.count - (c.loop-made.made + 1)) c.args.step ++ left))
      (first-of c.loop-made.made c.args.count c.args.step left c.loop-made-test.true) (c.loop-made.invariant.goes uses pattern turns left start first empty log))
      c.trace_move.new.uses c.in_default.ensures.traces c.trace_move.ensures.files);
  later = λ err. later-IsLater _ _ _ (c.loop-made.invariant.later err) (c.trace_move.ensures.later err);
  on = λ on. c.in_default.ensures.goes_on refl;
}

pub returns-then-rests-clause-goes : goal.returns-then-rests-clause-goes
returns-then-rests-clause-goes g c uses pattern turns left start first empty log =
    rest-TraceProgress pattern turns start c.loop-made.runner c.rest.new.self c.args.step (c.args.count - c.loop-made.made) left
    (λ w r shows. (sym c.if-rests.true ∙ c.rests.ensures w r shows)) c.rest.ensures.shows uses c.loop-made.uses first (g.D.Store.state c.loop-made.store) empty (g.O.Sink.state c.loop-made.out)
    (c.loop-made.invariant.goes uses pattern turns left start first empty log)

pub returns-in-Some-clause-goes : goal.returns-in-Some-clause-goes
returns-in-Some-clause-goes g c uses pattern turns left start first empty log err =
    ended-Drives uses pattern turns c.loop-made.uses start c.loop-made.runner c.trace_move.new.runner first (g.D.Store.state c.loop-made.store) (g.D.Store.state c.trace_move.new.store) empty (g.O.Sink.state c.loop-made.out) (g.O.Sink.state c.trace_move.new.out) c.args.step (replicate (c.args.count - (c.loop-made.made + 1)) c.args.step ++ left)
    (moves-TraceProgress uses pattern turns c.loop-made.uses start c.loop-made.runner first empty (g.D.Store.state c.loop-made.store) (g.O.Sink.state c.loop-made.out) (replicate (c.args.count - c.loop-made.made) c.args.step ++ left) (c.args.step ∷ (replicate (c.args.count - (c.loop-made.made + 1)) c.args.step ++ left))
    (first-of c.loop-made.made c.args.count c.args.step left c.loop-made-test.true) (c.loop-made.invariant.goes uses pattern turns left start first empty log))
    c.in-Some.ending err c.trace_move.new.uses c.in-Some.ensures.traces

pub returns-clause-goes : goal.returns-clause-goes
returns-clause-goes g c uses pattern turns left start first empty log =
    moves-TraceProgress uses pattern turns c.loop-made.uses start c.loop-made.runner first empty (g.D.Store.state c.loop-made.store) (g.O.Sink.state c.loop-made.out) (replicate (c.args.count - c.loop-made.made) c.args.step ++ left) left
    (none-left c.loop-made.made c.args.count c.args.step left (omega (arith, c.loop-made-test.false))) (c.loop-made.invariant.goes uses pattern turns left start first empty log)

pub returns-then-rests-clause-later : goal.returns-then-rests-clause-later
returns-then-rests-clause-later g c err = c.loop-made.invariant.later err

pub returns-then-rests-clause-goes_on : goal.returns-then-rests-clause-goes_on
returns-then-rests-clause-goes_on g c on none = c.rest.ensures.end ∙ c.loop-made.invariant.on on

pub returns-in-Some-clause-later : goal.returns-in-Some-clause-later
returns-in-Some-clause-later g c err = later-IsLater _ _ _ (c.loop-made.invariant.later err) (c.trace_move.ensures.later err)

pub returns-in-Some-clause-cause : goal.returns-in-Some-clause-cause
returns-in-Some-clause-cause g c on err = earlier-HasCause c.in-Some.ending (with_err err (g.D.Store.state c.args.store.now) (g.O.Sink.state c.args.out.now)) (with_err err (g.D.Store.state c.loop-made.store) (g.O.Sink.state c.loop-made.out)) (with_err err (g.D.Store.state c.trace_move.new.store) (g.O.Sink.state c.trace_move.new.out)) (c.loop-made.invariant.later err) (c.in-Some.ensures.cause (c.loop-made.invariant.on on) err)

pub returns-clause-later : goal.returns-clause-later
returns-clause-later g c err = c.loop-made.invariant.later err

pub returns-clause-goes_on : goal.returns-clause-goes_on
returns-clause-goes_on g c on none = c.loop-made.invariant.on on
