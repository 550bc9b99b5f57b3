use Rattle.std.proofs.Common.{◌≡◌, ◌∙◌, ◌+◌, ◌-◌, ◌∷◌, ◌++◌, sym, ap, arith, refl}
use Rattle.std.specs.Prelude.{replicate}
use Rattle.plain_runner.specs.Runs.{Outside}
use Rattle.program_driver.proofs.Driven.{moves-Progress, next-Progress, ended-Drives}
use Rattle.program_driver.proofs.Idling.{rest-Progress}
use Rattle.program_driver.proofs.Stretching.{first-of, none-left, all-left}
use Rattle.runner.proofs.Causes.{same-later}
use Rattle.program_driver.proofs.Causes.{later-IsLater, earlier-HasCause}
use Rattle.program_driver.proofs.driving.drive_stretch.Goals as goal

pub loop-made-init : goal.loop-made-init
loop-made-init g c = record {
  few = omega arith;
  inside = omega arith;
  goes = λ pattern turns left start before log. (
      moves-Progress pattern turns start c.args.runner.now before (record { store = g.D.Store.state c.args.store.now; out = g.O.Sink.state c.args.out.now; err = g.E.Sink.state c.args.err.now })
      (replicate c.args.count c.args.step ++ left) (replicate (c.args.count - 0) c.args.step ++ left) (sym (all-left c.args.count c.args.step left)) log);
  later = same-later _;
  on = λ on. on;
}

pub make_at_once-made-requires : goal.make_at_once-made-requires
make_at_once-made-requires g c = omega (arith, c.loop-made.invariant.few, c.advance.ensures.moves, c.requires.few, c.loop-made-test.true)

pub loop-made-preserved : goal.loop-made-preserved
loop-made-preserved g c =
    let left_over : c.args.count - (c.loop-made.made + 1) - c.make_at_once-made.result ≡ c.args.count - (c.loop-made.made + 1 + c.make_at_once-made.result) = omega arith in
    record {
      few = omega (arith, c.loop-made.invariant.few, c.advance.ensures.moves, c.make_at_once-made.ensures.moves);
      inside = omega (arith, c.make_at_once-made.ensures.most, c.loop-made-test.true);
      goes = λ pattern turns left start before log. (
          let here : Outside = record { store = g.D.Store.state c.advance.new.store; out = g.O.Sink.state c.advance.new.out; err = g.E.Sink.state c.advance.new.err } in
          moves-Progress pattern turns start c.make_at_once-made.new.runner before here (replicate (c.args.count - (c.loop-made.made + 1) - c.make_at_once-made.result) c.args.step ++ left) (replicate (c.args.count - (c.loop-made.made + 1 + c.make_at_once-made.result)) c.args.step ++ left) (ap (λ n. replicate n c.args.step ++ left) left_over)
          (c.make_at_once-made.ensures.goes here left pattern turns start before
          (next-Progress pattern turns start c.loop-made.runner c.advance.new.runner before (record { store = g.D.Store.state c.loop-made.store; out = g.O.Sink.state c.loop-made.out; err = g.E.Sink.state c.loop-made.err }) here c.args.step (replicate (c.args.count - (c.loop-made.made + 1)) c.args.step ++ left)
          (moves-Progress pattern turns start c.loop-made.runner before (record { store = g.D.Store.state c.loop-made.store; out = g.O.Sink.state c.loop-made.out; err = g.E.Sink.state c.loop-made.err }) (replicate (c.args.count - c.loop-made.made) c.args.step ++ left) (c.args.step ∷ (replicate (c.args.count - (c.loop-made.made + 1)) c.args.step ++ left))
          (first-of c.loop-made.made c.args.count c.args.step left c.loop-made-test.true) (c.loop-made.invariant.goes pattern turns left start before log))
          c.in_default.ensures.advances c.advance.ensures.files)));
      later = later-IsLater _ _ _ c.loop-made.invariant.later c.advance.ensures.later;
      on = λ on. (c.make_at_once-made.ensures.end ∙ c.in_default.ensures.goes_on refl);
    }

pub returns-then-rests-clause-goes : goal.returns-then-rests-clause-goes
returns-then-rests-clause-goes g c pattern turns left start before log =
    rest-Progress pattern turns start c.loop-made.runner c.rest.new.self c.args.step (c.args.count - c.loop-made.made) left
    (λ w r shows. (sym c.if-rests.true ∙ c.rests.ensures w r shows)) c.rest.ensures.shows before (record { store = g.D.Store.state c.loop-made.store; out = g.O.Sink.state c.loop-made.out; err = g.E.Sink.state c.loop-made.err }) (c.loop-made.invariant.goes pattern turns left start before log)

pub returns-in-Some-clause-goes : goal.returns-in-Some-clause-goes
returns-in-Some-clause-goes g c pattern turns left start before log =
    ended-Drives pattern turns start c.loop-made.runner c.advance.new.runner before (record { store = g.D.Store.state c.loop-made.store; out = g.O.Sink.state c.loop-made.out; err = g.E.Sink.state c.loop-made.err }) (record { store = g.D.Store.state c.advance.new.store; out = g.O.Sink.state c.advance.new.out; err = g.E.Sink.state c.advance.new.err }) c.args.step (replicate (c.args.count - (c.loop-made.made + 1)) c.args.step ++ left)
    (moves-Progress pattern turns start c.loop-made.runner before (record { store = g.D.Store.state c.loop-made.store; out = g.O.Sink.state c.loop-made.out; err = g.E.Sink.state c.loop-made.err }) (replicate (c.args.count - c.loop-made.made) c.args.step ++ left) (c.args.step ∷ (replicate (c.args.count - (c.loop-made.made + 1)) c.args.step ++ left))
    (first-of c.loop-made.made c.args.count c.args.step left c.loop-made-test.true) (c.loop-made.invariant.goes pattern turns left start before log))
    c.in-Some.ending c.in-Some.ensures.advances

pub returns-clause-goes : goal.returns-clause-goes
returns-clause-goes g c pattern turns left start before log =
    moves-Progress pattern turns start c.loop-made.runner before (record { store = g.D.Store.state c.loop-made.store; out = g.O.Sink.state c.loop-made.out; err = g.E.Sink.state c.loop-made.err }) (replicate (c.args.count - c.loop-made.made) c.args.step ++ left) left
    (none-left c.loop-made.made c.args.count c.args.step left (omega (arith, c.loop-made-test.false))) (c.loop-made.invariant.goes pattern turns left start before log)

pub returns-then-rests-clause-later : goal.returns-then-rests-clause-later
returns-then-rests-clause-later g c = c.loop-made.invariant.later

pub returns-then-rests-clause-goes_on : goal.returns-then-rests-clause-goes_on
returns-then-rests-clause-goes_on g c on none = c.rest.ensures.end ∙ c.loop-made.invariant.on on

pub returns-in-Some-clause-later : goal.returns-in-Some-clause-later
returns-in-Some-clause-later g c = later-IsLater _ _ _ c.loop-made.invariant.later c.advance.ensures.later

pub returns-in-Some-clause-cause : goal.returns-in-Some-clause-cause
returns-in-Some-clause-cause g c on = earlier-HasCause c.in-Some.ending (record { store = g.D.Store.state c.args.store.now; out = g.O.Sink.state c.args.out.now; err = g.E.Sink.state c.args.err.now }) (record { store = g.D.Store.state c.loop-made.store; out = g.O.Sink.state c.loop-made.out; err = g.E.Sink.state c.loop-made.err }) (record { store = g.D.Store.state c.advance.new.store; out = g.O.Sink.state c.advance.new.out; err = g.E.Sink.state c.advance.new.err }) c.loop-made.invariant.later (c.in-Some.ensures.cause (c.loop-made.invariant.on on))

pub returns-clause-later : goal.returns-clause-later
returns-clause-later g c = c.loop-made.invariant.later

pub returns-clause-goes_on : goal.returns-clause-goes_on
returns-clause-goes_on g c on none = c.loop-made.invariant.on on
