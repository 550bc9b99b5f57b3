use Rattle.std.proofs.Common.{◌≡◌, ◌∙◌, ◌+◌, [], ◌++◌, length, ap, sym, arith, refl}
use Rattle.std.specs.Prelude.{replicate}
use Rattle.run_model.specs.Patterns.{pattern_moves}
use Rattle.program_driver.proofs.Rounding.{all-length}
use Rattle.program_driver.proofs.Stretching.{stretch-length}
use Rattle.program_driver.proofs.Driven.{moves-Progress, first-Progress, over-Drives}
use Rattle.runner.proofs.Causes.{same-later}
use Rattle.program_driver.proofs.Causes.{later-IsLater, earlier-HasCause}
use Rattle.program_driver.proofs.driving.drive.Goals as goal

pub loop-step-init : goal.loop-step-init
loop-step-init g c =
    let count : length c.new-schedule.result ≡ c.args.turns = all-length c.args.pattern.now c.args.turns c.new-schedule.result c.requires.pattern c.new-schedule.ensures in
    record {
      few = omega (arith, c.requires.few, count);
      log =
          moves-Progress c.args.pattern.now c.args.turns c.args.runner.now c.args.runner.now (record { store = g.D.Store.state c.args.store.now; out = g.O.Sink.state c.args.out.now; err = g.E.Sink.state c.args.err.now }) (record { store = g.D.Store.state c.args.store.now; out = g.O.Sink.state c.args.out.now; err = g.E.Sink.state c.args.err.now }) (pattern_moves c.args.pattern.now c.args.turns) c.new-schedule.result (sym c.new-schedule.ensures)
          (first-Progress c.args.pattern.now c.args.turns c.args.runner.now (record { store = g.D.Store.state c.args.store.now; out = g.O.Sink.state c.args.out.now; err = g.E.Sink.state c.args.err.now }));
      later = same-later _;
      on = λ on. on;
    }

pub drive_at_once-requires : goal.drive_at_once-requires
drive_at_once-requires g c =
    let count : length c.loop-step.schedule ≡ c.in-Some.count + length c.next_stretch.new.self = ap length c.in-Some.ensures.moves ∙ stretch-length c.in-Some.count c.in-Some.step c.next_stretch.new.self in
    omega (arith, c.loop-step.invariant.few, c.drive_stretch.ensures.moves, count)

pub loop-step-preserved : goal.loop-step-preserved
loop-step-preserved g c =
    record {
      few = c.drive_at_once.ensures.few;
      log =
          c.drive_at_once.ensures.goes (record { store = g.D.Store.state c.drive_stretch.new.store; out = g.O.Sink.state c.drive_stretch.new.out; err = g.E.Sink.state c.drive_stretch.new.err }) c.args.pattern.now c.args.turns c.args.runner.now (record { store = g.D.Store.state c.args.store.now; out = g.O.Sink.state c.args.out.now; err = g.E.Sink.state c.args.err.now })
          (c.in_default-drive_stretch.ensures.goes c.args.pattern.now c.args.turns c.next_stretch.new.self c.args.runner.now (record { store = g.D.Store.state c.args.store.now; out = g.O.Sink.state c.args.out.now; err = g.E.Sink.state c.args.err.now })
          (moves-Progress c.args.pattern.now c.args.turns c.args.runner.now c.loop-step.runner (record { store = g.D.Store.state c.args.store.now; out = g.O.Sink.state c.args.out.now; err = g.E.Sink.state c.args.err.now }) (record { store = g.D.Store.state c.loop-step.store; out = g.O.Sink.state c.loop-step.out; err = g.E.Sink.state c.loop-step.err }) c.loop-step.schedule (replicate c.in-Some.count c.in-Some.step ++ c.next_stretch.new.self) c.in-Some.ensures.moves c.loop-step.invariant.log));
      later = later-IsLater _ _ _ c.loop-step.invariant.later c.drive_stretch.ensures.later;
      on = λ on. (c.drive_at_once.ensures.end ∙ c.in_default-drive_stretch.ensures.goes_on (c.loop-step.invariant.on on) refl);
    }

pub returns-in-Some-drive_stretch-clause-drives : goal.returns-in-Some-drive_stretch-clause-drives
returns-in-Some-drive_stretch-clause-drives g c =
    c.in-Some-drive_stretch.ensures.goes c.args.pattern.now c.args.turns c.next_stretch.new.self c.args.runner.now (record { store = g.D.Store.state c.args.store.now; out = g.O.Sink.state c.args.out.now; err = g.E.Sink.state c.args.err.now })
    (moves-Progress c.args.pattern.now c.args.turns c.args.runner.now c.loop-step.runner (record { store = g.D.Store.state c.args.store.now; out = g.O.Sink.state c.args.out.now; err = g.E.Sink.state c.args.err.now }) (record { store = g.D.Store.state c.loop-step.store; out = g.O.Sink.state c.loop-step.out; err = g.E.Sink.state c.loop-step.err }) c.loop-step.schedule (replicate c.in-Some.count c.in-Some.step ++ c.next_stretch.new.self) c.in-Some.ensures.moves c.loop-step.invariant.log)

pub returns-clause-drives : goal.returns-clause-drives
returns-clause-drives g c =
    over-Drives c.args.pattern.now c.args.turns c.args.runner.now c.loop-step.runner (record { store = g.D.Store.state c.args.store.now; out = g.O.Sink.state c.args.out.now; err = g.E.Sink.state c.args.err.now }) (record { store = g.D.Store.state c.loop-step.store; out = g.O.Sink.state c.loop-step.out; err = g.E.Sink.state c.loop-step.err }) c.own_done.result c.requires.pattern
    (moves-Progress c.args.pattern.now c.args.turns c.args.runner.now c.loop-step.runner (record { store = g.D.Store.state c.args.store.now; out = g.O.Sink.state c.args.out.now; err = g.E.Sink.state c.args.err.now }) (record { store = g.D.Store.state c.loop-step.store; out = g.O.Sink.state c.loop-step.out; err = g.E.Sink.state c.loop-step.err }) c.loop-step.schedule [] c.in_default.ensures.moves c.loop-step.invariant.log)
    c.own_done.ensures

pub returns-in-Some-drive_stretch-clause-later : goal.returns-in-Some-drive_stretch-clause-later
returns-in-Some-drive_stretch-clause-later g c = later-IsLater _ _ _ c.loop-step.invariant.later c.drive_stretch.ensures.later

pub returns-in-Some-drive_stretch-clause-cause : goal.returns-in-Some-drive_stretch-clause-cause
returns-in-Some-drive_stretch-clause-cause g c on =
    earlier-HasCause c.in-Some-drive_stretch.ending (record { store = g.D.Store.state c.args.store.now; out = g.O.Sink.state c.args.out.now; err = g.E.Sink.state c.args.err.now }) (record { store = g.D.Store.state c.loop-step.store; out = g.O.Sink.state c.loop-step.out; err = g.E.Sink.state c.loop-step.err }) (record { store = g.D.Store.state c.drive_stretch.new.store; out = g.O.Sink.state c.drive_stretch.new.out; err = g.E.Sink.state c.drive_stretch.new.err }) c.loop-step.invariant.later (c.in-Some-drive_stretch.ensures.cause (c.loop-step.invariant.on on))

pub returns-clause-later : goal.returns-clause-later
returns-clause-later g c = c.loop-step.invariant.later
