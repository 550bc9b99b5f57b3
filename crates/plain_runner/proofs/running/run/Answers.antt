use Rattle.std.proofs.Common.{◌≡◌, suc, ◌+◌, ◌-◌, ◌≤◌, ◌<◌, ap, sym, inl, inr, subst, arith}
use Rattle.hart_mem.specs.Held.{lacks_frame, space_of}
use Rattle.hart_step.specs.Core.{core_of}
use Rattle.plain_runner.specs.declared.ending.Ending.TheVariants.{NoMemory}
use Rattle.plain_runner.specs.Runs.{Outside}
use Rattle.plain_runner.specs.Turns.{TurnsTo, GoesOn, Stops}
use Rattle.plain_runner.proofs.Steps.{starved-Stops}
use Rattle.plain_runner.proofs.RunLogs.{RunLog, first-RunLog, turn-RunLog, ends-here, ended-RunsTo, over-RunsTo}
use Rattle.plain_runner.proofs.Stretches.{stretch-RunLog}
use Rattle.plain_runner.proofs.running.run.Goals as goal

pub returns-in_default : goal.returns-in_default
returns-in_default g c p start =
    let o : Outside = record { store = g.S.Store.state c.args.store.now; out = g.O.Sink.state c.args.out.now; err = g.E.Sink.state c.args.err.now } in
    let log = first-RunLog p (core_of c.args.hart.now) (space_of c.args.mem.now) c.args.files.now o start in
    ends-here p o 0 (core_of c.args.hart.now) (space_of c.args.mem.now) c.args.files.now o log c.args.turns NoMemory (core_of c.args.hart.now) (space_of c.args.mem.now) c.args.files.now o (omega arith)
    (starved-Stops p log.state (core_of c.args.hart.now) (space_of c.args.mem.now) c.args.files.now o log.shows)

pub loop-init : goal.loop-init
loop-init g c = record {
  room = c.in-Ok.ensures;
  few = omega arith;
  come = λ p start.
      (let o : Outside = record { store = g.S.Store.state c.args.store.now; out = g.O.Sink.state c.args.out.now; err = g.E.Sink.state c.args.err.now } in
      let none : 0 ≡ c.args.turns - c.args.turns = omega arith in
      subst (λ n. RunLog p o n (core_of c.args.hart.now) (space_of c.args.mem.now) c.args.files.now o) none (first-RunLog p (core_of c.args.hart.now) (space_of c.args.mem.now) c.args.files.now o start));
}

pub returns-then-left-eq0 : goal.returns-then-left-eq0
returns-then-left-eq0 g c p start =
    let log0 = c.loop.invariant.come p start in
    let old : Outside = record { store = g.S.Store.state c.args.store.now; out = g.O.Sink.state c.args.out.now; err = g.E.Sink.state c.args.err.now } in
    let now : Outside = record { store = g.S.Store.state c.loop.store; out = g.O.Sink.state c.loop.out; err = g.E.Sink.state c.loop.err } in
    let log : RunLog p old ((c.args.turns - c.loop.left) + c.steps-done.result.0) (core_of c.steps-done.new.hart) (space_of c.steps-done.new.mem) c.loop.files now =
    stretch-RunLog p old c.loop.files now (core_of c.loop.hart) (space_of c.loop.mem) (c.args.turns - c.loop.left) c.loop.left c.steps-done.result.0 c.steps-done.result.1 (lacks_frame (core_of c.loop.hart).view c.steps-done.new.mem) (core_of c.steps-done.new.hart) (space_of c.steps-done.new.mem) c.steps-done.ensures.steps log0 in
    let over : (c.args.turns - c.loop.left) + c.steps-done.result.0 ≡ c.args.turns = omega (arith, c.if-left-eq0.true, c.steps-done.ensures.most, c.loop.invariant.few) in
    over-RunsTo p old ((c.args.turns - c.loop.left) + c.steps-done.result.0) (core_of c.steps-done.new.hart) (space_of c.steps-done.new.mem) c.loop.files now log c.args.turns over

pub returns-in-Some : goal.returns-in-Some
returns-in-Some g c p start =
    let log0 = c.loop.invariant.come p start in
    let old : Outside = record { store = g.S.Store.state c.args.store.now; out = g.O.Sink.state c.args.out.now; err = g.E.Sink.state c.args.err.now } in
    let now : Outside = record { store = g.S.Store.state c.loop.store; out = g.O.Sink.state c.loop.out; err = g.E.Sink.state c.loop.err } in
    let log : RunLog p old ((c.args.turns - c.loop.left) + c.steps-done.result.0) (core_of c.steps-done.new.hart) (space_of c.steps-done.new.mem) c.loop.files now =
    stretch-RunLog p old c.loop.files now (core_of c.loop.hart) (space_of c.loop.mem) (c.args.turns - c.loop.left) c.loop.left c.steps-done.result.0 c.steps-done.result.1 (lacks_frame (core_of c.loop.hart).view c.steps-done.new.mem) (core_of c.steps-done.new.hart) (space_of c.steps-done.new.mem) c.steps-done.ensures.steps log0 in
    let new : Outside = record { store = g.S.Store.state c.turn.new.store; out = g.O.Sink.state c.turn.new.out; err = g.E.Sink.state c.turn.new.err } in
    let stop : Stops p log.state c.in-Some.ending now (core_of c.turn.new.hart) (space_of c.turn.new.mem) c.turn.new.files new =
    subst (λ r. TurnsTo p log.state now r (core_of c.turn.new.hart) (space_of c.turn.new.mem) c.turn.new.files new) c.in-Some.is (c.turn.ensures p log.state log.shows) in
    let few : (c.args.turns - c.loop.left) + c.steps-done.result.0 < c.args.turns = omega (arith, c.if-left-eq0.false, c.steps-done.ensures.most, c.loop.invariant.few) in
    ended-RunsTo p old ((c.args.turns - c.loop.left) + c.steps-done.result.0) (core_of c.steps-done.new.hart) (space_of c.steps-done.new.mem) c.loop.files now log
    c.args.turns c.in-Some.ending (core_of c.turn.new.hart) (space_of c.turn.new.mem) c.turn.new.files new few stop

pub loop-preserved : goal.loop-preserved
loop-preserved g c = record {
  room = c.loop.invariant.room;
  few = omega (arith, c.if-left-eq0.false, c.steps-done.ensures.most, c.loop.invariant.few);
  come = λ p start.
      (
      let log0 = c.loop.invariant.come p start in
      let old : Outside = record { store = g.S.Store.state c.args.store.now; out = g.O.Sink.state c.args.out.now; err = g.E.Sink.state c.args.err.now } in
      let now : Outside = record { store = g.S.Store.state c.loop.store; out = g.O.Sink.state c.loop.out; err = g.E.Sink.state c.loop.err } in
      let log : RunLog p old ((c.args.turns - c.loop.left) + c.steps-done.result.0) (core_of c.steps-done.new.hart) (space_of c.steps-done.new.mem) c.loop.files now =
      stretch-RunLog p old c.loop.files now (core_of c.loop.hart) (space_of c.loop.mem) (c.args.turns - c.loop.left) c.loop.left c.steps-done.result.0 c.steps-done.result.1 (lacks_frame (core_of c.loop.hart).view c.steps-done.new.mem) (core_of c.steps-done.new.hart) (space_of c.steps-done.new.mem) c.steps-done.ensures.steps log0 in
      let new : Outside = record { store = g.S.Store.state c.turn.new.store; out = g.O.Sink.state c.turn.new.out; err = g.E.Sink.state c.turn.new.err } in
      let goes : GoesOn p log.state now (core_of c.turn.new.hart) (space_of c.turn.new.mem) c.turn.new.files new =
      subst (λ r. TurnsTo p log.state now r (core_of c.turn.new.hart) (space_of c.turn.new.mem) c.turn.new.files new) c.in_default-turn.is (c.turn.ensures p log.state log.shows) in
      let more = turn-RunLog p old ((c.args.turns - c.loop.left) + c.steps-done.result.0) (core_of c.steps-done.new.hart) (space_of c.steps-done.new.mem) c.loop.files now log
      (core_of c.turn.new.hart) (space_of c.turn.new.mem) c.turn.new.files new goes in
      let count : suc ((c.args.turns - c.loop.left) + c.steps-done.result.0) ≡ c.args.turns - (c.loop.left - c.steps-done.result.0 - 1) = omega (arith, c.if-left-eq0.false, c.steps-done.ensures.most, c.loop.invariant.few) in
      subst (λ n. RunLog p old n (core_of c.turn.new.hart) (space_of c.turn.new.mem) c.turn.new.files new) count more);
}

pub returns : goal.returns
returns g c p start =
    let over : c.args.turns - c.loop.left ≡ c.args.turns = omega (arith, c.loop-test.false, c.loop.auto.counter-end, c.loop.invariant.few) in
    over-RunsTo p (record { store = g.S.Store.state c.args.store.now; out = g.O.Sink.state c.args.out.now; err = g.E.Sink.state c.args.err.now }) (c.args.turns - c.loop.left) (core_of c.loop.hart) (space_of c.loop.mem) c.loop.files
    (record { store = g.S.Store.state c.loop.store; out = g.O.Sink.state c.loop.out; err = g.E.Sink.state c.loop.err }) (c.loop.invariant.come p start) c.args.turns over
