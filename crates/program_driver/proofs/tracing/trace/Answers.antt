use Rattle.std.proofs.Common.{◌≡◌, ◌∙◌, ◌+◌, [], ◌++◌, length, ap, sym, subst, arith, refl, ◌∷◌}
use Rattle.std.specs.Prelude.{replicate}
use Rattle.trace_text.specs.Line.{turns_line_of}
use Rattle.run_model.specs.Patterns.{pattern_moves}
use Rattle.program_driver.specs.Runs.{Drives}
use Rattle.program_driver.specs.Traces.{TracesTo, with_err}
use Rattle.program_driver.proofs.Rounding.{all-length}
use Rattle.program_driver.proofs.Stretching.{stretch-length}
use Rattle.program_driver.proofs.Traced.{moves-TraceProgress, first-TraceProgress, over-Drives}
use Rattle.runner.proofs.Causes.{same-later}
use Rattle.program_driver.proofs.Causes.{later-IsLater, earlier-HasCause, turns-HasCause, counts-lines, line-later}
use Rattle.program_driver.specs.Causes.{HasCause}
use Rattle.plain_runner.specs.declared.ending.Ending.{Ending}
use Rattle.program_driver.proofs.tracing.trace.Goals as goal

pub loop-step-init : goal.loop-step-init
loop-step-init g c =
    let count : length c.new-schedule.result ≡ c.args.turns = all-length c.args.pattern.now c.args.turns c.new-schedule.result c.requires.pattern c.new-schedule.ensures in
    record {
      few = omega (arith, c.requires.few, count);
      log =
          moves-TraceProgress c.args.with_uses c.args.pattern.now c.args.turns c.new-uses.result c.args.runner.now c.args.runner.now (g.D.Store.state c.args.store.now) (g.O.Sink.state c.args.out.now) (g.D.Store.state c.args.store.now) (g.O.Sink.state c.args.out.now) (pattern_moves c.args.pattern.now c.args.turns) c.new-schedule.result (sym {b = pattern_moves c.args.pattern.now c.args.turns} c.new-schedule.ensures)
          (first-TraceProgress c.args.with_uses c.args.pattern.now c.args.turns c.new-uses.result c.args.runner.now (g.D.Store.state c.args.store.now) (g.O.Sink.state c.args.out.now) c.new-uses.ensures.on c.new-uses.ensures.keeps);
      later = λ err. same-later _;
      on = λ on. on;
    }

pub loop-step-preserved : goal.loop-step-preserved
loop-step-preserved g c =
    let count : length c.loop-step.schedule ≡ c.in-Some.count + length c.next_stretch.new.self = ap length c.in-Some.ensures.moves ∙ stretch-length c.in-Some.count c.in-Some.step c.next_stretch.new.self in
    record {
      few = omega (arith, c.loop-step.invariant.few, c.trace_stretch.ensures.moves, count);
      log = c.in_default-trace_stretch.ensures.goes c.args.with_uses c.args.pattern.now c.args.turns c.next_stretch.new.self c.args.runner.now (g.D.Store.state c.args.store.now) (g.O.Sink.state c.args.out.now) (moves-TraceProgress c.args.with_uses c.args.pattern.now c.args.turns c.loop-step.uses c.args.runner.now c.loop-step.runner (g.D.Store.state c.args.store.now) (g.O.Sink.state c.args.out.now) (g.D.Store.state c.loop-step.store) (g.O.Sink.state c.loop-step.out) c.loop-step.schedule (replicate c.in-Some.count c.in-Some.step ++ c.next_stretch.new.self) c.in-Some.ensures.moves c.loop-step.invariant.log);
      later = λ err. later-IsLater _ _ _ (c.loop-step.invariant.later err) (c.trace_stretch.ensures.later err);
      on = λ on. c.in_default-trace_stretch.ensures.goes_on (c.loop-step.invariant.on on) refl;
    }

pub returns-in-Some-trace_stretch-clause-drives : goal.returns-in-Some-trace_stretch-clause-drives
returns-in-Some-trace_stretch-clause-drives g c err =
    c.in-Some-trace_stretch.ensures.goes c.args.with_uses c.args.pattern.now c.args.turns c.next_stretch.new.self c.args.runner.now (g.D.Store.state c.args.store.now) (g.O.Sink.state c.args.out.now) (moves-TraceProgress c.args.with_uses c.args.pattern.now c.args.turns c.loop-step.uses c.args.runner.now c.loop-step.runner (g.D.Store.state c.args.store.now) (g.O.Sink.state c.args.out.now) (g.D.Store.state c.loop-step.store) (g.O.Sink.state c.loop-step.out) c.loop-step.schedule (replicate c.in-Some.count c.in-Some.step ++ c.next_stretch.new.self) c.in-Some.ensures.moves c.loop-step.invariant.log) err

pub returns-clause-drives : goal.returns-clause-drives
returns-clause-drives g c err =
    subst (λ ending. Drives (TracesTo c.args.with_uses c.args.pattern.now c.args.turns ending) c.args.runner.now c.loop-step.runner (with_err err (g.D.Store.state c.args.store.now) (g.O.Sink.state c.args.out.now)) (with_err err (g.D.Store.state c.loop-step.store) (g.O.Sink.state c.put_made-answer.new.sink))) (sym c.ending_with.ensures)
    (over-Drives c.args.with_uses c.args.pattern.now c.args.turns c.loop-step.uses c.args.runner.now c.loop-step.runner (g.D.Store.state c.args.store.now) (g.D.Store.state c.loop-step.store)
    (g.O.Sink.state c.args.out.now) (g.O.Sink.state c.loop-step.out) (g.O.Sink.state c.put_made-answer.new.sink) err c.own_done-own.result c.shadow_done-shadow.result c.put_made-answer.result c.requires.pattern
    (moves-TraceProgress c.args.with_uses c.args.pattern.now c.args.turns c.loop-step.uses c.args.runner.now c.loop-step.runner (g.D.Store.state c.args.store.now) (g.O.Sink.state c.args.out.now) (g.D.Store.state c.loop-step.store) (g.O.Sink.state c.loop-step.out) c.loop-step.schedule [] c.in_default.ensures.moves c.loop-step.invariant.log)
    c.own_done-own.ensures c.shadow_done-shadow.ensures (c.put_made-answer.ensures (turns_line_of c.own_done-own.result c.shadow_done-shadow.result) c.turns_line.ensures))

pub returns-in-Some-trace_stretch-clause-later : goal.returns-in-Some-trace_stretch-clause-later
returns-in-Some-trace_stretch-clause-later g c err = later-IsLater _ _ _ (c.loop-step.invariant.later err) (c.trace_stretch.ensures.later err)

pub returns-in-Some-trace_stretch-clause-cause : goal.returns-in-Some-trace_stretch-clause-cause
returns-in-Some-trace_stretch-clause-cause g c on err =
    earlier-HasCause c.in-Some-trace_stretch.ending (with_err err (g.D.Store.state c.args.store.now) (g.O.Sink.state c.args.out.now)) (with_err err (g.D.Store.state c.loop-step.store) (g.O.Sink.state c.loop-step.out)) (with_err err (g.D.Store.state c.trace_stretch.new.store) (g.O.Sink.state c.trace_stretch.new.out)) (c.loop-step.invariant.later err) (c.in-Some-trace_stretch.ensures.cause (c.loop-step.invariant.on on) err)

pub returns-clause-later : goal.returns-clause-later
returns-clause-later g c err =
    line-later c.put_made-answer.result _ _ _ _ _ err (c.loop-step.invariant.later err)
    (counts-lines (turns_line_of c.own_done-own.result c.shadow_done-shadow.result ∷ []) c.put_made-answer.result (g.O.Sink.state c.loop-step.out) (g.O.Sink.state c.put_made-answer.new.sink) (c.put_made-answer.ensures (turns_line_of c.own_done-own.result c.shadow_done-shadow.result) c.turns_line.ensures))

pub returns-clause-cause : goal.returns-clause-cause
returns-clause-cause g c on err =
    subst (λ (e : Ending). HasCause e (with_err err (g.D.Store.state c.args.store.now) (g.O.Sink.state c.args.out.now)) (with_err err (g.D.Store.state c.loop-step.store) (g.O.Sink.state c.put_made-answer.new.sink))) (sym c.ending_with.ensures)
    (turns-HasCause c.own_done-own.result c.put_made-answer.result (g.D.Store.state c.args.store.now) (g.D.Store.state c.loop-step.store) (g.O.Sink.state c.args.out.now) (g.O.Sink.state c.loop-step.out) (g.O.Sink.state c.put_made-answer.new.sink) err (c.loop-step.invariant.later err)
    (counts-lines (turns_line_of c.own_done-own.result c.shadow_done-shadow.result ∷ []) c.put_made-answer.result (g.O.Sink.state c.loop-step.out) (g.O.Sink.state c.put_made-answer.new.sink) (c.put_made-answer.ensures (turns_line_of c.own_done-own.result c.shadow_done-shadow.result) c.turns_line.ensures)))
