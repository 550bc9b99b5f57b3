use Rattle.std.proofs.Common.{◌∙◌, inl, inr, ap, sym, subst, Some, refl, arith}
use Rattle.program_driver.specs.Traces.{move_ending, with_err}
use Rattle.program_driver.proofs.Using.{put-as-move}
use Rattle.program_driver.proofs.Causes.{traced-HasCause, traced-later, starved-HasCause, line-HasCause}
use Rattle.program_driver.specs.Causes.{HasCause}
use Rattle.plain_runner.specs.declared.ending.Ending.{Ending}
use Rattle.program_driver.proofs.tracing.trace_move.Goals as goal

pub learn-requires : goal.learn-requires
learn-requires g c = c.look-ahead.ensures.asked

pub returns-in_default-clause-traces : goal.returns-in_default-clause-traces
returns-in_default-clause-traces g c =
    record {
      reached = c.advance-reached.result;
      advances = c.advance-reached.ensures.advances;
      tells = inr (inl (record { made = sym c.is_starved.ensures ∙ c.if-is_starved.false; asked = c.in_default.ensures.err; ends = refl; untouched = refl }));
    }

pub returns-in_default-clause-later : goal.returns-in_default-clause-later
returns-in_default-clause-later g c err = traced-later _ _ _ _ err (c.advance-reached.ensures.later).store (omega arith)

pub returns-in-Ok-put_lines-clause-traces : goal.returns-in-Ok-put_lines-clause-traces
returns-in-Ok-put_lines-clause-traces g c =
    record {
      reached = c.advance-reached.result;
      advances = c.advance-reached.ensures.advances;
      tells = inr (inr (record {
        made = sym c.is_starved.ensures ∙ c.if-is_starved.false;
        answer = c.put_lines.result;
        lines = put-as-move c.args.uses.now c.look-ahead.result c.in-Ok.used c.put_lines.result c.args.step c.args.runner.now c.advance-reached.new.runner (g.O.Sink.state c.args.out.now) (g.O.Sink.state c.put_lines.new.out)
            c.look-ahead.ensures.ahead c.in-Ok.ensures.first c.put_lines.ensures.lines;
        uses = λ w ms x acc has before behind. c.in-Ok.ensures.keeps w ms c.args.step x acc (c.look-ahead.ensures.ahead w ms acc before has) behind has;
        on = c.learn.ensures.on;
        ends = sym (ap (move_ending c.advance-reached.result) c.in-Ok-put_lines.is);
      }));
    }

pub returns-in-Err-clause-traces : goal.returns-in-Err-clause-traces
returns-in-Err-clause-traces g c =
    record {
      reached = c.advance-reached.result;
      advances = c.advance-reached.ensures.advances;
      tells = inr (inr (record {
        made = sym c.is_starved.ensures ∙ c.if-is_starved.false;
        answer = c.put_lines.result;
        lines = put-as-move c.args.uses.now c.look-ahead.result c.in-Ok.used c.put_lines.result c.args.step c.args.runner.now c.advance-reached.new.runner (g.O.Sink.state c.args.out.now) (g.O.Sink.state c.put_lines.new.out)
            c.look-ahead.ensures.ahead c.in-Ok.ensures.first c.put_lines.ensures.lines;
        uses = λ w ms x acc has before behind. c.in-Ok.ensures.keeps w ms c.args.step x acc (c.look-ahead.ensures.ahead w ms acc before has) behind has;
        on = c.learn.ensures.on;
        ends = ap Some c.fault_ending.ensures ∙ sym (ap (move_ending c.advance-reached.result) c.in-Err.is);
      }));
    }

pub returns-then-is_starved-clause-later : goal.returns-then-is_starved-clause-later
returns-then-is_starved-clause-later g c err = traced-later _ _ _ _ err (c.advance-reached.ensures.later).store (omega arith)

pub returns-then-is_starved-clause-cause : goal.returns-then-is_starved-clause-cause
returns-then-is_starved-clause-cause g c on err = starved-HasCause c.advance-reached.result (with_err err (g.D.Store.state c.args.store.now) (g.O.Sink.state c.args.out.now)) (with_err err (g.D.Store.state c.advance-reached.new.store) (g.O.Sink.state c.args.out.now)) (sym c.is_starved.ensures ∙ c.if-is_starved.true)

pub returns-in-Ok-put_lines-clause-later : goal.returns-in-Ok-put_lines-clause-later
returns-in-Ok-put_lines-clause-later g c err = traced-later _ _ _ _ err (c.advance-reached.ensures.later).store c.put_lines.ensures.counts.later

pub returns-in-Ok-put_lines-clause-cause : goal.returns-in-Ok-put_lines-clause-cause
returns-in-Ok-put_lines-clause-cause g c on err = traced-HasCause c.advance-reached.result (g.D.Store.state c.args.store.now) (g.D.Store.state c.advance-reached.new.store) (g.O.Sink.state c.args.out.now) (g.O.Sink.state c.put_lines.new.out) err (c.advance-reached.ensures.cause on)

pub returns-in-Ok-put_lines-clause-goes_on : goal.returns-in-Ok-put_lines-clause-goes_on
returns-in-Ok-put_lines-clause-goes_on g c none = c.advance-reached.ensures.goes_on none

pub returns-in-Err-clause-later : goal.returns-in-Err-clause-later
returns-in-Err-clause-later g c err = traced-later _ _ _ _ err (c.advance-reached.ensures.later).store c.put_lines.ensures.counts.later

pub returns-in-Err-clause-cause : goal.returns-in-Err-clause-cause
returns-in-Err-clause-cause g c on err =
    subst (λ (e : Ending). HasCause e (with_err err (g.D.Store.state c.args.store.now) (g.O.Sink.state c.args.out.now)) (with_err err (g.D.Store.state c.advance-reached.new.store) (g.O.Sink.state c.put_lines.new.out))) (sym c.fault_ending.ensures)
    (line-HasCause c.in-Err.fault c.put_lines.result (g.D.Store.state c.args.store.now) (g.D.Store.state c.advance-reached.new.store) (g.O.Sink.state c.args.out.now) (g.O.Sink.state c.put_lines.new.out) err c.in-Err.is c.put_lines.ensures.counts)
