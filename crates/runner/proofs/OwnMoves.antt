-- What a move of the own hart asks, and the run after it.
use Rattle.std.proofs.Common.{◌≡◌, ◌&&◌, not, Bool, true, false, Option, None, ap, sym, subst, ◌∙◌}
use Rattle.spec_base.specs.Layout.{stub_start}
use Rattle.spec_base.specs.declared.note.Move.TheVariants.{O}
use Rattle.rv_model.specs.Effect.{fetched}
use Rattle.program_model.specs.PlainRun.{plan_of}
use Rattle.code_model.specs.Stub.{stub}
use Rattle.run_model.specs.Run.{World, Run, RunEnd, Answer}
use Rattle.run_model.specs.Moves.{begun, step, step_unless}
use Rattle.run_model.specs.OwnMoves.{own_in, own_unless}
use Rattle.word_laws.specs.Shown.{is_performed}
use Rattle.plain_runner.specs.Runs.{Outside}
use Rattle.move_requests.specs.Asked.{Asked, Nothing, asks, asks_if, asks_unless, is_stub, performing_asks}
use Rattle.move_requests.specs.Hears.{Hears}
use Rattle.runner_parts.specs.Requests.{IsAnswered}
use Rattle.runner.specs.OwnGoes.{word_asks}

module _ (w : World) (r : Run) (on : r.end ≡ None) where
  asks-by : (stalled : Bool) → r.stalled ≡ stalled
      → asks w r O ≡ asks_if (not stalled && (is_stub r.view && is_performed (fetched stub stub_start r.own.pc))) (performing_asks r.own.memory (plan_of w.image.layout r.own))
  asks-by stalled e =
      ap (λ (o : Option RunEnd). asks_unless o w r O) on
      ∙ ap (λ (b : Bool). asks_if (not b && (is_stub r.view && is_performed (fetched stub stub_start r.own.pc))) (performing_asks r.own.memory (plan_of w.image.layout r.own))) e

  -- a hart that waits asks nothing
  pub stalled-asks : r.stalled ≡ true → asks w r O ≡ Nothing
  stalled-asks e = asks-by true e

  pub word-asks : r.stalled ≡ false → asks w r O ≡ word_asks w (begun r)
  word-asks e = asks-by false e

  step-by : (x : Answer) (stalled : Bool) → r.stalled ≡ stalled → step w r (O, x) ≡ own_unless stalled w x (begun r)
  step-by x stalled e = ap (λ (o : Option RunEnd). step_unless o w r (O, x)) on ∙ ap (λ (b : Bool). own_unless b w x (begun r)) e

  pub stalled-step : (x : Answer) → r.stalled ≡ true → step w r (O, x) ≡ begun r
  stalled-step x e = step-by x true e

  pub word-step : (x : Answer) → r.stalled ≡ false → step w r (O, x) ≡ own_in r.view w x (begun r)
  word-step x e = step-by x false e

-- what was asked so was answered so
pub answered-as : (w : World) (r : Run) (x : Answer) (o n : Outside) (asked : Asked) → asks w r O ≡ asked → IsAnswered asked x o n → Hears w r O x o n
answered-as w r x o n asked e h = by (subst (λ (k : Asked). IsAnswered k x o n) (sym e) h)
  where
    by : IsAnswered (asks w r O) x o n → Hears w r O x o n
    by k = record { may = k.may; store = k.store; out = k.out; err = k.err }
