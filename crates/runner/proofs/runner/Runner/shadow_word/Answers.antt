use Rattle.std.proofs.Common.{◌<◌, refl, sym, ap, subst, ◌∙◌}
use Rattle.rv_model.specs.Effect.{after}
use Rattle.rv_model.specs.Registers.{with_reg}
use Rattle.program_model.specs.Calls.{key_of}
use Rattle.run_model.specs.Run.{Run}
use Rattle.run_model.specs.ShadowMoves.{arrived, word_counted, shadow_at, shadow_plan}
use Rattle.hart_mem.specs.Held.{space_of}
use Rattle.hart_step.specs.Core.{core_of}
use Rattle.hart_step.specs.declared.event.Event.TheVariants as event
use Rattle.word_laws.specs.Shown.{with_shadow}
use Rattle.runner_parts.specs.Counts.{Counted}
use Rattle.runner.specs.ShadowGoes.{StepsTo}
use Rattle.runner.specs.Shows.{Shows}
use Rattle.runner.proofs.ShadowSteps.{made-by, no_other_word}
use Rattle.runner.proofs.runner.Runner.shadow_word.Goals as goal

pub end_word-requires : goal.end_word-requires
end_word-requires c = record { since = subst (λ (k : Counted). k.shadow_since < k.moves) (sym c.step_shadow.ensures.kept.0) c.requires.since }

pub end_word-requires-in-Key : goal.end_word-requires-in-Key
end_word-requires-in-Key c = record { since = subst (λ (k : Counted). k.shadow_since < k.moves) (sym (c.key.ensures.counts ∙ c.step_shadow.ensures.kept.0)) c.requires.since }

pub returns-in-Done-clause-word : goal.returns-in-Done-clause-word
returns-in-Done-clause-word c w r a h running =
    let to : StepsTo event.Done c.step_shadow.new.self w r = c.in-Done.ensures.steps w r a h running in
    made-by c.end_word.new.self w r _ to.goes.calls to.goes.leads (c.end_word.ensures.shows w _ to.shows)

pub returns-in-Park-clause-word : goal.returns-in-Park-clause-word
returns-in-Park-clause-word c w r a h running =
    let to : StepsTo (event.Park c.in-Park.cause) c.step_shadow.new.self w r = c.in-Park.ensures.steps w r a h running in
    made-by c.park_word.new.self w r _ to.goes.calls to.goes.leads (c.park_word.ensures.shows w _ to.shows)

pub returns-in-Trap-clause-word : goal.returns-in-Trap-clause-word
returns-in-Trap-clause-word c w r a h running =
    let to : StepsTo (event.Trap c.in-Trap.field-0) c.step_shadow.new.self w r = c.in-Trap.ensures.steps w r a h running in
    made-by c.park_word-in-Trap.new.self w r _ to.goes.calls to.goes.leads (c.park_word-in-Trap.ensures.shows w _ to.shows)

pub returns-in-Key-clause-word : goal.returns-in-Key-clause-word
returns-in-Key-clause-word c w r a h running =
    let to : StepsTo (event.Key c.in-Key.rd) c.step_shadow.new.self w r = c.in-Key.ensures.steps w r a h running in
    let next : Run = with_shadow r (core_of c.step_shadow.new.self.shadow) (space_of c.step_shadow.new.self.mem) in
    made-by c.end_word-in-Key.new.self w r _ to.goes.calls
    (λ x. to.goes.leads.moves x ∙ ap (λ (k : Run). word_counted (arrived w.image.layout (shadow_at k (with_reg k.shadow.registers c.in-Key.rd (key_of (shadow_plan w k))) (after k.shadow.pc)))) (sym to.goes.leads.same))
    (c.end_word-in-Key.ensures.shows w _ (c.key.ensures.shows w next to.shows))

pub returns-in-Call-clause-word : goal.returns-in-Call-clause-word
returns-in-Call-clause-word c w r a h running =
    let to : StepsTo (event.Call c.in-Call.unhinted) c.step_shadow.new.self w r = c.in-Call.ensures.steps w r a h running in
    record { meets = to.goes.leads; shows = subst (λ (k : Run). Shows c.step_shadow.new.self w k) to.goes.leads.same to.shows }

pub returns-in-Done-clause-moves : goal.returns-in-Done-clause-moves
returns-in-Done-clause-moves c = c.end_word.ensures.moves ∙ ap (λ (k : Counted). k.moves) c.step_shadow.ensures.kept.0

pub returns-in-Park-clause-moves : goal.returns-in-Park-clause-moves
returns-in-Park-clause-moves c = c.park_word.ensures.moves ∙ ap (λ (k : Counted). k.moves) c.step_shadow.ensures.kept.0

pub returns-in-Key-clause-moves : goal.returns-in-Key-clause-moves
returns-in-Key-clause-moves c = c.end_word-in-Key.ensures.moves ∙ ap (λ (k : Counted). k.moves) (c.key.ensures.counts ∙ c.step_shadow.ensures.kept.0)

pub returns-in-Call-clause-moves : goal.returns-in-Call-clause-moves
returns-in-Call-clause-moves c = ap (λ (k : Counted). k.moves) c.step_shadow.ensures.kept.0

pub returns-in-Trap-clause-moves : goal.returns-in-Trap-clause-moves
returns-in-Trap-clause-moves c = c.park_word-in-Trap.ensures.moves ∙ ap (λ (k : Counted). k.moves) c.step_shadow.ensures.kept.0

pub returns-in-Done-clause-kept : goal.returns-in-Done-clause-kept
returns-in-Done-clause-kept c call = absurd (call refl)

pub returns-in-Park-clause-kept : goal.returns-in-Park-clause-kept
returns-in-Park-clause-kept c call = absurd (call refl)

pub returns-in-Key-clause-kept : goal.returns-in-Key-clause-kept
returns-in-Key-clause-kept c call = absurd (call refl)

pub returns-in-Call-clause-kept : goal.returns-in-Call-clause-kept
returns-in-Call-clause-kept c call = c.step_shadow.ensures.kept

pub returns-in-Trap-clause-kept : goal.returns-in-Trap-clause-kept
returns-in-Trap-clause-kept c call = absurd (call refl)

pub returns-in-Done-clause-end : goal.returns-in-Done-clause-end
returns-in-Done-clause-end c = c.end_word.ensures.end ∙ c.step_shadow.ensures.end

pub returns-in-Park-clause-end : goal.returns-in-Park-clause-end
returns-in-Park-clause-end c = c.park_word.ensures.end ∙ c.step_shadow.ensures.end

pub returns-in-Key-clause-end : goal.returns-in-Key-clause-end
returns-in-Key-clause-end c = c.end_word-in-Key.ensures.end ∙ c.key.ensures.end ∙ c.step_shadow.ensures.end

pub returns-in-Call-clause-end : goal.returns-in-Call-clause-end
returns-in-Call-clause-end c = c.step_shadow.ensures.end

pub returns-in-Trap-clause-end : goal.returns-in-Trap-clause-end
returns-in-Trap-clause-end c = c.park_word-in-Trap.ensures.end ∙ c.step_shadow.ensures.end

pub returns-in_default : goal.returns-in_default
returns-in_default c =
    record {
      word = λ w r a h running. absurd
          (no_other_word w r _ _ c.step_shadow.result c.in_default.not-Done c.in_default.not-Park c.in_default.not-Key c.in_default.not-Call c.in_default.not-Trap
          (c.step_shadow.ensures.steps w r a h running).goes.leads);
      moves = ap (λ (k : Counted). k.moves) c.step_shadow.ensures.kept.0;
      kept = λ call. absurd (call refl);
      end = c.step_shadow.ensures.end;
    }
