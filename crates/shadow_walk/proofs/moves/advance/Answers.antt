use Rattle.std.proofs.Common.{sym, ap, subst, ◌∙◌}
use Rattle.spec_base.specs.declared.machine.View.{View}
use Rattle.hart_mem.specs.Held.{lacks_frame, pages_stored, space_of}
use Rattle.hart_step.specs.Core.{core_of}
use Rattle.hart_step.specs.Step.{Outcome, stepped, effect_here}
use Rattle.shadow_walk.specs.Shows.{MovesBy}
use Rattle.word_laws.proofs.ShadowSteps.{shadow_words_lead}
use Rattle.shadow_walk.proofs.Moved.{moves_by, never_starved, stays_in_view}
use Rattle.shadow_walk.proofs.moves.advance.Goals as goal

pub returns-clause-view : goal.returns-clause-view
returns-clause-view c =
    let h = core_of c.args.hart.now in
    let s = space_of c.args.mem.now in
    ap (λ (o : Outcome). o.core.view) c.step.ensures.outcome ∙ stays_in_view (lacks_frame h.view c.args.mem.now) h s c.requires.shadow

pub returns-clause-never_starved : goal.returns-clause-never_starved
returns-clause-never_starved c q =
    let h = core_of c.args.hart.now in
    let s = space_of c.args.mem.now in
    never_starved c.args.mem.now (effect_here h s) h s
    (ap (λ (v : View). (stepped (lacks_frame v c.args.mem.now) (effect_here h s) h s).event) (sym c.requires.shadow) ∙ sym (ap (λ (o : Outcome). o.event) c.step.ensures.outcome) ∙ q)

pub returns-clause-spare : goal.returns-clause-spare
returns-clause-spare c = c.step.ensures.kept (ap pages_stored c.requires.shadow)

pub returns-clause-goes : goal.returns-clause-goes
returns-clause-goes c w r accepted shows = shadow_words_lead w r accepted c.args.mem.now c.step.result (core_of c.args.hart.now) (space_of c.args.mem.now) (core_of c.step.new.hart) (space_of c.step.new.mem) shows c.step.ensures.outcome

pub returns-clause-moves : goal.returns-clause-moves
returns-clause-moves c w r accepted shows =
    let h = core_of c.args.hart.now in
    let s = space_of c.args.mem.now in
    subst (λ (o : Outcome). MovesBy o.event w r h s o.core o.space) (sym c.step.ensures.outcome) (moves_by w r accepted c.args.mem.now h s shows)
