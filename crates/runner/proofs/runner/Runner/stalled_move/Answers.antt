use Rattle.std.proofs.Common.{◌≡◌, true, false, [], None, refl, sym, ◌∙◌}
use Rattle.spec_base.specs.declared.note.Move.TheVariants.{T}
use Rattle.run_model.specs.Run.{Usual}
use Rattle.run_model.specs.Moves.{begun}
use Rattle.runner_parts.proofs.Idle.{step-idle}
use Rattle.runner.proofs.Hearing.{nothing-told, store-silent}
use Rattle.runner.proofs.Moved.{shows-as, still-none}
use Rattle.runner.proofs.ShadowSteps.{asks-waiting, asks-free, step-waiting, idle-free, answers-as}
use Rattle.runner.proofs.runner.Runner.stalled_move.Goals as goal

pub returns-then-not-self-clause-makes : goal.returns-then-not-self-clause-makes
returns-then-not-self-clause-makes g c =
    record {
      files = refl;
      answer = Usual;
      said = [];
      told = nothing-told _;
      hears = λ w r a h.
          let goes : r.end ≡ None = still-none r.end (sym h.end ∙ c.requires.on) in
          let free : r.stalled ≡ false = sym h.own.stalled_is ∙ c.if-not-self.true in
          answers-as _ _ Usual _ _ (asks-free w r goes free) (store-silent _);
      shows = λ w r a h ok said.
          let goes : r.end ≡ None = still-none r.end (sym h.end ∙ c.requires.on) in
          let free : r.stalled ≡ false = sym h.own.stalled_is ∙ c.if-not-self.true in
          shows-as _ w _ (begun r) (step-idle w r (T, Usual) goes (idle-free w r goes free)) (c.begin.ensures.shows w r h);
    }

pub returns-clause-makes : goal.returns-clause-makes
returns-clause-makes g c =
    let m = c.shadow_move.ensures.makes in
    record {
      files = m.files;
      answer = m.answer;
      said = m.said;
      told = m.told;
      hears = λ w r a h.
          let goes : r.end ≡ None = still-none r.end (sym h.end ∙ c.requires.on) in
          let waits : r.stalled ≡ true = sym h.own.stalled_is ∙ c.if-not-self.false in
          answers-as _ _ m.answer _ _ (asks-waiting w r goes waits) (m.hears w r a h);
      shows = λ w r a h ok said.
          let goes : r.end ≡ None = still-none r.end (sym h.end ∙ c.requires.on) in
          let waits : r.stalled ≡ true = sym h.own.stalled_is ∙ c.if-not-self.false in
          shows-as _ w _ _ (step-waiting w r goes m.answer waits) (m.shows w r a h ok said);
    }
