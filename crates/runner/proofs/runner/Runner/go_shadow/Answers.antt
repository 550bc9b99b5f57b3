use Rattle.std.proofs.Common.{rules, ◌≡◌, ℕ, ◌+◌, ◌≤◌, refl, sym, subst, ◌∙◌, arith}
use Rattle.run_model.specs.Moves.{run_from}
use Rattle.runner.specs.Stretches.{shadow_moves, MakesShadowWords}
use Rattle.runner.proofs.Ahead.{none-MakesShadowWords, more-MakesShadowWords, ended-stops}
use Rattle.runner.proofs.runner.Runner.go_shadow.Goals.{then-made-eq0, else-made-eq0}
use Rattle.runner.proofs.runner.Runner.go_shadow.Goals as goal

pub returns-then-is_some-clause-makes : goal.returns-then-is_some-clause-makes
returns-then-is_some-clause-makes c w r a h = none-MakesShadowWords c.args.self.now w r h

pub returns-then-is_some-clause-stops : goal.returns-then-is_some-clause-stops
unfolding run_from
returns-then-is_some-clause-stops c few w r a h = ended-stops c.args.self.now w r h (sym c.is_some.ensures ∙ c.if-is_some.true)

pub loop-made-init : goal.loop-made-init
loop-made-init c =
    record {
      most = omega arith;
      on = search rules;
      end = refl;
      counted = λ some. absurd (some refl);
      moves = omega arith;
      makes = λ w r a h. none-MakesShadowWords c.args.self.now w r h;
    }

pub returns-then-words-eq0-clause-makes : goal.returns-then-words-eq0-clause-makes
returns-then-words-eq0-clause-makes c w r a h =
    let before = c.loop-made.invariant.makes w r a h in
    let all = more-MakesShadowWords c.loop-made.made c.stretch_ahead-words.result c.loop-made.self c.stretch_ahead-words.new.self w r before
    (c.stretch_ahead-words.ensures.makes w (run_from w r (shadow_moves c.loop-made.made)) a before.shows) in
    let same : c.loop-made.made + c.stretch_ahead-words.result ≡ c.loop-made.made = omega (arith, c.if-words-eq0.true) in
    subst (λ (n : ℕ). MakesShadowWords n c.stretch_ahead-words.new.self w r) same all

pub loop-made-preserved : goal.loop-made-preserved
loop-made-preserved c =
    let few : c.loop-made.made + c.if-made-eq0.few ≤ c.args.most =
    elim c.if-made-eq0.branch [
      | then-made-eq0 w ↦ omega (arith, w.few-is, w.if-made-eq0.true, c.loop-made-test.true)
      | else-made-eq0 w ↦ omega (arith, w.few-is, c.loop-made-test.true)
    ] in
    record {
      most = omega (arith, few, c.stretch_ahead-words.ensures.most);
      on = c.stretch_ahead-words.ensures.end ∙ c.loop-made.invariant.on;
      end = c.stretch_ahead-words.ensures.end ∙ c.loop-made.invariant.end;
      counted = λ some. c.stretch_ahead-words.ensures.counted c.if-words-eq0.false;
      moves = omega (arith, c.stretch_ahead-words.ensures.moves, c.loop-made.invariant.moves);
      makes = λ w r a h. (
          let before = c.loop-made.invariant.makes w r a h in
          more-MakesShadowWords c.loop-made.made c.stretch_ahead-words.result c.loop-made.self c.stretch_ahead-words.new.self w r before
          (c.stretch_ahead-words.ensures.makes w (run_from w r (shadow_moves c.loop-made.made)) a before.shows));
    }
