use Rattle.std.proofs.Common.{sym}
use Rattle.runner.proofs.ShadowSteps.{assumes-as}
use Rattle.runner.proofs.runner.Runner.shadow_call.Goals as goal

pub returns-clause-assumes : goal.returns-clause-assumes
returns-clause-assumes g c =
    let a = c.assume.ensures.assumes in
    assumes-as _ _ c.args.unhinted _ _ _ _ (sym c.plan_of_shadow-plan.ensures.plan)
    (record {
      files = a.files;
      answer = a.answer;
      said = a.said;
      told = a.told;
      hears = a.hears;
      shows = λ w r h.
          a.shows w r (record { space = h.space; own = h.own; shadow = h.shadow; sizes = h.sizes; cache = h.cache; counts = h.counts; ahead = h.ahead; whole = h.whole; end = h.end; notes = h.notes; text = h.text });
    })
