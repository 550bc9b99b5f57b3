use Rattle.std.proofs.Common.{◌≡◌, length, true, sym, ◌∙◌, ap, subst, arith}
use Rattle.fetch_plan.specs.Plans.{is_plan, cost, plan_of}
use Rattle.fetch_plan.specs.Needs.{numbered}
use Rattle.fetch_plan.proofs.Noting.{length-numbered}
use Rattle.fetch_plan.proofs.traces.plan_trace.Goals as goal

pub plan-requires-clause-few : goal.plan-requires-clause-few
plan-requires-clause-few c =
    let ok = c.in-Ok.ensures.ok in
    omega (arith, ap length (c.deref.ensures.value ∙ ok.2), length-numbered ok.0, ok.3)

pub returns-clause-ok : goal.returns-clause-ok
returns-clause-ok c =
    let ok = c.in-Ok.ensures.ok in
    let spots = ok.0 in
    let blocks = c.args.blocks in
    let made = c.in-Ok-plan.made in
    let is : c.deref.result.now ≡ numbered spots = c.deref.ensures.value ∙ ok.2 in (
      spots,
      ok.1,
      record {
        needs = omega (arith, c.len.ensures, c.deref.ensures.len, ap length is, length-numbered spots);
        few = ok.3;
        plan = plan_of (numbered spots) made.leave.items;
        planned = subst (λ ns. is_plan blocks ns (plan_of ns made.leave.items) ≡ true) is c.in-Ok-plan.ensures.planned;
        costs = sym (subst (λ ns. made.fetches ≡ cost (plan_of ns made.leave.items)) is c.in-Ok-plan.ensures.cost);
        no_less = λ other planned. c.in-Ok-plan.ensures.least other (ap (λ ns. is_plan blocks ns other) is ∙ planned);
      },
    )
