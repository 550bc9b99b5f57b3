use Rattle.std.proofs.Common.{◌≡◌, ℕ, ◌≤◌, true, List, sym, ap, ◌∙◌, arith, refl}
use Rattle.std.proofs.lemmas.Result.{IfOk-weaker}
use Rattle.fetch_plan.specs.declared.plan_made.Plan.{Plan}
use Rattle.fetch_plan.specs.Plans.{is_plan, cost, plan_of, leaves}
use Rattle.fetch_plan.specs.Planned.{IsByRule}
use Rattle.fetch_plan.proofs.Bound.{least, is_plan-least}
use Rattle.fetch_plan.proofs.planning.plan.Goals as goal

module _ (blocks : ℕ) (needs : List ℕ) (some : 1 ≤ blocks) (plan : Plan) (by : IsByRule blocks needs plan) where
  -- the plan of the blocks that leave
  same : plan_of needs (leaves blocks needs) ≡ plan_of needs plan.leave.items
  same = ap (plan_of needs) (sym by.leave)

  planned : is_plan blocks needs (plan_of needs plan.leave.items) ≡ true
  planned = ap (is_plan blocks needs) (sym same) ∙ is_plan-least blocks needs some

  costs : plan.fetches ≡ cost (plan_of needs plan.leave.items)
  costs = by.paid ∙ ap cost same

  no_more : (other : List (List ℕ)) → is_plan blocks needs other ≡ true → plan.fetches ≤ cost other
  no_more other is = omega (arith, by.paid, least blocks needs other some is)

pub returns-clause-leave : goal.returns-clause-leave
returns-clause-leave c =
    IfOk-weaker c.meet_all.result (IsByRule c.args.blocks c.args.needs.now) _
    (λ plan by. by.leave)
    c.meet_all.ensures

pub returns-clause-planned : goal.returns-clause-planned
returns-clause-planned c =
    IfOk-weaker c.meet_all.result (IsByRule c.args.blocks c.args.needs.now) _
    (planned c.args.blocks c.args.needs.now c.requires.blocks)
    c.meet_all.ensures

pub returns-clause-cost : goal.returns-clause-cost
returns-clause-cost c =
    IfOk-weaker c.meet_all.result (IsByRule c.args.blocks c.args.needs.now) _
    (costs c.args.blocks c.args.needs.now c.requires.blocks)
    c.meet_all.ensures

pub returns-clause-least : goal.returns-clause-least
returns-clause-least c =
    IfOk-weaker c.meet_all.result (IsByRule c.args.blocks c.args.needs.now) _
    (no_more c.args.blocks c.args.needs.now c.requires.blocks)
    c.meet_all.ensures
