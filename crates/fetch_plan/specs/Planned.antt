-- A plan that was made by the rule of the farthest next need.
use Rattle.std.specs.Prelude.{◌≡◌, ℕ, List}
use Rattle.fetch_plan.specs.declared.plan_made.Plan.{Plan}
use Rattle.fetch_plan.specs.Plans.{cost, plan_of, leaves}

-- the blocks leave by the rule, and the fetches are what that costs
pub record IsByRule (blocks : ℕ) (needs : List ℕ) (plan : Plan) : Type 0 where
  pub leave : plan.leave.items ≡ leaves blocks needs
  pub paid : plan.fetches ≡ cost (plan_of needs (leaves blocks needs))
