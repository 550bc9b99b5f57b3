-- A row of needs, computed.
use Rattle.std.proofs.Common.{◌≡◌, ℕ, true, List, [], ◌∷◌, Some, None, refl}
use Rattle.fetch_plan.specs.Plans.{is_plan, cost, plan_of, leaves}

abbrev row : List ℕ
row = 0 ∷ 1 ∷ 2 ∷ 0 ∷ 1 ∷ []

one_block : cost (plan_of row (leaves 1 row)) ≡ 5
one_block = refl

two_blocks : cost (plan_of row (leaves 2 row)) ≡ 4
two_blocks = refl

three_blocks : cost (plan_of row (leaves 3 row)) ≡ 3
three_blocks = refl

leaves_two : leaves 2 row ≡ None ∷ None ∷ Some 1 ∷ None ∷ Some 0 ∷ []
leaves_two = refl

is_two : is_plan 2 row (plan_of row (leaves 2 row)) ≡ true
is_two = refl
