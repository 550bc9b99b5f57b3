-- The first needs are met, and what the rest will come to.
use Rattle.std.proofs.Common.{◌≡◌, ℕ, ◌+◌, ◌≤◌, not, List, [], ◌∷◌, ◌++◌, Option, refl, sym, ◌∙◌, ap, subst, arith, append_assoc, append-nil}
use Rattle.fetch_plan.specs.declared.occupied.Occupied.{Occupied}
use Rattle.fetch_plan.specs.declared.occupied.Met.{Met}
use Rattle.fetch_plan.specs.Plans.{has, one, new_count, leaving, leaves_from, leaves, after, cost_from, cost, plan_from, plan_of}
use Rattle.fetch_plan.specs.Occupied.{Holds, IsMet}
use Rattle.fetch_plan.proofs.Bound.{next-cost}

module _ (blocks : ℕ) (needs : List ℕ) where
  -- what the rest costs
  abbrev pub rest_cost : List ℕ → List ℕ → ℕ
  rest_cost held rest = cost_from held (plan_from held rest (leaves_from blocks held rest))

  pub record Progress (o : Occupied) (place : ℕ) (leave : List (Option ℕ)) (fetches : ℕ) (rest held : List ℕ) : Type 0 where
    pub holds : Holds o place rest held
    pub left : leave ++ leaves_from blocks held rest ≡ leaves blocks needs
    pub paid : fetches + rest_cost held rest ≡ cost (plan_of needs (leaves blocks needs))

  pub progress_starts : (o : Occupied) → Holds o 0 needs [] → Progress o 0 [] 0 needs []
  progress_starts o holds = record { holds = holds; left = refl; paid = omega arith }

  pub progress_goes_on : (o new : Occupied) (place : ℕ) (leave : List (Option ℕ)) (fetches x : ℕ) (rest held : List ℕ) (met : Met) → o.blocks ≡ blocks → Progress o place leave fetches (x ∷ rest) held → IsMet o new place x rest held met → Progress new (place + 1) (leave ++ met.leaves ∷ []) (fetches + one met.fetched) rest (after held x (leaving blocks held x rest))
  progress_goes_on o new place leave fetches x rest held met same p is =
      let next = after held x (leaving blocks held x rest) in
      let choice : met.leaves ≡ leaving blocks held x rest = is.leaves ∙ ap (λ n. leaving n held x rest) same in
      let some : 1 ≤ blocks = omega (arith, p.holds.some) in
      let dear = next-cost blocks rest held x some p.holds.differ in
      let f : one met.fetched ≡ one (not (has held x)) = ap one is.fetched in
      let paid : fetches + (new_count held next + rest_cost next rest) ≡ cost (plan_of needs (leaves blocks needs)) = p.paid in
      record {
        holds = subst (λ n. Holds new (place + 1) rest (after held x (leaving n held x rest))) same is.holds;
        left =
            append_assoc leave (met.leaves ∷ []) (leaves_from blocks next rest)
            ∙ ap (λ l. leave ++ l ∷ leaves_from blocks next rest) choice
            ∙ p.left;
        paid = omega arith;
      }

  pub progress_ends_leave : (o : Occupied) (place : ℕ) (leave : List (Option ℕ)) (fetches : ℕ) (held : List ℕ) → Progress o place leave fetches [] held → leave ≡ leaves blocks needs
  progress_ends_leave o place leave fetches held p = sym (append-nil leave) ∙ p.left

  pub progress_ends_paid : (o : Occupied) (place : ℕ) (leave : List (Option ℕ)) (fetches : ℕ) (held : List ℕ) → Progress o place leave fetches [] held → fetches ≡ cost (plan_of needs (leaves blocks needs))
  progress_ends_paid o place leave fetches held p = omega (arith, p.paid)
