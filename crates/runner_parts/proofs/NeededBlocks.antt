-- A block more is had, or is waited for.
use Rattle.std.proofs.Common.{◌≡◌, ℕ, suc, ◌+◌, ◌-◌, ◌<◌, ◌≤◌, Bool, true, false, ◌&&◌, nat_lt, List, ◌∷◌, sym, ap, ◌∙◌, arith}
use Rattle.std.proofs.lemmas.Bool.Decides.{nat_tests}
use Rattle.spec_base.specs.Files.{Name}
use Rattle.spec_base.specs.declared.spot.BlockSpot.{BlockSpot}
use Rattle.program_model.specs.Cache.{Cache, Gathered, blocks_up, gather, holds, needed}
use Rattle.run_model.specs.ShadowMoves.{all_held}
use Rattle.runner_parts.specs.Gathers.{gathered}

abbrev on : Bool → Cache → ℕ → BlockSpot → List BlockSpot → Gathered
on b c had spot rest = elim b [ true ↦ gather (needed c spot) (had + 1) rest | false ↦ record { cache = needed c spot; had = had; waits = true } ]

by-held : (b : Bool) (c : Cache) (had : ℕ) (spot : BlockSpot) (rest : List BlockSpot) → holds c.cached spot ≡ b → gather c had (spot ∷ rest) ≡ on b c had spot rest
unfolding gather
by-held b c had spot rest e = ap (λ (b : Bool). on b c had spot rest) e

module _ (c : Cache) (name : Name) (first i n : ℕ) (low : i < n) where
  abbrev spot : BlockSpot
  spot = record { name = name; block = first + i }

  next : blocks_up name (first + i) (n - i) ≡ spot ∷ blocks_up name (first + (i + 1)) (n - (i + 1))
  next =
      (let left : n - i ≡ suc (n - (i + 1)) = omega (arith, low) in
      let up : first + i + 1 ≡ first + (i + 1) = omega arith in
      ap (λ (k : ℕ). blocks_up name (first + i) k) left ∙ ap (λ (k : ℕ). spot ∷ blocks_up name k (n - (i + 1))) up)

  pub had-one : holds c.cached spot ≡ true → gather c i (blocks_up name (first + i) (n - i)) ≡ gather (needed c spot) (i + 1) (blocks_up name (first + (i + 1)) (n - (i + 1)))
  had-one e = ap (λ (b : List BlockSpot). gather c i b) next ∙ by-held true c i spot (blocks_up name (first + (i + 1)) (n - (i + 1))) e

  pub waits-one : holds c.cached spot ≡ false → gather c i (blocks_up name (first + i) (n - i)) ≡ gathered (needed c spot) i n
  waits-one e =
      ap (λ (b : List BlockSpot). gather c i b) next ∙ by-held false c i spot (blocks_up name (first + (i + 1)) (n - (i + 1))) e
      ∙ (let test : nat_lt i n ≡ true = grind (arith, nat_tests) in ap (λ (b : Bool). record (gathered (needed c spot) i n) { waits = b }) (sym test))

pub has-all : (c : Cache) (name : Name) (first i n : ℕ) → i ≡ n → gather c i (blocks_up name (first + i) (n - i)) ≡ gathered c n n
unfolding gather
has-all c name first i n e =
    (let none : n - i ≡ 0 = omega (arith, e) in
    let test : nat_lt n n ≡ false = grind (arith, nat_tests) in
    ap (λ (k : ℕ). gather c i (blocks_up name (first + i) k)) none ∙ (λ j. record { cache = c; had = e j; waits = sym test j }))

-- ---- blocks that are all cached, or not

module _ (cached : List BlockSpot) (name : Name) (first i n : ℕ) (low : i < n) where
  abbrev here : BlockSpot
  here = record { name = name; block = first + i }

  abbrev others : List BlockSpot
  others = blocks_up name (first + (i + 1)) (n - (i + 1))

  one-up : blocks_up name (first + i) (n - i) ≡ here ∷ others
  one-up =
      (let left : n - i ≡ suc (n - (i + 1)) = omega (arith, low) in
      let up : first + i + 1 ≡ first + (i + 1) = omega arith in
      ap (λ (k : ℕ). blocks_up name (first + i) k) left ∙ ap (λ (k : ℕ). here ∷ blocks_up name k (n - (i + 1))) up)

  -- a block is cached
  pub held-one : holds cached here ≡ true → all_held cached (blocks_up name (first + i) (n - i)) ≡ all_held cached others
  held-one e = ap (λ (b : List BlockSpot). all_held cached b) one-up ∙ ap (λ (t : Bool). t && all_held cached others) e

  -- or isn't
  pub misses-one : holds cached here ≡ false → all_held cached (blocks_up name (first + i) (n - i)) ≡ false
  misses-one e = ap (λ (b : List BlockSpot). all_held cached b) one-up ∙ ap (λ (t : Bool). t && all_held cached others) e

-- no block is left
pub held-none : (cached : List BlockSpot) (name : Name) (first i n : ℕ) → n ≤ i → all_held cached (blocks_up name (first + i) (n - i)) ≡ true
held-none cached name first i n past = (let none : n - i ≡ 0 = omega (arith, past) in ap (λ (k : ℕ). all_held cached (blocks_up name (first + i) k)) none)

-- none was read yet
pub from-first : (cached : List BlockSpot) (name : Name) (first n : ℕ) → all_held cached (blocks_up name (first + 0) (n - 0)) ≡ all_held cached (blocks_up name first n)
from-first cached name first n = (let place : first + 0 ≡ first = omega arith in let all : n - 0 ≡ n = omega arith in (λ i. all_held cached (blocks_up name (place i) (all i))))
