-- A stretch of equal moves.
use Rattle.std.proofs.Common.{◌≡◌, ℕ, zero, suc, ◌+◌, ◌-◌, ◌≤◌, ◌<◌, List, ◌∷◌, ◌++◌, length, ap, ◌∙◌, arith}
use Rattle.std.specs.Prelude.{replicate}
use Rattle.spec_base.specs.declared.note.Move.{Move}

-- the first of so many moves, and the others
pub first-of : (made count : ℕ) (m : Move) (left : List Move) → made < count → replicate (count - made) m ++ left ≡ m ∷ (replicate (count - (made + 1)) m ++ left)
first-of made count m left few = by_rest (count - made) (count - (made + 1)) (omega (arith, few))
  where
    by_rest : (a b : ℕ) → a ≡ suc b → replicate a m ++ left ≡ m ∷ (replicate b m ++ left)
    by_rest a b e = ap (λ n. replicate n m ++ left) e

pub none-left : (made count : ℕ) (m : Move) (left : List Move) → count ≤ made → replicate (count - made) m ++ left ≡ left
none-left made count m left all = ap (λ n. replicate n m ++ left) (let e : count - made ≡ 0 = omega (arith, all) in e)

-- all of them are to come at first
pub all-left : (count : ℕ) (m : Move) (left : List Move) → replicate (count - 0) m ++ left ≡ replicate count m ++ left
all-left count m left = ap (λ n. replicate n m ++ left) (let e : count - 0 ≡ count = omega arith in e)

pub stretch-length : (count : ℕ) (m : Move) (left : List Move) → length (replicate count m ++ left) ≡ count + length left
stretch-length zero m left = let e : length left ≡ 0 + length left = omega arith in e
stretch-length (suc count) m left = let e : suc (count + length left) ≡ suc count + length left = omega arith in ap suc (stretch-length count m left) ∙ e
