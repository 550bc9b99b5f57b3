-- The blocks that are held, by their next need: what the tables of `Held` say of them.
use Rattle.std.specs.Prelude.{◌≡◌, ℕ, ◌+◌, ◌<◌, ◌≤◌, Bool, true, not, ◌&&◌, ◌||◌, ◌==◌, List, length, Option, Some}
use Rattle.fetch_plan.specs.Plans.{distance}

-- `coming` has each held block that is needed again at the place of its next need, and nothing else; `never` has the others
pub record IsKept (coming : ℕ → Option ℕ) (never : ℕ → Bool) (place : ℕ) (needs : List ℕ) (held : ℕ → Bool) : Type 0 where
  pub coming_held : (q b : ℕ) → coming q ≡ Some b → held b ≡ true
  pub coming_place : (q b : ℕ) → coming q ≡ Some b → q ≡ place + distance needs b
  pub coming_within : (q b : ℕ) → coming q ≡ Some b → distance needs b < length needs
  pub held_comes : (b : ℕ) → held b ≡ true → distance needs b < length needs → coming (place + distance needs b) ≡ Some b
  pub never_held : (b : ℕ) → never b ≡ true → held b ≡ true
  pub never_within : (b : ℕ) → never b ≡ true → distance needs b ≡ length needs
  pub held_never : (b : ℕ) → held b ≡ true → distance needs b ≡ length needs → never b ≡ true

-- of the held blocks none is needed later than the block, and none with a lower number as late
pub record GoesFirst (needs : List ℕ) (held : ℕ → Bool) (block : ℕ) : Type 0 where
  pub is_held : held block ≡ true
  pub latest : (c : ℕ) → held c ≡ true → distance needs c ≤ distance needs block
  pub lowest : (c : ℕ) → held c ≡ true → distance needs c ≡ distance needs block → block ≤ c

-- the blocks without one
abbrev pub except : (ℕ → Bool) → ℕ → ℕ → Bool
except held block b = held b && not (block == b)

-- the blocks and one more
abbrev pub also : (ℕ → Bool) → ℕ → ℕ → Bool
also held block b = block == b || held b
