-- Lists of a cache that fit (this project's own).
use Rattle.std.specs.Prelude.{◌≡◌, ℕ, ◌≤◌, length, None}
use Rattle.program_model.specs.Cache.{Cache}
use Rattle.trace_replay.specs.Lists.{BoundedCache}
use Rattle.cache_queue.specs.Orders.{AreApart, IsOrderly}

-- no block stands twice in the lists, nothing is demanded, and at most so many blocks are cached
pub record IsFit (blocks : ℕ) (c : Cache) : Type 0 where
  pub order : IsOrderly c
  pub apart : AreApart c.cached
  pub few : length c.cached ≤ blocks
  pub idle : c.demanded ≡ None

-- the same of lists with their bounds, nothing being demanded; at least one block may be cached
abbrev pub IsFitted : BoundedCache → Type 0
IsFitted b = IsFit b.blocks b.cache × (1 ≤ b.blocks)
