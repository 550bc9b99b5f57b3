-- Lists in which no block stands twice (this project's own).
use Rattle.std.specs.Prelude.{◌≡◌, false, true, List, [], ◌∷◌}
use Rattle.spec_base.specs.declared.spot.BlockSpot.{BlockSpot}
use Rattle.program_model.specs.Cache.{Cache, holds, is_demanded}

-- no block stands twice
abbrev pub AreApart : List BlockSpot → Type 0
AreApart [] = Unit {0}
AreApart (x ∷ xs) = (holds xs x ≡ false) × AreApart xs

-- no queued block stands twice, and no queued or demanded block is cached; nor is the demanded block queued
pub record IsOrderly (c : Cache) : Type 0 where
  pub queue : AreApart c.queue
  pub queued : (spot : BlockSpot) → holds c.queue spot ≡ true → holds c.cached spot ≡ false
  pub demanded : (spot : BlockSpot) → is_demanded c.demanded spot ≡ true → holds c.cached spot ≡ false
  pub apart : (spot : BlockSpot) → is_demanded c.demanded spot ≡ true → holds c.queue spot ≡ false
