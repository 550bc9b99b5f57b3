-- What the tables of the held blocks say of them.
use Rattle.std.specs.Prelude.{◌≡◌, ℕ, ◌+◌, Bool, false, List, length, Option, Some, Contains}
use Rattle.std.specs.BTreeSet as sorted
use Rattle.std.specs.BinaryHeap.{heap_items, IsHeap}
use Rattle.std.specs.Ordering.{nat_cmp}
use Rattle.fetch_plan.specs.declared.held.Held.{Held}
use Rattle.fetch_plan.specs.Kept.{IsKept}
use Rattle.fetch_plan.specs.Coming.{at_place}

-- each place with a block is in a heap
pub record AreListed (coming : List (Option ℕ)) (places : List ℕ) : Type 0 where
  pub listed : (q b : ℕ) → at_place coming q ≡ Some b → Contains places q
  pub heap : IsHeap nat_cmp places

-- the tables have these blocks before these needs, of which the first has this place
pub record Keeps (h : Held) (place : ℕ) (needs : List ℕ) (held : ℕ → Bool) : Type 0 where
  pub kept : IsKept (at_place h.coming.items) (sorted.contains nat_cmp h.never) place needs held
  pub lists : AreListed h.coming.items (heap_items h.places)
  pub whole : length h.coming.items ≡ place + length needs

-- each held block is needed again
abbrev pub AreComing : Held → Type 0
AreComing h = (b : ℕ) → sorted.contains nat_cmp h.never b ≡ false
