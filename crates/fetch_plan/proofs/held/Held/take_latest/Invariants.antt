use Rattle.std.proofs.Common.{◌≡◌}
use Rattle.std.specs.BinaryHeap.{heap_items, heap_len}
use Rattle.fetch_plan.specs.Tables.{AreListed}
use Rattle.fetch_plan.proofs.held.Held.take_latest.Given as goal

abbrev pub invariant-loop-place : goal.invariant-loop-place
invariant-loop-place l = record {
  coming : l.self.coming.items ≡ l.fn.self.coming.items;
  never : l.self.never ≡ l.fn.self.never;
  lists : AreListed l.fn.self.coming.items (heap_items l.fn.self.places) → AreListed l.fn.self.coming.items (heap_items l.self.places);
}

abbrev pub decreases-loop-place : goal.decreases-loop-place
decreases-loop-place l = heap_len l.self.places
