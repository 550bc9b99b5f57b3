use Rattle.std.proofs.Common.{◌≡◌, ℕ, ◌+◌, ◌<◌, ◌≤◌, length, drop, vec_len}
use Rattle.std.specs.Prelude.{slice_index, unwrap_or}
use Rattle.fetch_plan.specs.Plans.{distance}
use Rattle.fetch_plan.specs.NextNeeds.{next_of}
use Rattle.fetch_plan.proofs.places.next_places.Given as goal

abbrev pub invariant-loop-place : goal.invariant-loop-place
invariant-loop-place l = record {
  within : l.place ≤ length l.needs;
  size : vec_len l.places ≡ length l.needs;
  last : (q : ℕ) → unwrap_or (next_of l.last q) (length l.needs) ≡ l.place + distance (drop l.place l.needs) q;
  next : (k : ℕ) → l.place ≤ k → k < length l.needs → slice_index l.places.items k ≡ k + 1 + distance (drop (k + 1) l.needs) (slice_index l.needs k);
}

abbrev pub decreases-loop-place : goal.decreases-loop-place
decreases-loop-place l = l.place
