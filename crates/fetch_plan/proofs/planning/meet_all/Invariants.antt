use Rattle.std.proofs.Common.{◌≡◌, ℕ, ◌≤◌, List, drop}
use Rattle.fetch_plan.proofs.Progress.{Progress}
use Rattle.fetch_plan.proofs.planning.meet_all.Given as goal

abbrev pub invariant-loop-place : goal.invariant-loop-place
invariant-loop-place l = record {
  blocks : l.held.blocks ≡ l.blocks;
  few : l.fetches ≤ l.place;
  so_far : (held : List ℕ) × Progress l.blocks l.needs l.held l.place l.leave.items l.fetches (drop l.place l.needs) held;
}
