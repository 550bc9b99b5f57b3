use Rattle.std.proofs.Common.{ℕ, ◌≡◌, ◌<◌, ◌⊎◌}
use Rattle.std.specs.BTreeMap as tree
use Rattle.std.specs.Ordering.{nat_cmp}
use Rattle.use_marks.proofs.by_first.rid.Given as goal

-- what begins elsewhere is as before
abbrev pub invariant-loop-next : goal.invariant-loop-next
invariant-loop-next l = (q : ℕ) → (q < l.first) ⊎ (l.last < q) → tree.get nat_cmp l.ranges q ≡ tree.get nat_cmp l.fn.ranges q

abbrev pub decreases-loop-next : goal.decreases-loop-next
decreases-loop-next l = tree.btree_map_len l.ranges
