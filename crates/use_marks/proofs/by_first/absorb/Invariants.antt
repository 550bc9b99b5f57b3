use Rattle.std.proofs.Common.{◌<◌, ◌^◌}
use Rattle.std.specs.BTreeMap as tree
use Rattle.std.specs.Ordering.{nat_cmp}
use Rattle.use_marks.specs.Ranges.{IsAbsorbing}
use Rattle.use_marks.proofs.by_first.absorb.Given as goal

-- the range has taken in others
abbrev pub invariant-loop-next : goal.invariant-loop-next
invariant-loop-next l =
    record {
      absorbs : IsAbsorbing (tree.get nat_cmp l.fn.ranges) (tree.get nat_cmp l.ranges) l.first l.last l.to;
      fits : l.to < 2 ^ 64;
    }

abbrev pub decreases-loop-next : goal.decreases-loop-next
decreases-loop-next l = tree.btree_map_len l.ranges
