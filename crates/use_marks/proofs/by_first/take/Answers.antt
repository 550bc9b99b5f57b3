use Rattle.std.specs.BTreeMap as tree
use Rattle.std.specs.Ordering.{nat_cmp}
use Rattle.use_marks.proofs.Spans.{taken-kept, taken-takes}
use Rattle.use_marks.proofs.by_first.take.Goals as goal

pub returns-clause-kept : goal.returns-clause-kept
returns-clause-kept c =
    taken-kept (tree.get nat_cmp c.args.ranges.now) (tree.get nat_cmp c.split.new.ranges) (tree.get nat_cmp c.rid.new.ranges) (tree.get nat_cmp c.cut.new.ranges) c.args.first c.args.last c.requires.forward c.requires.kept c.in_ok-split.ensures.ok c.rid.ensures.rid c.cut.ensures.cut

pub returns-clause-takes : goal.returns-clause-takes
returns-clause-takes c =
    taken-takes (tree.get nat_cmp c.args.ranges.now) (tree.get nat_cmp c.split.new.ranges) (tree.get nat_cmp c.rid.new.ranges) (tree.get nat_cmp c.cut.new.ranges) c.args.first c.args.last c.requires.forward c.requires.kept c.in_ok-split.ensures.ok c.rid.ensures.rid c.cut.ensures.cut
