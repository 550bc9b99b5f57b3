use Rattle.std.proofs.Common.{◌+◌, arith}
use Rattle.std.specs.BTreeSet as sorted
use Rattle.std.specs.Ordering.{nat_cmp}
use Rattle.fetch_plan.specs.Plans.{has, leaving, after}
use Rattle.fetch_plan.specs.Kept.{except}
use Rattle.fetch_plan.specs.Coming.{at_place}
use Rattle.fetch_plan.proofs.Bound.{next-has, next-differ, next-length}
use Rattle.fetch_plan.proofs.Meeting.{kept-put, except-self}
use Rattle.fetch_plan.proofs.occupied.Occupied.meet.Goals as goal

pub returns-clause-met : goal.returns-clause-met
returns-clause-met c = λ needs held holds next.
    let blocks = c.args.self.now.blocks in
    let block = c.args.block in
    let place = c.args.place + 1 in
    let now = after held block (leaving blocks held block needs) in
    let ready = c.make_room-met.ensures.ready block needs held holds in
    let put = c.in_ok-put.ensures place needs (except (has now) block) ready.kept (except-self (has now) block) next in
    let tables = c.put.new.self in
    record {
      leaves = ready.leaves;
      fetched = ready.fetched;
      holds = record {
        kept = record {
          kept = kept-put (at_place tables.coming.items) (sorted.contains nat_cmp tables.never) place block needs now (next-has blocks needs held block holds.some holds.differ) put.kept;
          lists = put.lists;
          whole = put.whole;
        };
        count = ready.count;
        few = omega (arith, next-length blocks needs held block holds.some holds.differ holds.few, c.make_room-met.ensures.blocks);
        some = omega (arith, holds.some, c.make_room-met.ensures.blocks);
        differ = next-differ blocks needs held block holds.some holds.differ;
      };
    }
