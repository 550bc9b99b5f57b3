use Rattle.std.proofs.Common.{is_some, ap, ◌∙◌}
use Rattle.std.specs.BTreeSet as sorted
use Rattle.std.specs.Ordering.{nat_cmp}
use Rattle.fetch_plan.specs.Coming.{at_place}
use Rattle.fetch_plan.proofs.Keeping.{needed_told}
use Rattle.fetch_plan.proofs.Listing.{taken_is, Keeps-needed}
use Rattle.fetch_plan.proofs.held.Held.take_needed.Goals as goal

pub returns-clause-told : goal.returns-clause-told
returns-clause-told c = λ x needs held keeps.
    let old = c.args.self.now in
    let is = taken_is old.coming.items c.take_at.new.self.coming.items c.args.place c.take_at.result c.take_at.ensures.taken in
    c.is_some.ensures ∙ ap is_some is ∙ needed_told (at_place old.coming.items) (sorted.contains nat_cmp old.never) c.args.place x needs held keeps.kept

pub returns-clause-taken : goal.returns-clause-taken
returns-clause-taken c = λ x needs held keeps.
    let e = c.take_at.ensures in
    Keeps-needed c.args.self.now c.take_at.new.self c.args.place x needs held c.take_at.result keeps e.taken e.places e.never
