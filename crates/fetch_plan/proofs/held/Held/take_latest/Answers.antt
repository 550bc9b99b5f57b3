use Rattle.std.proofs.Common.{◌≡◌, sym, ◌∙◌, ap, subst, arith}
use Rattle.std.proofs.lemmas.Grind.{common_steps}
use Rattle.std.specs.BTreeSet as sorted
use Rattle.std.specs.BinaryHeap.{heap_items}
use Rattle.std.specs.Ordering.{nat_cmp}
use Rattle.fetch_plan.specs.Coming.{at_place}
use Rattle.fetch_plan.specs.Tables.{AreListed}
use Rattle.fetch_plan.proofs.Keeping.{none_held}
use Rattle.fetch_plan.proofs.Listing.{AreListed-popped, none_listed, none_taken, Keeps-latest}
use Rattle.fetch_plan.proofs.held.Held.take_latest.Goals as goal

pub returns-then-is_some : goal.returns-then-is_some
returns-then-is_some c = λ place needs held keeps coming.
    let inv = c.loop-place.invariant in
    let places = heap_items c.loop-place.self.places in
    let lists = inv.lists keeps.lists in
    let pops = c.in-Some.ensures.heap_order lists.heap in
    let e = c.take_at-block.ensures in
    Keeps-latest c.args.self.now c.take_at-block.new.self c.loop-place.self.coming.items places (heap_items c.pop.new.self) c.in-Some.place place needs held
    c.take_at-block.result keeps coming inv.coming lists pops.1 c.in-Some.ensures.permutation pops.0 e.taken (ap heap_items e.places) (e.never ∙ inv.never)
    (sym c.is_some.ensures ∙ c.if-is_some.true)

pub loop-place-preserved : goal.loop-place-preserved
loop-place-preserved c =
    let inv = c.loop-place.invariant in
    let e = c.take_at-block.ensures in
    let k = c.in-Some.place in
    let items = c.args.self.now.coming.items in
    let none = none_taken c.loop-place.self.coming.items c.take_at-block.new.self.coming.items k c.take_at-block.result (sym c.is_some.ensures ∙ c.if-is_some.false) e.taken in
    record {
      coming = none.1 ∙ inv.coming;
      never = e.never ∙ inv.never;
      lists = λ first.
          let lists = inv.lists first in
          subst (λ p. AreListed items (heap_items p)) (sym e.places)
          (AreListed-popped items (heap_items c.loop-place.self.places) (heap_items c.pop.new.self) k lists (ap (λ l. at_place l k) (sym inv.coming) ∙ none.0)
          c.in-Some.ensures.permutation (c.in-Some.ensures.heap_order lists.heap).0);
    }

pub returns : goal.returns
returns c = λ place needs held keeps coming.
    let lists = c.loop-place.invariant.lists keeps.lists in
    let empty : c.loop-place.self.places.data.len ≡ 0 = grind (arith, common_steps, c.in_default.is, c.in_default.ensures, c.pop.ensures) in
    none_held (at_place c.args.self.now.coming.items) (sorted.contains nat_cmp c.args.self.now.never) place needs held keeps.kept coming
    (none_listed c.args.self.now.coming.items (heap_items c.loop-place.self.places) lists (sym c.loop-place.self.places.data.ok.0 ∙ empty))
