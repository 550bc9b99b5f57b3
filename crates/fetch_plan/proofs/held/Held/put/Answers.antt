use Rattle.std.proofs.Common.{◌≡◌, ◌≢◌, ℕ, ◌<◌, ◌≤◌, List, length, Option, Some, None, slice_set, ap, ◌∙◌, arith}
use Rattle.std.specs.BTreeSet as sorted
use Rattle.std.specs.BinaryHeap.{heap_items}
use Rattle.std.specs.Ordering.{nat_cmp}
use Rattle.std.proofs.lemmas.List.{get_or-set_same, get_or-set_other, length-set}
use Rattle.fetch_plan.specs.Plans.{distance}
use Rattle.fetch_plan.specs.Coming.{at_place}
use Rattle.fetch_plan.proofs.Keeping.{keys_apart, IsKept-put_coming, IsKept-put_never, distance-one}
use Rattle.fetch_plan.proofs.Listing.{AreListed-put}
use Rattle.fetch_plan.proofs.held.Held.put.Goals as goal

pub returns-in_ok-push : goal.returns-in_ok-push
returns-in_ok-push c = λ place needs held keeps absent at.
    let old = c.args.self.now in
    let items = old.coming.items in
    let f = at_place items in
    let n = sorted.contains nat_cmp old.never in
    let k = c.args.next in
    let x = c.args.block in
    let e = c.in_ok-push.ensures in
    let in_table : k < length items = omega (arith, c.if-next-len.true, c.len.ensures) in
    let few : distance needs x < length needs = omega (arith, keeps.whole) in
    let new : List (Option ℕ) = slice_set items k (Some x) in
    let is : at_place new k ≡ Some x = get_or-set_same items k (Some x) None in_table in
    let others = λ (q : ℕ) (ne : q ≢ k). get_or-set_other items k q (Some x) None ne in
    record {
      kept =
          IsKept-put_coming f n place needs held keeps.kept x absent (at_place new) k at few is others
          (λ b on d. let same = distance-one needs b x d (omega arith) in let h = ap held same in cc);
      lists = AreListed-put items new (heap_items old.places) (heap_items c.push.new.self) k keeps.lists others e.permutation (e.heap_order keeps.lists.heap);
      whole = length-set items k (Some x) ∙ keeps.whole;
    }

pub returns-in_ok-insert : goal.returns-in_ok-insert
returns-in_ok-insert c = λ place needs held keeps absent at.
    let old = c.args.self.now in
    let x = c.args.block in
    let e = c.in_ok-insert.ensures in
    let far : length needs ≤ distance needs x = omega (arith, c.if-next-len.false, c.len.ensures, keeps.whole) in
    record {
      kept =
          IsKept-put_never (at_place old.coming.items) (sorted.contains nat_cmp old.never) place needs held keeps.kept x absent
          (sorted.contains nat_cmp c.insert.new.self) far e.updates.1 (λ q ne. e.updates.2 q (keys_apart x q ne));
      lists = keeps.lists;
      whole = keeps.whole;
    }
