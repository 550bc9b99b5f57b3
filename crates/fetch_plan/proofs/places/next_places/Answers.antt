use Rattle.std.proofs.Common.{◌≡◌, ◌-◌, ◌+◌, ◌<◌, length, get_or, ap, ◌∙◌, arith}
use Rattle.std.specs.Prelude.{unwrap_or}
use Rattle.fetch_plan.specs.NextNeeds.{next_of}
use Rattle.fetch_plan.proofs.Nexts.{nexts_noted, nexts_kept}
use Rattle.fetch_plan.proofs.places.next_places.Goals as goal

pub loop-place-preserved : goal.loop-place-preserved
loop-place-preserved c =
    let needs = c.args.needs.now in
    let place = c.loop-place.place in
    let p = place - 1 in
    let inv = c.loop-place.invariant in
    let some : 0 < place = c.loop-place-test.true in
    let is : place ≡ p + 1 = omega arith in
    let within : p < length needs = omega (arith, inv.within) in
    let e = c.in_ok-next.ensures in
    let x = get_or needs p 0 in
    let next = c.unwrap_or.ensures ∙ ap (λ o. unwrap_or o (length needs)) e.old ∙ inv.last x in
    record {
      within = omega (arith, inv.within);
      size = inv.size;
      last = nexts_noted needs place p is within (next_of c.loop-place.last) (next_of c.note.new.self) inv.last e.noted e.others;
      next = nexts_kept needs place p is within c.loop-place.places.items c.unwrap_or.result (omega (arith, inv.size, c.loop-place.places.ok.0)) next inv.next;
    }
