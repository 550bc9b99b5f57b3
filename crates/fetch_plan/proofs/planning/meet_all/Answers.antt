use Rattle.std.proofs.Common.{◌≡◌, ℕ, ◌+◌, ◌<◌, ◌≤◌, true, List, [], ◌∷◌, ◌++◌, Option, length, drop, get_or, refl, sym, ap, ◌∙◌, subst, arith, drop-cons, add-one, add-zero}
use Rattle.std.proofs.lemmas.List.{drop_all}
use Rattle.fetch_plan.proofs.Counts.{one-le}
use Rattle.fetch_plan.specs.Plans.{leaving, after, one, distance}
use Rattle.fetch_plan.proofs.Progress.{Progress, progress_starts, progress_goes_on, progress_ends_leave, progress_ends_paid}
use Rattle.fetch_plan.proofs.planning.meet_all.Goals as goal
use Rattle.fetch_plan.proofs.planning.meet_all.Goals.{then-met, else-met}

pub loop-place-init : goal.loop-place-init
loop-place-init c = record {
  blocks = c.in_ok-held.ensures.blocks;
  few = omega arith;
  so_far = (
    [],
    subst (λ l. Progress c.args.blocks c.args.needs.now c.in_ok-held.held 0 l 0 c.args.needs.now []) (sym c.in_ok-leave.ensures.items)
        (progress_starts c.args.blocks c.args.needs.now c.in_ok-held.held (c.in_ok-held.ensures.holds c.args.needs.now refl)),
  );
}

-- an element within a list, whatever stands for those that aren't
get_or_any : (xs : List ℕ) (k d e : ℕ) → k < length xs → get_or xs k d ≡ get_or xs k e
get_or_any xs k d e h =
    let x = drop-cons xs k d h in
    let y = drop-cons xs k e h in
    cc

pub loop-place-preserved : goal.loop-place-preserved
loop-place-preserved c =
    let blocks = c.args.blocks in
    let needs = c.args.needs.now in
    let place = c.loop-place.place in
    let fetches = c.loop-place.fetches in
    let leave = c.loop-place.leave.items in
    let met = c.in_ok-met.met in
    let new = c.meet.new.self in
    let rest = drop (place + 1) needs in
    let x = get_or needs place 0 in
    let held = c.loop-place.invariant.so_far.0 in
    let within : place < length needs = c.loop-place-test.true in
    let split : drop place needs ≡ x ∷ rest = drop-cons needs place 0 within ∙ ap (λ k. x ∷ drop k needs) (sym (add-one place)) in
    let before : Progress blocks needs c.loop-place.held place leave fetches (x ∷ rest) held =
    subst (λ l. Progress blocks needs c.loop-place.held place leave fetches l held) split c.loop-place.invariant.so_far.1 in
    let size : length c.in_ok-places.places.items ≡ length needs = omega (arith, c.in_ok-places.places.ok, c.in_ok-places.ensures.size) in
    let next : c.index.result.now ≡ place + 1 + distance rest x =
    c.index.ensures ∙ get_or_any c.in_ok-places.places.items place c.index.result.now 0 (omega arith) ∙ c.in_ok-places.ensures.next place within in
    let is = c.in_ok-met.ensures.met rest held before.holds next in
    let now = progress_goes_on blocks needs c.loop-place.held new place leave fetches x rest held met c.loop-place.invariant.blocks before is in
    let paid : c.if-met.fetches ≡ fetches + one met.fetched =
    elim c.if-met.branch [
      | then-met w ↦ w.fetches-is ∙ ap (λ b. fetches + one b) (sym w.if-met.true)
      | else-met w ↦ w.fetches-is ∙ sym (ap (λ b. fetches + one b) w.if-met.false ∙ add-zero fetches)
    ] in
    let after_it = after held x (leaving blocks held x rest) in
    let pushed : c.push.new.self.items ≡ leave ++ met.leaves ∷ [] = c.in_ok-push.ensures.items in
    record {
      blocks = c.in_ok-met.ensures.blocks ∙ c.loop-place.invariant.blocks;
      few = omega (arith, c.loop-place.invariant.few, one-le met.fetched);
      so_far = (
        after_it,
        subst (λ f. Progress blocks needs new (place + 1) c.push.new.self.items f rest after_it) (sym paid)
            (subst (λ l. Progress blocks needs new (place + 1) l (fetches + one met.fetched) rest after_it) (sym pushed) now),
      );
    }

pub returns : goal.returns
returns c =
    let blocks = c.args.blocks in
    let needs = c.args.needs.now in
    let now = c.loop-place in
    let held = now.invariant.so_far.0 in
    let end = drop_all now.place needs (omega arith) in
    let done : Progress blocks needs now.held now.place now.leave.items now.fetches [] held =
    subst (λ rest. Progress blocks needs now.held now.place now.leave.items now.fetches rest held) end now.invariant.so_far.1 in
    record {
      leave = progress_ends_leave blocks needs now.held now.place now.leave.items now.fetches held done;
      paid = progress_ends_paid blocks needs now.held now.place now.leave.items now.fetches held done;
    }
