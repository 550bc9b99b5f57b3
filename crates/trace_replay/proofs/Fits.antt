-- What keeps the lists of a cache fit.
use Rattle.std.proofs.Common.{◌≡◌, ℕ, ◌+◌, ◌-◌, ◌≤◌, Bool, true, false, List, [], ◌∷◌, length, take, Option, Some, None, refl, sym, ◌∙◌, ap, subst, inl, inr, arith, length-take}
use Rattle.std.proofs.lemmas.Bool.{cases_Bool}
use Rattle.spec_base.specs.declared.spot.BlockSpot.{BlockSpot}
use Rattle.program_model.specs.Cache.{Cache, empty_cache, same_block, holds, without, in_flight, first_of, rest_of, landed, landed_from, kept, used, awaited, hinted, hint_if, is_idle_hint, all_hinted}
use Rattle.cache_queue.specs.Orders.{AreApart, IsOrderly}
use Rattle.cache_queue.proofs.Spots.{without-self, AreApart-without, AreApart-take, holds-take}
use Rattle.cache_queue.proofs.Order.{IsOrderly-hinted, IsOrderly-awaited, IsOrderly-used, IsLanded, IsLanded-demanded, IsLanded-queued, IsOrderly-kept}
use Rattle.trace_replay.specs.Fits.{IsFit}

pub length-without-le : (xs : List BlockSpot) (s : BlockSpot) → length (without xs s) ≤ length xs
length-without-le [] s = omega arith
length-without-le (x ∷ xs) s =
    let rest = length-without-le xs s in
    elim (cases_Bool (same_block x s)) [
      | inl same ↦ rw same (omega arith)
      | inr apart ↦ rw apart (omega arith)
    ]

length-front : (xs : List BlockSpot) (s : BlockSpot) → holds xs s ≡ true → length (s ∷ without xs s) ≤ length xs
length-front [] s h = cc
length-front (x ∷ xs) s h =
    elim (cases_Bool (same_block x s)) [
      | inl same ↦ let rest = length-without-le xs s in rw same (omega arith)
      | inr apart ↦ rw apart (let rest = length-front xs s (rw apart at h) in omega arith)
    ]

pub empty-fit : (blocks : ℕ) → IsFit blocks empty_cache
empty-fit blocks = record {
  order = record { queue = tt; queued = λ s h. refl; demanded = λ s h. refl; apart = λ s h. refl };
  apart = tt;
  few = omega arith;
  idle = refl;
}

module _ (blocks : ℕ) (some : 1 ≤ blocks) where
  pub kept-fit : (c : Cache) (spot : BlockSpot) → IsLanded c spot → c.demanded ≡ None → AreApart c.cached → length c.cached ≤ blocks → IsFit blocks (kept blocks c spot)
  kept-fit c spot l idle apart few = record {
    order = IsOrderly-kept c (blocks - 1) spot l.order l.apart idle;
    apart = (holds-take (blocks - 1) c.cached spot l.absent, AreApart-take (blocks - 1) c.cached apart);
    few = omega (arith, length-take (blocks - 1) c.cached);
    idle = idle;
  }

  -- the queued block in flight
  first-is : (queue : List BlockSpot) (spot : BlockSpot) → first_of queue ≡ Some spot → queue ≡ spot ∷ rest_of queue
  first-is [] spot h = cc
  first-is (x ∷ xs) spot h = let e : x ≡ spot = cc in ap (λ y. y ∷ xs) e

  pub fetched-fit : (c : Cache) (spot : BlockSpot) → IsFit blocks c → in_flight c ≡ Some spot → IsFit blocks (kept blocks (landed c) spot)
  fetched-fit c spot fit flies =
      let first : first_of c.queue ≡ Some spot = sym (ap (λ o. in_flight (record c { demanded = o })) fit.idle) ∙ flies in
      let queue = first-is c.queue spot first in
      let rest : Cache = record c { queue = rest_of c.queue } in
      let l : IsLanded rest spot = IsLanded-queued c spot (rest_of c.queue) fit.order fit.idle queue in
      let lands : landed c ≡ rest = ap (λ o. landed_from o c) fit.idle in
      subst (λ d. IsFit blocks (kept blocks d spot)) (sym lands) (kept-fit rest spot l fit.idle fit.apart fit.few)

  pub hint-fit : (depth : ℕ) (c : Cache) (spot : BlockSpot) (b : Bool) → is_idle_hint depth c spot ≡ b → IsFit blocks c → IsFit blocks (hint_if b c spot) × ((hint_if b c spot).cached ≡ c.cached)
  hint-fit depth c spot true e fit = (fit, refl)
  hint-fit depth c spot false e fit =
      (record { order = IsOrderly-hinted c depth spot fit.order e; apart = fit.apart; few = fit.few; idle = fit.idle }, refl)

  pub hinted-fit : (depth : ℕ) (c : Cache) (spots : List BlockSpot) → IsFit blocks c → IsFit blocks (all_hinted depth c spots) × ((all_hinted depth c spots).cached ≡ c.cached)
  hinted-fit depth c [] fit = (fit, refl)
  hinted-fit depth c (spot ∷ spots) fit =
      let first = hint-fit depth c spot (is_idle_hint depth c spot) refl fit in
      let rest = hinted-fit depth (hinted depth c spot) spots first.0 in
      (rest.0, rest.1 ∙ first.1)

  pub used-fit : (c : Cache) (spot : BlockSpot) → IsFit blocks c → holds c.cached spot ≡ true → IsFit blocks (used c spot)
  used-fit c spot fit on = record {
    order = IsOrderly-used c spot fit.order on;
    apart = (without-self c.cached spot, AreApart-without c.cached spot fit.apart);
    few = omega (arith, length-front c.cached spot on, fit.few);
    idle = fit.idle;
  }

  pub awaited-fit : (c : Cache) (spot : BlockSpot) → IsFit blocks c → holds c.cached spot ≡ false → IsFit blocks (kept blocks (landed (awaited c spot)) spot)
  awaited-fit c spot fit absent =
      let order = IsOrderly-awaited c spot fit.order absent in
      let l = IsLanded-demanded (awaited c spot) spot order refl in
      kept-fit (landed (awaited c spot)) spot l refl fit.apart fit.few

  -- the lists before the needed block is cached
  pub awaited-landed-fit : (c : Cache) (spot : BlockSpot) → IsFit blocks c → holds c.cached spot ≡ false → IsFit blocks (landed (awaited c spot))
  awaited-landed-fit c spot fit absent =
      let l = IsLanded-demanded (awaited c spot) spot (IsOrderly-awaited c spot fit.order absent) refl in
      record { order = l.order; apart = fit.apart; few = fit.few; idle = refl }

  -- the lists before the queued block is cached
  pub queued-landed : (c : Cache) (spot : BlockSpot) → IsFit blocks c → first_of c.queue ≡ Some spot → IsLanded (record c { queue = rest_of c.queue }) spot
  queued-landed c spot fit first = IsLanded-queued c spot (rest_of c.queue) fit.order fit.idle (first-is c.queue spot first)

  pub landed-fit : (c : Cache) (spot : BlockSpot) → IsFit blocks c → first_of c.queue ≡ Some spot → IsFit blocks (record c { queue = rest_of c.queue })
  landed-fit c spot fit first = record { order = (queued-landed c spot fit first).order; apart = fit.apart; few = fit.few; idle = fit.idle }
