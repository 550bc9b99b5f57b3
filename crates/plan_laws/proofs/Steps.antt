-- What the blocks that a cache run again fetches are worth.
use Rattle.std.proofs.Common.{◌≡◌, ℕ, zero, suc, ◌+◌, ◌-◌, ◌/◌, ◌≤◌, true, false, not, List, [], ◌∷◌, take, Option, Some, None, refl, ap, inl, inr, arith}
use Rattle.std.proofs.lemmas.Bool.{cases_Bool, or_left}
use Rattle.spec_base.specs.declared.spot.BlockSpot.{BlockSpot}
use Rattle.program_model.specs.Cache.{Cache, same_block, holds, without, in_flight, landed, landed_from, kept, awaited}
use Rattle.cache_queue.proofs.Spots.{same_block-self}
use Rattle.fetch_plan.proofs.Counts.{one-le}
use Rattle.trace_replay.specs.Replays.{Settings, Replayed, fetched, finishes, caught_up, needed}
use Rattle.trace_replay.specs.Fits.{IsFit}
use Rattle.trace_replay.proofs.Fits.{fetched-fit, used-fit, awaited-fit}
use Rattle.plan_laws.proofs.Images.{new_spots, new_spots-take, new_spots-front}

module _ (blocks : ℕ) where
  -- a fetch brings one new block at most
  new_spots-kept : (D : List BlockSpot) (c : Cache) (spot : BlockSpot) → new_spots D (kept blocks c spot).cached ≤ new_spots D c.cached + 1
  new_spots-kept D c spot = omega (arith, new_spots-take D (blocks - 1) c.cached, one-le (not (holds D spot)))

  landed-cached : (c : Cache) → (landed c).cached ≡ c.cached
  landed-cached c = go c.demanded
    where
      go : (o : Option BlockSpot) → (landed_from o c).cached ≡ c.cached
      go None = refl
      go (Some x) = refl

  pub new_spots-fetched : (D : List BlockSpot) (c : Cache) (spot : BlockSpot) → new_spots D (kept blocks (landed c) spot).cached ≤ new_spots D c.cached + 1
  new_spots-fetched D c spot = omega (arith, new_spots-kept D (landed c) spot, ap (new_spots D) (landed-cached c))

module _ (s : Settings) (some : 1 ≤ s.blocks) where
  -- what was paid for the last list and since covers the blocks that are new
  pub record Covers (r : Replayed) (D : List BlockSpot) (paid : ℕ) : Type 0 where
    pub fit : IsFit s.blocks r.cache
    pub covers : new_spots D r.cache.cached + paid ≤ r.fetches

  pub finishes-covers : (n : ℕ) (r : Replayed) (D : List BlockSpot) (paid : ℕ) → Covers r D paid → Covers (finishes s n r) D paid
  unfolding finishes
  finishes-covers zero r D paid c = c
  finishes-covers (suc n) r D paid c = go (in_flight r.cache) refl (λ spot next. finishes-covers n (fetched s r spot) D paid next)
    where
      go : (o : Option BlockSpot) → in_flight r.cache ≡ o → ((spot : BlockSpot) → Covers (fetched s r spot) D paid → Covers (finishes s n (fetched s r spot)) D paid) → Covers (elim o [ None ↦ r | Some spot ↦ finishes s n (fetched s r spot) ]) D paid
      go None e more = c
      go (Some spot) e more =
          more spot (record {
            fit = fetched-fit s.blocks some r.cache spot c.fit e;
            covers = omega (arith, c.covers, new_spots-fetched s.blocks D r.cache spot);
          })

  pub caught_up-covers : (r : Replayed) (own : ℕ) (D : List BlockSpot) (paid : ℕ) → Covers r D paid → Covers (caught_up s r own) D paid
  caught_up-covers r own D paid c =
      let on = finishes-covers (own / s.every - r.clock) r D paid c in
      record { fit = on.fit; covers = on.covers }

  pub needed-covers : (r : Replayed) (spot : BlockSpot) (D : List BlockSpot) (paid : ℕ) → Covers r D paid → Covers (needed s r spot) D paid × (holds (needed s r spot).cache.cached spot ≡ true)
  needed-covers r spot D paid c =
      elim (cases_Bool (holds r.cache.cached spot)) [
        | inl on ↦
            rw on (
              record { fit = used-fit s.blocks some r.cache spot c.fit on; covers = omega (arith, c.covers, new_spots-front D r.cache.cached spot on) },
              or_left (same_block spot spot) (holds (without r.cache.cached spot) spot) (same_block-self spot),
            )
        | inr absent ↦
            rw absent (
              record { fit = awaited-fit s.blocks some r.cache spot c.fit absent; covers = omega (arith, c.covers, new_spots-fetched s.blocks D (awaited r.cache spot) spot) },
              or_left (same_block spot spot) (holds (take (s.blocks - 1) r.cache.cached) spot) (same_block-self spot),
            )
      ]
