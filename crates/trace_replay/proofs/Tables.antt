-- What the two tables of blocks are after a need, a hint and a finish.
use Rattle.std.proofs.Common.{◌≡◌, ℕ, ◌-◌, ◌<◌, Bool, true, false, ◌||◌, leb, List, [], ◌∷◌, ◌++◌, take, drop, length, map, Option, Some, None, sym, ◌∙◌, ap, subst, refl, arith}
use Rattle.std.specs.List.{slice_get}
use Rattle.std.specs.Option.{option_map_or}
use Rattle.std.specs.Map.{remove_entry}
use Rattle.std.proofs.lemmas.Bool.{or_parts, leb-false}
use Rattle.std.proofs.lemmas.List.{length-map}
use Rattle.lru.specs.LruCache.{LruCache, lru_cache, promoted, demoted, put_entries}
use Rattle.spec_base.specs.declared.spot.BlockSpot.{BlockSpot}
use Rattle.spec_base.specs.contracts.spot.BlockSpotPartialEq.TheImpl.{eq-value}
use Rattle.program_model.specs.Cache.{Cache, holds, used, awaited, landed, kept, hinted, hint_if, is_idle_hint, first_of, rest_of}
use Rattle.cache_queue.proofs.Entries.{keys}
use Rattle.cache_queue.proofs.Looks.{is_equal_to}
use Rattle.trace_replay.specs.Lists.{BoundedCache, after_finish}
use Rattle.trace_replay.specs.Fits.{IsFit, IsFitted}
use Rattle.trace_replay.specs.Keyed.{lists_with}
use Rattle.trace_replay.proofs.Fits.{kept-fit, used-fit, awaited-fit, awaited-landed-fit, hint-fit, fetched-fit, queued-landed, landed-fit}
use Rattle.trace_replay.proofs.Entries.{keys-promoted, promoted-absent, keys-removed, keys-put, keys-behind, keys-first, keys-rest}

module _ {V : Type 0} (cached queue : LruCache BlockSpot V) (spot : BlockSpot) (fit : IsFitted (lists_with cached queue)) where
  -- ---- a need of a cached block

  pub lists-used : (new : LruCache BlockSpot V) → new ≡ lru_cache (promoted (is_equal_to spot) cached.entries) cached.cap → holds (keys cached.entries) spot ≡ true → lists_with new queue ≡ record (lists_with cached queue) { cache = used (lists_with cached queue).cache spot }
  lists-used new e here =
      let ks = keys-promoted spot cached.entries fit.0.apart here in
      ap (λ n. lists_with n queue) e
      ∙ (λ i. record { cache = record { cached = ks i; queue = keys queue.entries; demanded = None }; blocks = cached.cap; depth = queue.cap })

  pub IsFitted-used : (new : LruCache BlockSpot V) → new ≡ lru_cache (promoted (is_equal_to spot) cached.entries) cached.cap → holds (keys cached.entries) spot ≡ true → IsFitted (lists_with new queue)
  IsFitted-used new e here =
      subst IsFitted (sym (lists-used new e here)) (used-fit cached.cap fit.1 (lists_with cached queue).cache spot fit.0 here, fit.1)

  -- ---- a need of another block

  module _ (mid left : LruCache BlockSpot V) (m : mid ≡ lru_cache (promoted (is_equal_to spot) cached.entries) cached.cap) (l : left ≡ lru_cache (remove_entry (is_equal_to spot) queue.entries) queue.cap) (absent : holds (keys cached.entries) spot ≡ false) where
    mid-is : mid ≡ cached
    mid-is = m ∙ ap (λ es. lru_cache es cached.cap) (promoted-absent spot cached.entries absent)

    pub lists-landed : (new : LruCache BlockSpot V) → new ≡ mid → lists_with new left ≡ record (lists_with cached queue) { cache = landed (awaited (lists_with cached queue).cache spot) }
    lists-landed new e =
        let qs = keys-removed spot queue.entries fit.0.order.queue in
        ap (λ n. lists_with n left) (e ∙ mid-is)
        ∙ ap (λ q. lists_with cached q) l
        ∙ (λ i. record { cache = record { cached = keys cached.entries; queue = qs i; demanded = None }; blocks = cached.cap; depth = queue.cap })

    pub IsFitted-landed : (new : LruCache BlockSpot V) → new ≡ mid → IsFitted (lists_with new left)
    IsFitted-landed new e =
        subst IsFitted (sym (lists-landed new e)) (awaited-landed-fit cached.cap fit.1 (lists_with cached queue).cache spot fit.0 absent, fit.1)

    pub lists-fetched : (new : LruCache BlockSpot V) (v : V) → new ≡ lru_cache (put_entries (eq-value).it mid spot v) mid.cap → lists_with new left ≡ record (lists_with cached queue) { cache = kept cached.cap (landed (awaited (lists_with cached queue).cache spot)) spot }
    lists-fetched new v e =
        let qs = keys-removed spot queue.entries fit.0.order.queue in
        let ks = keys-put spot cached v absent in
        ap (λ n. lists_with n left) (e ∙ ap (λ c. lru_cache (put_entries (eq-value).it c spot v) c.cap) mid-is)
        ∙ ap (λ q. lists_with (lru_cache (put_entries (eq-value).it cached spot v) cached.cap) q) l
        ∙ (λ i. record { cache = record { cached = ks i; queue = qs i; demanded = None }; blocks = cached.cap; depth = queue.cap })

    pub IsFitted-fetched : (new : LruCache BlockSpot V) (v : V) → new ≡ lru_cache (put_entries (eq-value).it mid spot v) mid.cap → IsFitted (lists_with new left)
    IsFitted-fetched new v e =
        subst IsFitted (sym (lists-fetched new v e)) (awaited-fit cached.cap fit.1 (lists_with cached queue).cache spot fit.0 absent, fit.1)

  -- ---- a hint that joins the queue

  module _ (b : Bool) (idle : b ≡ is_idle_hint queue.cap (lists_with cached queue).cache spot) (useful : b ≡ false) where
    not_idle : is_idle_hint queue.cap (lists_with cached queue).cache spot ≡ false
    not_idle = sym idle ∙ useful

    room : (holds (keys queue.entries) spot ≡ false) × (length queue.entries < queue.cap)
    room =
        let one = or_parts (holds (keys cached.entries) spot) _ not_idle in
        let two = or_parts (holds (keys queue.entries) spot) _ one.1 in
        let few : length (keys queue.entries) < queue.cap = leb-false queue.cap (length (keys queue.entries)) two.1 in
        (two.0, omega (arith, few, length-map queue.entries (λ (e : BlockSpot × V). e.0)))

    pub lists-hinted : (new last : LruCache BlockSpot V) (v : V) → new ≡ lru_cache (put_entries (eq-value).it queue spot v) queue.cap → last ≡ lru_cache (demoted (is_equal_to spot) new.entries) new.cap → lists_with cached last ≡ record (lists_with cached queue) { cache = hinted queue.cap (lists_with cached queue).cache spot }
    lists-hinted new last v e f =
        let qs = keys-behind spot queue v room.1 room.0 in
        let b : BoundedCache = lists_with cached queue in
        ap (λ q. lists_with cached q) (f ∙ ap (λ q. lru_cache (demoted (is_equal_to spot) q.entries) q.cap) e)
        ∙ (λ i. record { cache = record { cached = keys cached.entries; queue = qs i; demanded = None }; blocks = cached.cap; depth = queue.cap })
        ∙ ap (λ h. record b { cache = hint_if h b.cache spot }) (sym not_idle)

    pub IsFitted-hinted : (new last : LruCache BlockSpot V) (v : V) → new ≡ lru_cache (put_entries (eq-value).it queue spot v) queue.cap → last ≡ lru_cache (demoted (is_equal_to spot) new.entries) new.cap → IsFitted (lists_with cached last)
    IsFitted-hinted new last v e f =
        let on = hint-fit cached.cap fit.1 queue.cap (lists_with cached queue).cache spot (is_idle_hint queue.cap (lists_with cached queue).cache spot) refl fit.0 in
        subst IsFitted (sym (lists-hinted new last v e f)) (on.0, fit.1)

  -- ---- a finish

  module _ (left : LruCache BlockSpot V) (u : V) (first : slice_get queue.entries 0 ≡ Some (spot, u)) (l : left ≡ lru_cache (drop 1 queue.entries) queue.cap) where
    pub first-is : first_of (keys queue.entries) ≡ Some spot
    first-is = keys-first queue.entries (Some (spot, u)) first

    pub IsFitted-popped : (new : LruCache BlockSpot V) → new ≡ cached → IsFitted (lists_with new left)
    IsFitted-popped new e =
        let qs = keys-rest queue.entries in
        let is : lists_with new left ≡ record (lists_with cached queue) { cache = record (lists_with cached queue).cache { queue = rest_of (keys queue.entries) } } =
        ap (λ n. lists_with n left) e
        ∙ ap (λ q. lists_with cached q) l
        ∙ (λ i. record { cache = record { cached = keys cached.entries; queue = qs i; demanded = None }; blocks = cached.cap; depth = queue.cap }) in
        subst IsFitted (sym is) (landed-fit cached.cap fit.1 (lists_with cached queue).cache spot fit.0 first-is, fit.1)

    pub lists-finished : (new : LruCache BlockSpot V) (v : V) → new ≡ lru_cache (put_entries (eq-value).it cached spot v) cached.cap → lists_with new left ≡ record (lists_with cached queue) { cache = after_finish (first_of (keys queue.entries)) cached.cap (lists_with cached queue).cache }
    lists-finished new v e =
        let qs = keys-rest queue.entries in
        let absent = (queued-landed cached.cap fit.1 (lists_with cached queue).cache spot fit.0 first-is).absent in
        let ks = keys-put spot cached v absent in
        let b : BoundedCache = lists_with cached queue in
        ap (λ n. lists_with n left) e
        ∙ ap (λ q. lists_with (lru_cache (put_entries (eq-value).it cached spot v) cached.cap) q) l
        ∙ (λ i. record { cache = record { cached = ks i; queue = qs i; demanded = None }; blocks = cached.cap; depth = queue.cap })
        ∙ ap (λ o. record b { cache = after_finish o cached.cap b.cache }) (sym first-is)

    pub IsFitted-finished : (new : LruCache BlockSpot V) (v : V) → new ≡ lru_cache (put_entries (eq-value).it cached spot v) cached.cap → IsFitted (lists_with new left)
    IsFitted-finished new v e =
        let b : BoundedCache = lists_with cached queue in
        subst IsFitted
        (sym (lists-finished new v e ∙ ap (λ o. record b { cache = after_finish o cached.cap b.cache }) first-is))
        (fetched-fit cached.cap fit.1 (lists_with cached queue).cache spot fit.0 first-is, fit.1)
