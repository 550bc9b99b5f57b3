-- The lists stay as names get numbers.
use Rattle.std.proofs.Common.{◌≡◌, ℕ, ◌||◌, List, map, length, leb, sym, ◌∙◌, ap, subst}
use Rattle.std.proofs.lemmas.List.{length-map}
use Rattle.lru.specs.LruCache.{lru_cache}
use Rattle.spec_base.specs.Files.{Name}
use Rattle.spec_base.specs.declared.spot.BlockSpot.{BlockSpot}
use Rattle.program_model.specs.Cache.{is_idle_hint}
use Rattle.cache_queue.proofs.Entries.{keys}
use Rattle.small_spots.specs.declared.small_spot.SmallSpot.{SmallSpot}
use Rattle.small_spots.specs.SmallSpots.{spot_of, IsKnown, AreNamesApart, StaysKnown}
use Rattle.trace_replay.specs.Fits.{IsFitted}
use Rattle.trace_replay.specs.Keyed.{entry_of, lists_with, lists_by, AreKeyed, is_idle_key}
use Rattle.trace_replay.specs.declared.keyed_lists.KeyedLists.{KeyedLists}
use Rattle.trace_replay.proofs.Keyed.{holds-named, named-stays, AreKnown-stay}

module _ (old new : List Name) (stays : StaysKnown old new) (l : KeyedLists) (keyed : AreKeyed old l) where
  pub lists-stay : lists_by new l ≡ lists_by old l
  lists-stay =
      let cached = named-stays old new stays l.cached.entries keyed.cached in
      let queue = named-stays old new stays l.queue.entries keyed.queue in
      λ i. lists_with (lru_cache (cached i) l.cached.cap) (lru_cache (queue i) l.queue.cap)

  pub AreKeyed-stay : AreNamesApart new → AreKeyed new l
  AreKeyed-stay apart = record {
    fit = subst IsFitted (sym lists-stay) keyed.fit;
    apart = apart;
    cached = AreKnown-stay old new stays l.cached.entries keyed.cached;
    queue = AreKnown-stay old new stays l.queue.entries keyed.queue;
  }

-- a hint of a key has no use exactly where one of its block has none
pub idle-named : (names : List Name) (l : KeyedLists) (key : SmallSpot) → AreKeyed names l → IsKnown names key → is_idle_key l key ≡ is_idle_hint (lists_by names l).depth (lists_by names l).cache (spot_of names key)
idle-named names l key keyed known =
    let cached = holds-named names keyed.apart key known l.cached.entries keyed.cached in
    let queued = holds-named names keyed.apart key known l.queue.entries keyed.queue in
    let entries = map (entry_of names) l.queue.entries in
    let length_is : length l.queue.entries ≡ length (keys entries) = sym (length-map entries (λ e. e.0) ∙ length-map l.queue.entries (entry_of names)) in
    λ i. cached i || (queued i || leb l.queue.cap (length_is i))
