-- What keeping a block, and reading one, leave of the fields of the cached blocks.
use Rattle.std.proofs.Common.{◌≡◌, ℕ, zero, suc, ◌+◌, ◌-◌, ◌≤◌, false, List, [], ◌∷◌, ◌++◌, take, drop, length, Option, Some, None, is_some, IsSome, option_map, refl, sym, ◌∙◌, ap, subst, inl, inr, arith, append-nil, length-take}
use Rattle.std.specs.List.{slice_get}
use Rattle.std.specs.Option.{option_map_or, unwrap_or}
use Rattle.std.specs.Map.{lookup, lookup_entry, remove_entry}
use Rattle.std.proofs.lemmas.Bool.{cases_Bool}
use Rattle.std.proofs.lemmas.List.{take-map, drop_all}
use Rattle.std.proofs.lemmas.Option.{slice_get_within}
use Rattle.lru.specs.LruCache.{LruCache, lru_cache, promoted, put_entries, displaced}
use Rattle.page_pool.specs.Pages.{blank_page, overwritten}
use Rattle.page_pool.specs.Frames.{Frames, reserved, frame_at, bytes_at, IsInUse, IsTaken, IsWritten, IsGiven}
use Rattle.page_pool.proofs.PageLemmas.{length-blank_page}
use Rattle.page_pool.proofs.FrameLemmas.{KeepsOthers-IsInUse}
use Rattle.spec_base.specs.declared.spot.BlockSpot.{BlockSpot}
use Rattle.spec_base.specs.contracts.spot.BlockSpotPartialEq.TheImpl.{eq-value}
use Rattle.program_model.specs.Cache.{holds, without}
use Rattle.cache_queue.specs.Frames.{shown, Misses, HaveFrames, IsFilled}
use Rattle.cache_queue.specs.Orders.{AreApart}
use Rattle.cache_queue.specs.State.{keys_of, with_block}
use Rattle.cache_queue.specs.Storage.{cached_of, IsSound}
use Rattle.cache_queue.specs.declared.blocks.Blocks.TheInside.{Inside}
use Rattle.cache_queue.proofs.Spots.{without-self, AreApart-without, AreApart-take, holds-take}
use Rattle.cache_queue.proofs.Entries.{is_of, keys, keys-map, keys-remove, lookup-map, lookup-front}
use Rattle.cache_queue.proofs.FrameTables.{HaveFrames-found, HaveFrames-remove, Misses-take, HaveFrames-take, HaveFrames-at, misses_at, HaveFrames-kept, shown-kept}
use Rattle.cache_queue.proofs.Looks.{is_equal_to, is_equal_to-is, found_entry-frame, holds-shown}

-- ---- a frame that was filled

overwritten-whole : (page bytes : List ℕ) → length page ≤ length bytes → overwritten page 0 bytes ≡ bytes
overwritten-whole page bytes h =
    let rest : drop (0 + length bytes) page ≡ [] = drop_all (0 + length bytes) page (omega arith) in
    ap (λ more. bytes ++ more) rest ∙ append-nil bytes

pub filled_from : (old spared taken new : Frames) (k : ℕ) (bytes : List ℕ) → spared ≡ reserved old 1 → IsTaken spared taken k → IsWritten taken new k (overwritten (bytes_at taken k) 0 bytes) → length bytes ≡ 4096 → IsFilled old new k bytes
filled_from old spared taken new k bytes e t w size =
    let from : IsTaken (reserved old 1) taken k = subst (λ s. IsTaken s taken k) e t in
    let blank : bytes_at taken k ≡ blank_page = ap (λ o. unwrap_or o []) from.blank in
    let whole : overwritten (bytes_at taken k) 0 bytes ≡ bytes =
    overwritten-whole (bytes_at taken k) bytes (omega (arith, ap length blank, length-blank_page)) in
    record {
      was_free = from.was_free;
      holds = w.holds ∙ ap Some whole;
      others = λ other apart. w.others other apart ∙ from.others other apart;
      in_use = w.in_use ∙ from.in_use;
      most = w.most ∙ from.most;
    }

not_some : (o : Option (List ℕ)) → o ≡ None → IsSome o → ⊥
not_some o none some = cc

-- a frame that wasn't in use is no block's
Misses-free : (p : Frames) (k : ℕ) (es : List (BlockSpot × ℕ)) → frame_at p k ≡ None → HaveFrames p es → Misses es k
Misses-free p k [] free h = tt
Misses-free p k (e ∷ es) free h =
    (λ q. not_some (frame_at p k) free (subst (λ n. IsInUse p n) q h.0), Misses-free p k es free h.2)

IsInUse-holds : (p : Frames) (k : ℕ) (bytes : List ℕ) → frame_at p k ≡ Some bytes → IsInUse p k
IsInUse-holds p k bytes h = subst IsSome (sym h) refl

-- ---- a block that is read

module _ (spot : BlockSpot) where
  length-remove : (es : List (BlockSpot × ℕ)) (e : BlockSpot × ℕ) → lookup_entry (is_of spot) es ≡ Some e → length (e ∷ remove_entry (is_of spot) es) ≡ length es
  length-remove [] e found = cc
  length-remove (f ∷ es) e found =
      elim (cases_Bool (is_of spot f.0)) [
        | inl same ↦ rw same refl
        | inr apart ↦ rw apart (let on = length-remove es e (rw apart at found) in omega (arith, on))
      ]

  none_entry : (es : List (BlockSpot × ℕ)) → lookup (is_of spot) es ≡ None → lookup_entry (is_of spot) es ≡ None
  none_entry [] none = refl
  none_entry (f ∷ es) none =
      elim (cases_Bool (is_of spot f.0)) [
        | inl same ↦ absurd (let is = rw same at none in cc)
        | inr apart ↦ rw apart (none_entry es (rw apart at none))
      ]

  no_entry : (es : List (BlockSpot × ℕ)) → lookup (is_equal_to spot) es ≡ None → lookup_entry (is_equal_to spot) es ≡ None
  no_entry es none =
      ap (λ test. lookup_entry test es) (is_equal_to-is spot)
      ∙ none_entry es (sym (ap (λ test. lookup test es) (is_equal_to-is spot)) ∙ none)

  pub promoted-found : (es : List (BlockSpot × ℕ)) (k : ℕ) → lookup (is_equal_to spot) es ≡ Some k → promoted (is_equal_to spot) es ≡ (spot, k) ∷ remove_entry (is_of spot) es
  promoted-found es k found =
      ap (λ test. promoted test es) (is_equal_to-is spot)
      ∙ ap (λ o. option_map_or (λ e. e ∷ remove_entry (is_of spot) es) o es) (found_entry-frame es spot k found)

  pub promoted-none : (es : List (BlockSpot × ℕ)) → lookup (is_equal_to spot) es ≡ None → promoted (is_equal_to spot) es ≡ es
  promoted-none es none = ap (λ o. option_map_or (λ e. e ∷ remove_entry (is_equal_to spot) es) o es) (no_entry es none)

  pub found_in_front : (es : List (BlockSpot × ℕ)) (k cap : ℕ) (frames : LruCache BlockSpot ℕ) → frames ≡ lru_cache (promoted (is_equal_to spot) es) cap → lookup (is_equal_to spot) es ≡ Some k → frames ≡ lru_cache ((spot, k) ∷ remove_entry (is_of spot) es) cap
  found_in_front es k cap frames e found = e ∙ ap (λ all. lru_cache all cap) (promoted-found es k found)

  pub IsSound-front : (c : Inside) (k : ℕ) → IsSound c → lookup (is_equal_to spot) c.frames.entries ≡ Some k → IsSound (record { pool = c.pool; frames = lru_cache ((spot, k) ∷ remove_entry (is_of spot) c.frames.entries) c.frames.cap })
  IsSound-front c k s found =
      let es = c.frames.entries in
      let entry = found_entry-frame es spot k found in
      let on = HaveFrames-found (is_of spot) c.pool es (spot, k) s.frames entry in
      let ks = keys-remove spot es s.apart in
      let same = length-remove es (spot, k) entry in
      record {
        frames = (on.0, on.1, HaveFrames-remove (is_of spot) c.pool es s.frames);
        apart = subst (λ l. (holds l spot ≡ false) × AreApart l) (sym ks) (without-self (keys es) spot, AreApart-without (keys es) spot s.apart);
        in_use = s.in_use ∙ sym same;
        most = s.most;
        few = subst (λ n. n ≤ c.frames.cap) (sym same) s.few;
        some = s.some;
      }

  pub keys-front : (p : Frames) (es : List (BlockSpot × ℕ)) (k : ℕ) → AreApart (keys es) → keys (shown p ((spot, k) ∷ remove_entry (is_of spot) es)) ≡ spot ∷ without (keys (shown p es)) spot
  keys-front p es k apart =
      ap (λ ks. spot ∷ ks)
      (keys-map (bytes_at p) (remove_entry (is_of spot) es) ∙ keys-remove spot es apart ∙ ap (λ ks. without ks spot) (sym (keys-map (bytes_at p) es)))

  pub lookup-front-shown : (p : Frames) (es : List (BlockSpot × ℕ)) (k : ℕ) (other : BlockSpot) → lookup (is_equal_to spot) es ≡ Some k → lookup (is_of other) (shown p ((spot, k) ∷ remove_entry (is_of spot) es)) ≡ lookup (is_of other) (shown p es)
  lookup-front-shown p es k other found =
      lookup-map (bytes_at p) other ((spot, k) ∷ remove_entry (is_of spot) es)
      ∙ ap (option_map (bytes_at p)) (lookup-front spot other k es (sym (ap (λ test. lookup test es) (is_equal_to-is spot)) ∙ found))
      ∙ sym (lookup-map (bytes_at p) other es)

  -- ---- a block that is kept

  pub absent_key : (p : Frames) (es : List (BlockSpot × ℕ)) → holds (keys (shown p es)) spot ≡ false → holds (keys es) spot ≡ false
  absent_key p es absent = sym (ap (λ ks. holds ks spot) (keys-map (bytes_at p) es)) ∙ absent

  pub absent_lookup : (p : Frames) (es : List (BlockSpot × ℕ)) → holds (keys (shown p es)) spot ≡ false → lookup (is_equal_to spot) es ≡ None
  absent_lookup p es absent = none_from (lookup (is_equal_to spot) es) (holds-shown p es spot ∙ absent)
    where
      none_from : (o : Option ℕ) → is_some o ≡ false → o ≡ None
      none_from None h = refl
      none_from (Some x) h = cc

  pub put_entries-absent : (c : LruCache BlockSpot ℕ) (k : ℕ) → lookup (is_equal_to spot) c.entries ≡ None → put_entries (eq-value).it c spot k ≡ (spot, k) ∷ take (c.cap - 1) c.entries
  put_entries-absent c k none =
      ap (λ o. option_map_or (λ e. (e.0, k) ∷ remove_entry (is_equal_to spot) c.entries) o ((spot, k) ∷ take (c.cap - 1) c.entries)) (no_entry c.entries none)

  pub displaced-absent : (c : LruCache BlockSpot ℕ) (k : ℕ) → lookup (is_equal_to spot) c.entries ≡ None → displaced (eq-value).it c spot k ≡ slice_get c.entries (c.cap - 1)
  displaced-absent c k none = ap (λ o. option_map_or (λ old. Some (spot, old)) o (slice_get c.entries (c.cap - 1))) none

  module _ (c : Inside) (q : Frames) (k : ℕ) (bytes : List ℕ) where
    -- the pool has the new block's bytes in its frame, and those of the first n others as before
    pub record IsPut (n : ℕ) : Type 0 where
      pub holds : frame_at q k ≡ Some bytes
      pub misses : Misses (take n c.frames.entries) k
      pub frames : HaveFrames q (take n c.frames.entries)
      pub same : shown q (take n c.frames.entries) ≡ shown c.pool (take n c.frames.entries)
      pub in_use : q.in_use ≡ length (take n c.frames.entries) + 1
      pub most : q.most ≡ c.pool.most

    pub IsSound-put : IsSound c → holds (keys c.frames.entries) spot ≡ false → IsPut (c.frames.cap - 1) → IsSound (record { pool = q; frames = lru_cache ((spot, k) ∷ take (c.frames.cap - 1) c.frames.entries) c.frames.cap })
    IsSound-put s absent put =
        let n = c.frames.cap - 1 in
        let es = c.frames.entries in
        let some = s.some in
        let ks = take-map (λ (e : BlockSpot × ℕ). e.0) n es in
        record {
          frames = (IsInUse-holds q k bytes put.holds, put.misses, put.frames);
          apart = subst (λ l. (holds l spot ≡ false) × AreApart l) ks (holds-take n (keys es) spot absent, AreApart-take n (keys es) s.apart);
          in_use = put.in_use ∙ omega arith;
          most = put.most ∙ s.most;
          few = omega (arith, length-take n es);
          some = s.some;
        }

    pub shown-put : IsPut (c.frames.cap - 1) → shown q ((spot, k) ∷ take (c.frames.cap - 1) c.frames.entries) ≡ (spot, bytes) ∷ take (c.frames.cap - 1) (shown c.pool c.frames.entries)
    shown-put put =
        let first : bytes_at q k ≡ bytes = ap (λ o. unwrap_or o []) put.holds in
        let rest = put.same ∙ sym (take-map (λ (e : BlockSpot × ℕ). (e.0, bytes_at c.pool e.1)) (c.frames.cap - 1) c.frames.entries) in
        λ i. (spot, first i) ∷ rest i

slice_get_none : (n : ℕ) (es : List (BlockSpot × ℕ)) → slice_get es n ≡ None → length es ≤ n
slice_get_none n [] none = omega arith
slice_get_none zero (e ∷ es) none = cc
slice_get_none (suc n) (e ∷ es) none = let on = slice_get_none n es none in omega (arith, on)

module _ (spot : BlockSpot) (c : Inside) (p : Frames) (k : ℕ) (bytes : List ℕ) (s : IsSound c) (filled : IsFilled c.pool p k bytes) where
  misses_all : Misses c.frames.entries k
  misses_all = Misses-free c.pool k c.frames.entries filled.was_free s.frames

  -- there was a place left
  pub IsPut-room : slice_get c.frames.entries (c.frames.cap - 1) ≡ None → IsPut spot c p k bytes (c.frames.cap - 1)
  IsPut-room none =
      let n = c.frames.cap - 1 in
      let es = c.frames.entries in
      let misses = Misses-take n es k misses_all in
      let few = slice_get_none n es none in
      record {
        holds = filled.holds;
        misses = misses;
        frames = HaveFrames-kept c.pool p k (take n es) filled.others misses (HaveFrames-take c.pool n es s.frames);
        same = shown-kept c.pool p k (take n es) filled.others misses;
        in_use = omega (arith, filled.in_use, s.in_use, length-take n es, few);
        most = filled.most;
      }

  -- the last block left, and its frame can be given back
  pub IsInUse-left : (n : ℕ) (e : BlockSpot × ℕ) → slice_get c.frames.entries n ≡ Some e → IsInUse p e.1
  IsInUse-left n e at =
      KeepsOthers-IsInUse c.pool p k e.1 filled.others (misses_at n c.frames.entries e k misses_all at)
      (HaveFrames-at c.pool n c.frames.entries e s.frames at).0

  pub IsPut-left : (q : Frames) (e : BlockSpot × ℕ) → slice_get c.frames.entries (c.frames.cap - 1) ≡ Some e → IsGiven p q e.1 → IsPut spot c q k bytes (c.frames.cap - 1)
  IsPut-left q e at given =
      let n = c.frames.cap - 1 in
      let es = c.frames.entries in
      let misses = Misses-take n es k misses_all in
      let left = HaveFrames-at c.pool n es e s.frames at in
      let apart = misses_at n es e k misses_all at in
      let within = slice_get_within es n e at in
      record {
        holds = given.others k (λ h. apart (sym h)) ∙ filled.holds;
        misses = misses;
        frames = HaveFrames-kept p q e.1 (take n es) given.others left.1
            (HaveFrames-kept c.pool p k (take n es) filled.others misses (HaveFrames-take c.pool n es s.frames));
        same = shown-kept p q e.1 (take n es) given.others left.1 ∙ shown-kept c.pool p k (take n es) filled.others misses;
        in_use = omega (arith, filled.in_use, given.in_use, s.in_use, s.few, length-take n es, within);
        most = given.most ∙ filled.most;
      }

  -- the block couldn't be kept, and its frame was given back
  pub IsSound-back : (q : Frames) → IsGiven p q k → IsSound (record { pool = q; frames = c.frames })
  IsSound-back q given =
      record {
        frames = HaveFrames-kept p q k c.frames.entries given.others misses_all
            (HaveFrames-kept c.pool p k c.frames.entries filled.others misses_all s.frames);
        apart = s.apart;
        in_use = omega (arith, filled.in_use, given.in_use, s.in_use);
        most = given.most ∙ filled.most ∙ s.most;
        few = s.few;
        some = s.some;
      }

  pub shown-back : (q : Frames) → IsGiven p q k → shown q c.frames.entries ≡ shown c.pool c.frames.entries
  shown-back q given =
      shown-kept p q k c.frames.entries given.others misses_all ∙ shown-kept c.pool p k c.frames.entries filled.others misses_all

-- ---- the frames that the map has after the block was put into it

module _ (spot : BlockSpot) (c : Inside) (q : Frames) (k : ℕ) (bytes : List ℕ) (f : LruCache BlockSpot ℕ) (s : IsSound c) (puts : f ≡ lru_cache (put_entries (eq-value).it c.frames spot k) c.frames.cap) (absent : holds (keys_of (cached_of c)) spot ≡ false) where
  put_is : f ≡ lru_cache ((spot, k) ∷ take (c.frames.cap - 1) c.frames.entries) c.frames.cap
  put_is = puts ∙ ap (λ es. lru_cache es c.frames.cap) (put_entries-absent spot c.frames k (absent_lookup spot c.pool c.frames.entries absent))

  pub left_is : (o : Option (BlockSpot × ℕ)) → displaced (eq-value).it c.frames spot k ≡ o → slice_get c.frames.entries (c.frames.cap - 1) ≡ o
  left_is o left = sym (displaced-absent spot c.frames k (absent_lookup spot c.pool c.frames.entries absent)) ∙ left

  pub IsSound-put_frames : IsPut spot c q k bytes (c.frames.cap - 1) → IsSound (record { pool = q; frames = f })
  IsSound-put_frames put =
      subst
      (λ (g : LruCache BlockSpot ℕ). IsSound (record { pool = q; frames = g }))
      (sym put_is)
      (IsSound-put spot c q k bytes s (absent_key spot c.pool c.frames.entries absent) put)

  pub shown-put_frames : IsPut spot c q k bytes (c.frames.cap - 1) → cached_of (record { pool = q; frames = f }) ≡ with_block (cached_of c) spot bytes
  shown-put_frames put =
      ap (λ (g : LruCache BlockSpot ℕ). cached_of (record { pool = q; frames = g })) put_is
      ∙ (let es = shown-put spot c q k bytes put in λ i. record { entries = es i; most = c.frames.cap })
