-- Lemmas on cached blocks and their frames.
use Rattle.std.proofs.Common.{◌≡◌, ◌≢◌, ℕ, zero, suc, Bool, List, [], ◌∷◌, take, Some, refl, sym, ap, subst, inl, inr}
use Rattle.std.specs.List.{slice_get}
use Rattle.std.specs.Option.{unwrap_or}
use Rattle.std.specs.Map.{lookup_entry, remove_entry}
use Rattle.std.proofs.lemmas.Bool.{cases_Bool}
use Rattle.page_pool.specs.Frames.{Frames, bytes_at, IsInUse, KeepsOthers, IsTaken}
use Rattle.page_pool.proofs.FrameLemmas.{IsTaken-apart, KeepsOthers-IsInUse}
use Rattle.spec_base.specs.declared.spot.BlockSpot.{BlockSpot}
use Rattle.cache_queue.specs.Frames.{shown, Misses, HaveFrames}

module _ (test : BlockSpot → Bool) where
  pub Misses-remove : (es : List (BlockSpot × ℕ)) (k : ℕ) → Misses es k → Misses (remove_entry test es) k
  Misses-remove [] k h = tt
  Misses-remove (e ∷ es) k h =
      elim (cases_Bool (test e.0)) [
        | inl same ↦ rw same h.1
        | inr apart ↦ rw apart (h.0, Misses-remove es k h.1)
      ]

  pub HaveFrames-remove : (p : Frames) (es : List (BlockSpot × ℕ)) → HaveFrames p es → HaveFrames p (remove_entry test es)
  HaveFrames-remove p [] h = tt
  HaveFrames-remove p (e ∷ es) h =
      elim (cases_Bool (test e.0)) [
        | inl same ↦ rw same h.2
        | inr apart ↦ rw apart (h.0, Misses-remove es e.1 h.1, HaveFrames-remove p es h.2)
      ]

  found_misses : (es : List (BlockSpot × ℕ)) (e : BlockSpot × ℕ) (k : ℕ) → Misses es k → lookup_entry test es ≡ Some e → e.1 ≢ k
  found_misses [] e k h found = cc
  found_misses (f ∷ es) e k h found =
      elim (cases_Bool (test f.0)) [
        | inl same ↦ let it = rw same at found in λ q. h.0 (cc)
        | inr apart ↦ found_misses es e k h.1 (rw apart at found)
      ]

  -- an entry that is found has a frame in use, which no other has
  pub HaveFrames-found : (p : Frames) (es : List (BlockSpot × ℕ)) (e : BlockSpot × ℕ) → HaveFrames p es → lookup_entry test es ≡ Some e → IsInUse p e.1 × Misses (remove_entry test es) e.1
  HaveFrames-found p [] e h found = cc
  HaveFrames-found p (f ∷ es) e h found =
      elim (cases_Bool (test f.0)) [
        | inl same ↦ let it : f ≡ e = some_same f e (rw same at found) in
            rw same (subst (λ g. IsInUse p g.1 × Misses es g.1) it (h.0, h.1))
        | inr apart ↦
            let on = HaveFrames-found p es e h.2 (rw apart at found) in
            rw apart (on.0, (λ q. found_misses es e f.1 h.1 (rw apart at found) (sym q), on.1))
      ]
    where
      some_same : (a b : BlockSpot × ℕ) → Some a ≡ Some b → a ≡ b
      some_same a b q = cc

-- ---- the first n

pub Misses-take : (n : ℕ) (es : List (BlockSpot × ℕ)) (k : ℕ) → Misses es k → Misses (take n es) k
Misses-take zero es k h = tt
Misses-take (suc n) [] k h = tt
Misses-take (suc n) (e ∷ es) k h = (h.0, Misses-take n es k h.1)

pub HaveFrames-take : (p : Frames) (n : ℕ) (es : List (BlockSpot × ℕ)) → HaveFrames p es → HaveFrames p (take n es)
HaveFrames-take p zero es h = tt
HaveFrames-take p (suc n) [] h = tt
HaveFrames-take p (suc n) (e ∷ es) h = (h.0, Misses-take n es e.1 h.1, HaveFrames-take p n es h.2)

pub misses_at : (n : ℕ) (es : List (BlockSpot × ℕ)) (e : BlockSpot × ℕ) (k : ℕ) → Misses es k → slice_get es n ≡ Some e → e.1 ≢ k
misses_at n [] e k h at = cc
misses_at zero (f ∷ es) e k h at = λ q. h.0 (cc)
misses_at (suc n) (f ∷ es) e k h at = misses_at n es e k h.1 at

-- the entry after the first n has a frame in use, which none of these has
pub HaveFrames-at : (p : Frames) (n : ℕ) (es : List (BlockSpot × ℕ)) (e : BlockSpot × ℕ) → HaveFrames p es → slice_get es n ≡ Some e → IsInUse p e.1 × Misses (take n es) e.1
HaveFrames-at p n [] e h at = cc
HaveFrames-at p zero (f ∷ es) e h at = let it : f ≡ e = cc in (subst (λ g. IsInUse p g.1) it h.0, tt)
HaveFrames-at p (suc n) (f ∷ es) e h at =
    let on = HaveFrames-at p n es e h.2 at in
    (on.0, (λ q. misses_at n es e f.1 h.1 at (sym q), on.1))

-- ---- another frame changes

pub HaveFrames-kept : (old new : Frames) (k : ℕ) (es : List (BlockSpot × ℕ)) → KeepsOthers old new k → Misses es k → HaveFrames old es → HaveFrames new es
HaveFrames-kept old new k [] keeps misses h = tt
HaveFrames-kept old new k (e ∷ es) keeps misses h =
    (KeepsOthers-IsInUse old new k e.1 keeps misses.0 h.0, h.1, HaveFrames-kept old new k es keeps misses.1 h.2)

pub shown-kept : (old new : Frames) (k : ℕ) (es : List (BlockSpot × ℕ)) → KeepsOthers old new k → Misses es k → shown new es ≡ shown old es
shown-kept old new k [] keeps misses = refl
shown-kept old new k (e ∷ es) keeps misses =
    let same : bytes_at new e.1 ≡ bytes_at old e.1 = ap (λ o. unwrap_or o []) (keeps e.1 misses.0) in
    let rest = shown-kept old new k es keeps misses.1 in
    λ i. (e.0, same i) ∷ rest i

-- a frame that was taken is no block's
pub Misses-taken : (old new : Frames) (k : ℕ) (es : List (BlockSpot × ℕ)) → IsTaken old new k → HaveFrames old es → Misses es k
Misses-taken old new k [] taken h = tt
Misses-taken old new k (e ∷ es) taken h = (IsTaken-apart old new k e.1 taken h.0, Misses-taken old new k es taken h.2)
