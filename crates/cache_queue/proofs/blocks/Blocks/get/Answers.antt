use Rattle.std.proofs.Common.{◌≡◌, Some, is_some, ◌∷◌, ℕ, sym, refl, ◌∙◌, ap, subst}
use Rattle.std.specs.Map.{lookup}
use Rattle.lru.specs.LruCache.{LruCache, lru_cache}
use Rattle.spec_base.specs.declared.spot.BlockSpot.{BlockSpot}
use Rattle.cache_queue.specs.Frames.{shown}
use Rattle.cache_queue.specs.State.{CachedBlocks, keys_of, bytes_of}
use Rattle.cache_queue.specs.Storage.{cached_of, IsSound}
use Rattle.program_model.specs.Cache.{without}
use Rattle.cache_queue.proofs.Entries.{is_of, keys}
use Rattle.cache_queue.proofs.Looks.{is_equal_to, holds-shown, IsInUse-found, lookup-shown}
use Rattle.cache_queue.proofs.Kept.{found_in_front, promoted-none, IsSound-front, keys-front, lookup-front-shown}
use Rattle.cache_queue.proofs.blocks.Blocks.get.Goals as goal

-- ---- the block isn't cached

same_frames : (c : goal.After-self-in_default-1) → c.get.follows.lender-at-none ≡ c.self.inside.frames
same_frames c =
    c.get.follows.holds-at-none
    ∙ ap (λ es. lru_cache es c.self.inside.frames.cap) (promoted-none c.args.spot.now c.self.inside.frames.entries (sym c.in_default.ensures.value))

pub invariant_of-self : goal.invariant_of-self
invariant_of-self c =
    subst (λ (f : LruCache BlockSpot ℕ). IsSound (record { pool = c.self.inside.pool; frames = f })) (sym (same_frames c)) c.self.invariant

pub returns-in_default-clause-found : goal.returns-in_default-clause-found
returns-in_default-clause-found c =
    rw
    (← c.self.view_is)
    (ap is_some c.in_default.ensures.value ∙ holds-shown c.self.inside.pool c.self.inside.frames.entries c.args.spot.now)

same_state : (c : goal.After-self-in_default-1) → cached_of (record { pool = c.self.inside.pool; frames = c.get.follows.lender-at-none }) ≡ c.args.self.now
same_state c =
    ap (λ (f : LruCache BlockSpot ℕ). cached_of (record { pool = c.self.inside.pool; frames = f })) (same_frames c) ∙ c.self.view_is

pub returns-in_default-clause-absent : goal.returns-in_default-clause-absent
returns-in_default-clause-absent c = λ _. (same_state c, refl)

pub returns-in_default-clause-same : goal.returns-in_default-clause-same
returns-in_default-clause-same c = λ spot. ap (λ (b : CachedBlocks). bytes_of b spot) (same_state c)

-- ---- the block is cached

pub bytes-requires : goal.bytes-requires
bytes-requires c =
    IsInUse-found
    c.self.inside.pool
    c.self.inside.frames.entries
    c.args.spot.now
    c.in-Some.frame.now
    c.self.invariant.frames
    (sym c.in-Some.ensures.value)

pub returns-clause-found : goal.returns-clause-found
returns-clause-found c =
    rw
    (← c.self.view_is)
    (ap is_some c.in-Some.ensures.value ∙ holds-shown c.self.inside.pool c.self.inside.frames.entries c.args.spot.now)

pub returns-clause-bytes : goal.returns-clause-bytes
returns-clause-bytes c =
    λ _. rw
    (← c.self.view_is)
    (
    lookup-shown
    c.self.inside.pool
    c.self.inside.frames.entries
    c.args.spot.now
    (Some c.in-Some.frame.now)
    (sym c.in-Some.ensures.value)
    ∙ ap Some (sym (c.copy_from_slice.ensures.after ∙ c.bytes.ensures.value))
    )

pub invariant_of-self-2 : goal.invariant_of-self-2
invariant_of-self-2 c =
    let found : lookup (is_equal_to c.args.spot.now) c.self.inside.frames.entries ≡ Some c.in-Some.frame.now = sym c.in-Some.ensures.value in
    subst
    (λ (f : LruCache BlockSpot ℕ). IsSound (record { pool = c.self.inside.pool; frames = f }))
    (sym (found_in_front c.args.spot.now c.self.inside.frames.entries c.in-Some.frame.now c.self.inside.frames.cap c.get.follows.lender-at-none c.get.follows.holds-at-none found))
    (IsSound-front c.args.spot.now c.self.inside c.in-Some.frame.now c.self.invariant found)

pub returns-clause-first : goal.returns-clause-first
returns-clause-first c =
    λ _.
    let found : lookup (is_equal_to c.args.spot.now) c.self.inside.frames.entries ≡ Some c.in-Some.frame.now = sym c.in-Some.ensures.value in
    ap
    (λ (f : LruCache BlockSpot ℕ). keys (shown c.self.inside.pool f.entries))
    (found_in_front c.args.spot.now c.self.inside.frames.entries c.in-Some.frame.now c.self.inside.frames.cap c.get.follows.lender-at-none c.get.follows.holds-at-none found)
    ∙ keys-front c.args.spot.now c.self.inside.pool c.self.inside.frames.entries c.in-Some.frame.now c.self.invariant.apart
    ∙ ap (λ (b : CachedBlocks). c.args.spot.now ∷ without (keys_of b) c.args.spot.now) c.self.view_is

pub returns-clause-same : goal.returns-clause-same
returns-clause-same c =
    λ other.
    let found : lookup (is_equal_to c.args.spot.now) c.self.inside.frames.entries ≡ Some c.in-Some.frame.now = sym c.in-Some.ensures.value in
    ap
    (λ (f : LruCache BlockSpot ℕ). lookup (is_of other) (shown c.self.inside.pool f.entries))
    (found_in_front c.args.spot.now c.self.inside.frames.entries c.in-Some.frame.now c.self.inside.frames.cap c.get.follows.lender-at-none c.get.follows.holds-at-none found)
    ∙ lookup-front-shown c.args.spot.now c.self.inside.pool c.self.inside.frames.entries c.in-Some.frame.now other found
    ∙ ap (λ (b : CachedBlocks). bytes_of b other) c.self.view_is
