use Rattle.std.proofs.Common.{◌≡◌, ◌-◌, Some, None, ℕ, false, sym, ◌∙◌, ap, subst}
use Rattle.lru.specs.LruCache.{LruCache}
use Rattle.spec_base.specs.declared.spot.BlockSpot.{BlockSpot}
use Rattle.program_model.specs.Cache.{holds}
use Rattle.page_pool.specs.Frames.{IsGiven}
use Rattle.cache_queue.specs.State.{CachedBlocks, keys_of, with_block}
use Rattle.cache_queue.specs.Storage.{cached_of, IsSound}
use Rattle.cache_queue.proofs.Kept.{left_is, IsSound-put_frames, shown-put_frames, IsPut-room, IsPut-left, IsInUse-left, IsSound-back}
use Rattle.cache_queue.proofs.blocks.Blocks.keep.Goals as goal

-- ---- there was a place left

pub invariant_of-self-in-Ok-None : goal.invariant_of-self-in-Ok-None
invariant_of-self-in-Ok-None c =
    let absent : holds (keys_of (cached_of c.self.inside)) c.args.spot.now ≡ false =
    subst (λ (b : CachedBlocks). holds (keys_of b) c.args.spot.now ≡ false) (sym c.self.view_is) c.requires.absent in
    IsSound-put_frames c.args.spot.now c.self.inside c.filled_frame.new.pool c.in_ok-frame.frame c.args.bytes.now c.push.new.self c.self.invariant c.in-Ok-None.ensures.entries absent
    (IsPut-room c.args.spot.now c.self.inside c.filled_frame.new.pool c.in_ok-frame.frame c.args.bytes.now c.self.invariant c.in_ok-frame.ensures.ok
    (left_is c.args.spot.now c.self.inside c.filled_frame.new.pool c.in_ok-frame.frame c.args.bytes.now c.push.new.self c.self.invariant c.in-Ok-None.ensures.entries absent None
    (sym c.in-Ok-None.ensures.old ∙ c.in-Ok-None.field-0-is)))

pub returns-in-Ok-None-clause-ok : goal.returns-in-Ok-None-clause-ok
returns-in-Ok-None-clause-ok c =
    let absent : holds (keys_of (cached_of c.self.inside)) c.args.spot.now ≡ false =
    subst (λ (b : CachedBlocks). holds (keys_of b) c.args.spot.now ≡ false) (sym c.self.view_is) c.requires.absent in
    shown-put_frames c.args.spot.now c.self.inside c.filled_frame.new.pool c.in_ok-frame.frame c.args.bytes.now c.push.new.self c.self.invariant c.in-Ok-None.ensures.entries absent
    (IsPut-room c.args.spot.now c.self.inside c.filled_frame.new.pool c.in_ok-frame.frame c.args.bytes.now c.self.invariant c.in_ok-frame.ensures.ok
    (left_is c.args.spot.now c.self.inside c.filled_frame.new.pool c.in_ok-frame.frame c.args.bytes.now c.push.new.self c.self.invariant c.in-Ok-None.ensures.entries absent None
    (sym c.in-Ok-None.ensures.old ∙ c.in-Ok-None.field-0-is)))
    ∙ ap (λ (b : CachedBlocks). with_block b c.args.spot.now c.args.bytes.now) c.self.view_is

-- ---- the least recently used block left

pub give-requires : goal.give-requires
give-requires c =
    let absent : holds (keys_of (cached_of c.self.inside)) c.args.spot.now ≡ false =
    subst (λ (b : CachedBlocks). holds (keys_of b) c.args.spot.now ≡ false) (sym c.self.view_is) c.requires.absent in
    IsInUse-left c.args.spot.now c.self.inside c.filled_frame.new.pool c.in_ok-frame.frame c.args.bytes.now c.self.invariant c.in_ok-frame.ensures.ok
    (c.self.inside.frames.cap - 1)
    (c.in-Ok-Some.field-0-0-0, c.in-Ok-Some.left)
    (left_is c.args.spot.now c.self.inside c.filled_frame.new.pool c.in_ok-frame.frame c.args.bytes.now c.push.new.self c.self.invariant c.in-Ok-Some.ensures.entries absent (Some (c.in-Ok-Some.field-0-0-0, c.in-Ok-Some.left))
    (sym c.in-Ok-Some.ensures.old ∙ c.in-Ok-Some.field-0-is))

pub invariant_of-self-in-Ok-Some : goal.invariant_of-self-in-Ok-Some
invariant_of-self-in-Ok-Some c =
    let absent : holds (keys_of (cached_of c.self.inside)) c.args.spot.now ≡ false =
    subst (λ (b : CachedBlocks). holds (keys_of b) c.args.spot.now ≡ false) (sym c.self.view_is) c.requires.absent in
    IsSound-put_frames c.args.spot.now c.self.inside c.give.new.self c.in_ok-frame.frame c.args.bytes.now c.push.new.self c.self.invariant c.in-Ok-Some.ensures.entries absent
    (IsPut-left c.args.spot.now c.self.inside c.filled_frame.new.pool c.in_ok-frame.frame c.args.bytes.now c.self.invariant c.in_ok-frame.ensures.ok
    c.give.new.self
    (c.in-Ok-Some.field-0-0-0, c.in-Ok-Some.left)
    (left_is c.args.spot.now c.self.inside c.filled_frame.new.pool c.in_ok-frame.frame c.args.bytes.now c.push.new.self c.self.invariant c.in-Ok-Some.ensures.entries absent (Some (c.in-Ok-Some.field-0-0-0, c.in-Ok-Some.left))
    (sym c.in-Ok-Some.ensures.old ∙ c.in-Ok-Some.field-0-is))
    c.give.ensures)

pub returns-in-Ok-Some-clause-ok : goal.returns-in-Ok-Some-clause-ok
returns-in-Ok-Some-clause-ok c =
    let absent : holds (keys_of (cached_of c.self.inside)) c.args.spot.now ≡ false =
    subst (λ (b : CachedBlocks). holds (keys_of b) c.args.spot.now ≡ false) (sym c.self.view_is) c.requires.absent in
    shown-put_frames c.args.spot.now c.self.inside c.give.new.self c.in_ok-frame.frame c.args.bytes.now c.push.new.self c.self.invariant c.in-Ok-Some.ensures.entries absent
    (IsPut-left c.args.spot.now c.self.inside c.filled_frame.new.pool c.in_ok-frame.frame c.args.bytes.now c.self.invariant c.in_ok-frame.ensures.ok
    c.give.new.self
    (c.in-Ok-Some.field-0-0-0, c.in-Ok-Some.left)
    (left_is c.args.spot.now c.self.inside c.filled_frame.new.pool c.in_ok-frame.frame c.args.bytes.now c.push.new.self c.self.invariant c.in-Ok-Some.ensures.entries absent (Some (c.in-Ok-Some.field-0-0-0, c.in-Ok-Some.left))
    (sym c.in-Ok-Some.ensures.old ∙ c.in-Ok-Some.field-0-is))
    c.give.ensures)
    ∙ ap (λ (b : CachedBlocks). with_block b c.args.spot.now c.args.bytes.now) c.self.view_is

-- ---- there was no memory for the entry, and the frame goes back

pub invariant_of-self-in-Err : goal.invariant_of-self-in-Err
invariant_of-self-in-Err c =
    let same : c.in-Err.field-0.value.1 ≡ c.in_ok-frame.frame = ap (λ (v : BlockSpot × ℕ). v.1) c.in-Err.ensures.value_returned in
    let given : IsGiven c.filled_frame.new.pool c.give-in-Err.new.self c.in_ok-frame.frame =
    subst (λ k. IsGiven c.filled_frame.new.pool c.give-in-Err.new.self k) same c.give-in-Err.ensures in
    subst
    (λ (f : LruCache BlockSpot ℕ). IsSound (record { pool = c.give-in-Err.new.self; frames = f }))
    (sym c.in-Err.ensures.err)
    (IsSound-back c.args.spot.now c.self.inside c.filled_frame.new.pool c.in_ok-frame.frame c.args.bytes.now c.self.invariant c.in_ok-frame.ensures.ok c.give-in-Err.new.self given)
