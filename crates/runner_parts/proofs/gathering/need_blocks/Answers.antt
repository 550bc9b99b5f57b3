use Rattle.std.proofs.Common.{◌≡◌, ◌≤◌, ℕ, ◌+◌, ◌-◌, ◌*◌, Bool, true, false, ◌↔◌, length, refl, sym, ap, ◌∙◌, arith}
use borrow.Rule.Slice.PartMut.{post_of}
use Rattle.program_model.specs.Cache.{Cache, blocks_up, gather, holds}
use Rattle.cache_queue.specs.State.{lists}
use Rattle.cache_queue.specs.declared.cache.Need.TheVariants.{Ready, Wait}
use Rattle.runner_parts.specs.Gathers.{gathered}
use Rattle.runner_parts.proofs.NeededBlocks.{had-one, waits-one, has-all}
use Rattle.runner_parts.proofs.Staged.{one-more, known}
use Rattle.runner_parts.proofs.gathering.need_blocks.Goals as goal

not-held : (b : Bool) → (Wait ≡ Ready ↔ b ≡ true) → b ≡ false
not-held false h = refl
not-held true h = absurd (let e : Wait ≡ Ready = h.1 refl in cc)

pub loop-index-preserved : goal.loop-index-preserved
loop-index-preserved c =
    let now : Cache = lists c.loop-index.cache in
    let i : ℕ = c.loop-index.index in
    let room : 4096 * i ≤ length c.loop-index.into = omega (arith, c.loop-index-test.true, c.loop-index.auto.index-end, c.requires.room, c.loop-index.auto.into) in
    record {
      lists =
          ap (λ (k : Cache). gather k (i + 1) (blocks_up c.args.name.now (c.args.first + (i + 1)) (c.args.count - (i + 1)))) c.in-Ready.ensures.lists
          ∙ sym (had-one now c.args.name.now c.args.first i c.args.count c.loop-index-test.true (c.in-Ready.ensures.ready.0 refl)) ∙ c.loop-index.invariant.lists;
      idle = c.in-Ready.ensures.idle refl;
      same = λ spot. c.in-Ready.ensures.same spot ∙ c.loop-index.invariant.same spot;
      staged = λ files t before.
          one-more files c.args.name.now c.args.first i c.loop-index.into c.need.new.into (post_of (4096 * i) (4096 * i + 4096 - 4096 * i) c.loop-index.into) room
          (known files c.args.cache.now.blocks c.loop-index.cache.blocks (record { name = c.args.name.now; block = c.args.first + i }) c.need.new.into t c.loop-index.invariant.same (c.in-Ready.ensures.bytes refl))
          (c.loop-index.invariant.staged files t before);
      depth = c.in-Ready.ensures.depth ∙ c.loop-index.invariant.depth;
      most = c.in-Ready.ensures.most ∙ c.loop-index.invariant.most;
    }

pub returns-in-Wait-clause-lists : goal.returns-in-Wait-clause-lists
returns-in-Wait-clause-lists c =
    let now : Cache = lists c.loop-index.cache in
    let i : ℕ = c.loop-index.index in
    ap (λ (k : Cache). gathered k i c.args.count) c.in-Wait.ensures.lists
    ∙ sym (waits-one now c.args.name.now c.args.first i c.args.count c.loop-index-test.true (not-held (holds now.cached _) c.in-Wait.ensures.ready)) ∙ c.loop-index.invariant.lists

pub returns-clause-lists : goal.returns-clause-lists
returns-clause-lists c =
    sym (has-all (lists c.loop-index.cache) c.args.name.now c.args.first c.loop-index.index c.args.count (omega (arith, c.loop-index-test.false, c.loop-index.auto, c.requires.begun))) ∙ c.loop-index.invariant.lists
