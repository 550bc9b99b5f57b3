use Rattle.std.proofs.Common.{◌≡◌, ℕ, ◌+◌, ◌-◌, ◌/◌, List, sym, ap, ◌∙◌, arith}
use Rattle.spec_base.specs.declared.spot.BlockSpot.{BlockSpot}
use Rattle.program_model.specs.Cache.{Cache, blocks_up, all_hinted, hinted}
use Rattle.cache_queue.specs.State.{lists}
use Rattle.runner_parts.proofs.Blocks.{hint-next, hint-none, blocks-are}
use Rattle.runner_parts.proofs.hinting.hint_blocks.Goals as goal

pub overflow_add-first : goal.overflow_add-first
overflow_add-first c = omega (arith, c.requires.offset, c.loop-index-test.true, c.block_count-index-end.ensures.few)

pub loop-index-preserved : goal.loop-index-preserved
loop-index-preserved c =
    let depth : ℕ = c.args.cache.now.depth in
    let first : ℕ = c.args.spot.now.offset / 4096 in
    let spot : BlockSpot = record { name = c.args.spot.now.name; block = first + c.loop-index.index } in
    let one : lists c.hint.new.self ≡ hinted depth (lists c.loop-index.cache) spot = c.hint.ensures.lists ∙ ap (λ (d : ℕ). hinted d (lists c.loop-index.cache) spot) c.loop-index.invariant.depth in
    let n : ℕ = c.block_count-index-end.result in
    record {
      left =
          ap (λ (k : Cache). all_hinted depth k (blocks_up c.args.spot.now.name (first + (c.loop-index.index + 1)) (n - (c.loop-index.index + 1)))) one
          ∙ sym (hint-next depth (lists c.loop-index.cache) c.args.spot.now.name first c.loop-index.index n c.loop-index-test.true) ∙ c.loop-index.invariant.left;
      demanded = c.hint.ensures.demanded ∙ c.loop-index.invariant.demanded;
      blocks = c.hint.ensures.blocks ∙ c.loop-index.invariant.blocks;
      depth = c.hint.ensures.depth ∙ c.loop-index.invariant.depth;
    }

pub returns-clause-lists : goal.returns-clause-lists
returns-clause-lists c =
    let depth : ℕ = c.args.cache.now.depth in
    let first : ℕ = c.args.spot.now.offset / 4096 in
    let n : ℕ = c.block_count-index-end.result in
    let name : List ℕ = c.args.spot.now.name in
    sym (hint-none depth (lists c.loop-index.cache) name first c.loop-index.index n c.loop-index-test.false) ∙ c.loop-index.invariant.left
    ∙ ap (λ (k : ℕ). all_hinted depth (lists c.args.cache.now) (blocks_up name first k)) c.block_count-index-end.ensures.count
    ∙ ap (λ (b : List BlockSpot). all_hinted depth (lists c.args.cache.now) b) (sym (blocks-are c.args.spot.now))
