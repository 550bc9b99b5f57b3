use Rattle.std.proofs.Common.{◌≡◌, ◌+◌, ◌-◌, ◌/◌}
use Rattle.program_model.specs.Cache.{blocks_up, all_hinted}
use Rattle.cache_queue.specs.State.{lists}
use Rattle.runner_parts.proofs.hinting.hint_blocks.Given as goal

abbrev pub invariant-loop-index : goal.invariant-loop-index
invariant-loop-index l =
    record {
      left : all_hinted l.fn.cache.depth (lists l.cache) (blocks_up l.spot.name (l.spot.offset / 4096 + l.index) (l.index-end - l.index)) ≡ all_hinted l.fn.cache.depth (lists l.fn.cache) (blocks_up l.spot.name (l.spot.offset / 4096) l.index-end);
      demanded : l.cache.demanded ≡ l.fn.cache.demanded;
      blocks : l.cache.blocks ≡ l.fn.cache.blocks;
      depth : l.cache.depth ≡ l.fn.cache.depth;
    }
