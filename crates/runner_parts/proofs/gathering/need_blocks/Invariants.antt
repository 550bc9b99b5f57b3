use Rattle.std.proofs.Common.{◌≡◌, ◌+◌, ◌-◌, ◌*◌, None, take}
use Rattle.spec_base.specs.Files.{Files}
use Rattle.program_model.specs.Cache.{blocks_up, gather}
use Rattle.cache_queue.specs.State.{lists, SameBytes}
use Rattle.cache_queue.specs.Finishes.{TrueTo}
use Rattle.runner_parts.specs.Staged.{joined_up}
use Rattle.runner_parts.proofs.gathering.need_blocks.Given as goal

abbrev pub invariant-loop-index : goal.invariant-loop-index
invariant-loop-index l =
    record {
      lists : gather (lists l.cache) l.index (blocks_up l.name (l.first + l.index) (l.count - l.index)) ≡ gather (lists l.fn.cache) l.from (blocks_up l.name (l.first + l.from) (l.count - l.from));
      idle : l.cache.demanded ≡ None;
      same : SameBytes l.fn.cache.blocks l.cache.blocks;
      staged : (files : Files) → TrueTo files l.fn.cache.blocks → take (4096 * l.from) l.fn.into ≡ joined_up files l.name l.first l.from → take (4096 * l.index) l.into ≡ joined_up files l.name l.first l.index;
      depth : l.cache.depth ≡ l.fn.cache.depth;
      most : l.cache.blocks.most ≡ l.fn.cache.blocks.most;
    }
