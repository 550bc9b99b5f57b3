use Rattle.std.proofs.Common.{◌≡◌, ◌+◌, ◌-◌, ◌*◌, take}
use Rattle.spec_base.specs.Files.{Files}
use Rattle.program_model.specs.Cache.{blocks_up}
use Rattle.run_model.specs.ShadowMoves.{all_held}
use Rattle.cache_queue.specs.State.{lists}
use Rattle.cache_queue.specs.Finishes.{TrueTo}
use Rattle.runner_parts.specs.Staged.{joined_up}
use Rattle.runner_parts.proofs.gathering.peek_blocks.Given as goal

abbrev pub invariant-loop-index : goal.invariant-loop-index
invariant-loop-index l =
    record {
      held : all_held (lists l.cache).cached (blocks_up l.name (l.first + l.index) (l.count - l.index)) ≡ all_held (lists l.cache).cached (blocks_up l.name l.first l.count);
      staged : (files : Files) → TrueTo files l.cache.blocks → take (4096 * l.index) l.into ≡ joined_up files l.name l.first l.index;
    }
