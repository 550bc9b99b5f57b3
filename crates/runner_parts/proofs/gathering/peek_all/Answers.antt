use Rattle.std.proofs.Common.{◌≡◌, ℕ, ◌*◌, ◌/◌, List, length, take, sym, ap, ◌∙◌}
use Rattle.spec_base.specs.declared.spot.BlockSpot.{BlockSpot}
use Rattle.program_model.specs.Cache.{blocks_of, blocks_up}
use Rattle.run_model.specs.ShadowMoves.{all_held}
use Rattle.cache_queue.specs.State.{lists}
use Rattle.runner_parts.specs.Staged.{joined, joined_up}
use Rattle.runner_parts.proofs.Blocks.{blocks-are}
use Rattle.runner_parts.proofs.gathering.peek_all.Goals as goal

pub returns-clause-held : goal.returns-clause-held
returns-clause-held c =
    let spot = c.args.spot.now in
    let first : ℕ = spot.offset / 4096 in
    c.peek_blocks.ensures.held ∙ ap (λ (n : ℕ). all_held (lists c.args.cache.now).cached (blocks_up spot.name first n)) c.block_count.ensures.count
    ∙ ap (λ (b : List BlockSpot). all_held (lists c.args.cache.now).cached b) (sym (blocks-are spot))

pub returns-clause-staged : goal.returns-clause-staged
returns-clause-staged c files t all =
    let spot = c.args.spot.now in
    let first : ℕ = spot.offset / 4096 in
    ap (λ (n : ℕ). take (4096 * n) c.peek_blocks.new.into) (sym c.block_count.ensures.count) ∙ c.peek_blocks.ensures.staged files t all
    ∙ ap (λ (n : ℕ). joined_up files spot.name first n) c.block_count.ensures.count ∙ ap (λ (b : List BlockSpot). joined files b) (sym (blocks-are spot))
