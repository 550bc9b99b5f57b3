use Rattle.std.proofs.Common.{◌≡◌, ◌≤◌, ℕ, ◌+◌, ◌-◌, ◌*◌, ◌/◌, Some, List, length, take, nat_lt, refl, sym, ap, ◌∙◌, arith}
use Rattle.spec_base.specs.declared.spot.BlockSpot.{BlockSpot}
use Rattle.program_model.specs.Cache.{blocks_of, blocks_up, gather}
use Rattle.cache_queue.specs.State.{lists}
use Rattle.runner_parts.specs.Gathers.{gathered}
use Rattle.runner_parts.specs.Staged.{joined, joined_up}
use Rattle.runner_parts.specs.Parts.{demand_if}
use Rattle.runner_parts.proofs.Blocks.{front-of, rest-of, waited-for}
use Rattle.runner_parts.proofs.gathering.need_rest.Goals as goal

pub returns-clause-lists : goal.returns-clause-lists
returns-clause-lists c low =
    let count : c.block_count-count.result ≡ length (blocks_of c.args.spot.now) = c.block_count-count.ensures.count in
    let from : c.min.result ≡ c.args.had = omega (arith, c.min.ensures, count, low) in
    let first : ℕ = c.args.spot.now.offset / 4096 in
    (λ i. gathered (lists c.need_blocks.new.cache) c.need_blocks.result (sym count i)) ∙ c.need_blocks.ensures.lists
    ∙ (λ i. gather (lists c.args.cache.now) (from i) (blocks_up c.args.spot.now.name (first + from i) (count i - from i)))
    ∙ ap (λ (k : List BlockSpot). gather (lists c.args.cache.now) c.args.had k) (sym (rest-of c.args.spot.now c.args.had low))

pub returns-clause-demanded : goal.returns-clause-demanded
returns-clause-demanded c =
    c.need_blocks.ensures.demanded
    ∙ (λ i. demand_if (nat_lt c.need_blocks.result (c.block_count-count.ensures.count i)) (Some (record { name = c.args.spot.now.name; block = c.args.spot.now.offset / 4096 + c.need_blocks.result })))
    ∙ waited-for c.args.spot.now c.need_blocks.result (nat_lt c.need_blocks.result (length (blocks_of c.args.spot.now))) refl

pub returns-clause-staged : goal.returns-clause-staged
returns-clause-staged c files low true_to before =
    let count : c.block_count-count.result ≡ length (blocks_of c.args.spot.now) = c.block_count-count.ensures.count in
    let from : c.min.result ≡ c.args.had = omega (arith, c.min.ensures, count, low) in
    let first : ℕ = c.args.spot.now.offset / 4096 in
    let had : c.need_blocks.result ≤ length (blocks_of c.args.spot.now) = omega (arith, c.need_blocks.ensures.within, count) in
    let start : take (4096 * c.min.result) c.args.into.now ≡ joined_up files c.args.spot.now.name first c.min.result =
    ap (λ (k : ℕ). take (4096 * k) c.args.into.now) from ∙ before ∙ ap (λ (k : List BlockSpot). joined files k) (front-of c.args.spot.now c.args.had low) ∙ ap (λ (k : ℕ). joined_up files c.args.spot.now.name first k) (sym from) in
    c.need_blocks.ensures.staged files true_to start ∙ ap (λ (k : List BlockSpot). joined files k) (sym (front-of c.args.spot.now c.need_blocks.result had))
