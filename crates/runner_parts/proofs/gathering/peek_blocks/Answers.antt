use Rattle.std.proofs.Common.{◌≡◌, ◌≤◌, ℕ, ◌+◌, ◌-◌, ◌*◌, Bool, true, false, List, length, refl, sym, ap, ◌∙◌, arith, take}
use borrow.Rule.Slice.PartMut.{post_of}
use Rattle.spec_base.specs.declared.spot.BlockSpot.{BlockSpot}
use Rattle.cache_queue.specs.State.{lists}
use Rattle.runner_parts.specs.Staged.{joined_up}
use Rattle.runner_parts.proofs.NeededBlocks.{held-one, misses-one, held-none, from-first}
use Rattle.runner_parts.proofs.Staged.{one-more, known}
use Rattle.runner_parts.proofs.gathering.peek_blocks.Goals as goal

pub loop-index-init : goal.loop-index-init
loop-index-init c = record {
  held = from-first (lists c.args.cache.now).cached c.args.name.now c.args.first c.args.count;
  staged = λ files t. refl;
}

pub loop-index-preserved : goal.loop-index-preserved
loop-index-preserved c =
    let i : ℕ = c.loop-index.index in
    let room : 4096 * i ≤ length c.loop-index.into = omega (arith, c.loop-index-test.true, c.loop-index.auto.index-end, c.requires.room, c.loop-index.auto.into) in
    let cached : List BlockSpot = (lists c.args.cache.now).cached in
    record {
      held = sym (held-one cached c.args.name.now c.args.first i c.args.count c.loop-index-test.true (sym c.peek.ensures.found ∙ c.if-not-peek.false)) ∙ c.loop-index.invariant.held;
      staged = λ files t.
          one-more files c.args.name.now c.args.first i c.loop-index.into c.peek.new.into (post_of (4096 * i) (4096 * i + 4096 - 4096 * i) c.loop-index.into) room
          (known files c.args.cache.now.blocks c.args.cache.now.blocks (record { name = c.args.name.now; block = c.args.first + i }) c.peek.new.into t (λ spot. refl) (c.peek.ensures.bytes c.if-not-peek.false))
          (c.loop-index.invariant.staged files t);
    }

pub returns-then-not-peek-clause-held : goal.returns-then-not-peek-clause-held
returns-then-not-peek-clause-held c =
    sym (misses-one (lists c.args.cache.now).cached c.args.name.now c.args.first c.loop-index.index c.args.count c.loop-index-test.true (sym c.peek.ensures.found ∙ c.if-not-peek.true)) ∙ c.loop-index.invariant.held

pub returns-clause-held : goal.returns-clause-held
returns-clause-held c =
    sym (held-none (lists c.args.cache.now).cached c.args.name.now c.args.first c.loop-index.index c.args.count (omega (arith, c.loop-index-test.false, c.loop-index.auto))) ∙ c.loop-index.invariant.held

pub returns-clause-staged : goal.returns-clause-staged
returns-clause-staged c files t all =
    let done : c.loop-index.index ≡ c.args.count = omega (arith, c.loop-index-test.false, c.loop-index.auto) in
    ap (λ (k : ℕ). take (4096 * k) c.loop-index.into) (sym done) ∙ c.loop-index.invariant.staged files t ∙ ap (λ (k : ℕ). joined_up files c.args.name.now c.args.first k) done
