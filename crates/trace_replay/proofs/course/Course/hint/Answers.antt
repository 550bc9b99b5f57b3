use Rattle.std.proofs.Common.{◌≡◌, ◌+◌, refl, sym, ◌∙◌, ap, subst, arith}
use Rattle.spec_base.specs.declared.spot.BlockSpot.{BlockSpot}
use Rattle.program_model.specs.Cache.{blocks_of, hinted, all_hinted}
use Rattle.trace_replay.specs.Lists.{BoundedCache}
use Rattle.trace_replay.specs.Replays.{Settings, with_cache}
use Rattle.trace_replay.specs.Courses.{settings, shown}
use Rattle.trace_replay.proofs.Finishing.{InHint, hint_goes_on, hint_ends}
use Rattle.trace_replay.proofs.course.Course.hint.Goals as goal

pub loop-block-init : goal.loop-block-init
loop-block-init c =
    let lists = c.args.self.now.lists in
    record {
      same = refl;
      others = refl;
      so_far = record { rest = ap (all_hinted lists.depth lists.cache) c.block_numbers-blocks.ensures.blocks };
    }

pub loop-block-preserved : goal.loop-block-preserved
loop-block-preserved c =
    let lists = c.args.self.now.lists in
    let end = c.block_numbers-blocks.result.end in
    let target = all_hinted lists.depth lists.cache (blocks_of c.args.read.now) in
    let now = c.loop-block.self in
    let block = c.loop-block.block in
    let spot : BlockSpot = record { name = c.args.read.now.name; block = block } in
    let deep : now.lists.depth ≡ lists.depth = ap (λ t. t.depth) c.loop-block.invariant.same in
    let next = hint_goes_on lists.depth target now.lists.cache c.args.read.now block end c.loop-block-test.true c.loop-block.invariant.so_far in
    let is : c.hint.new.self.cache ≡ hinted lists.depth now.lists.cache spot = ap (λ (b : BoundedCache). b.cache) c.in_ok-hint.ensures ∙ ap (λ d. hinted d now.lists.cache spot) deep in
    let bounds : settings (record now { lists = c.hint.new.self }) ≡ settings now = ap (λ (b : BoundedCache). record (settings now) { blocks = b.blocks; depth = b.depth }) c.in_ok-hint.ensures in
    record {
      same = bounds ∙ c.loop-block.invariant.same;
      others = ap (λ r. with_cache r c.hint.new.self.cache) c.loop-block.invariant.others;
      so_far = subst (λ l. InHint lists.depth target l c.args.read.now (block + 1) end) (sym is) next;
    }

pub returns-clause-shown : goal.returns-clause-shown
returns-clause-shown c =
    let lists = c.args.self.now.lists in
    let target = all_hinted lists.depth lists.cache (blocks_of c.args.read.now) in
    c.loop-block.invariant.others
    ∙ ap (with_cache (shown c.args.self.now))
    (hint_ends lists.depth target c.loop-block.self.lists.cache c.args.read.now c.loop-block.block c.block_numbers-blocks.result.end (omega (arith, c.loop-block-test.false)) c.loop-block.invariant.so_far)
