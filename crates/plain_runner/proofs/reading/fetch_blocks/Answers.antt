use Rattle.std.proofs.Common.{◌≡◌, ◌≤◌, ◌+◌, ◌-◌, length, arith, ◌∙◌}
use borrow.Rule.Slice.PartMut.{post_of}
use Rattle.program_model.specs.Cache.{blocks_of}
use Rattle.plain_runner.proofs.Blocks.{got-FetchLog, whole-FetchesTo, mid-length}
use Rattle.plain_runner.proofs.reading.fetch_blocks.Goals as goal

pub loop-index-preserved : goal.loop-index-preserved
loop-index-preserved g c =
    let room : c.loop-index.had + 4096 ≤ length c.loop-index.into = omega (arith, c.loop-index.invariant.most, c.loop-index-test.true, c.block_count-index-end.ensures.few, c.requires.room, c.loop-index.auto.into) in
    let part : c.in-Got.count ≤ length c.fetch.new.into =
    omega (arith, c.in-Got.ensures.size, c.fetch.auto.into ∙ mid-length c.loop-index.had 4096 c.loop-index.into room) in
    got-FetchLog _ _ _ c.args.spot.now c.loop-index.index c.loop-index.had c.in-Got.count c.loop-index.into c.fetch.new.into
    (post_of c.loop-index.had (c.loop-index.had + 4096 - c.loop-index.had) c.loop-index.into) c.loop-index.invariant
    (omega (arith, room)) part c.in-Got.ensures.size c.in-Got.ensures.keeps c.in-Got.ensures.number c.in-Got.ensures.told

pub returns : goal.returns
returns g c =
    let all : c.loop-index.index ≡ length (blocks_of c.args.spot.now) = omega (arith, c.loop-index-test.false, c.loop-index.auto.index-end, c.block_count-index-end.ensures.count) in
    let low : c.loop-index.had ≤ length c.loop-index.into = omega (arith, c.loop-index.invariant.most, c.loop-index.auto.index-end, c.block_count-index-end.ensures.few, c.requires.room, c.loop-index.auto.into) in
    whole-FetchesTo _ _ c.args.spot.now c.loop-index.index c.loop-index.had c.loop-index.into c.loop-index.invariant all low
