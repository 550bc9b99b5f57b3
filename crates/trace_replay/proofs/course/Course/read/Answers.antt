use Rattle.std.proofs.Common.{◌≡◌, ℕ, ◌+◌, ◌<◌, refl, sym, ◌∙◌, ap, subst, arith}
use Rattle.spec_base.specs.declared.spot.BlockSpot.{BlockSpot}
use Rattle.spec_base.specs.declared.spot.ReadSpot.{ReadSpot}
use Rattle.trace_replay.specs.Replays.{Settings, Replayed, needed, all_needed, read_again}
use Rattle.trace_replay.specs.Courses.{settings, shown}
use Rattle.trace_replay.proofs.Finishing.{InRead, Grows, read_goes_on, read_ends}
use Rattle.trace_replay.proofs.course.Course.read.Goals as goal

-- the totals of one more need are at most those of all
grows : (s now : Settings) (target r : Replayed) (spot : ReadSpot) (block end : ℕ) → now ≡ s → block < end → InRead s target r spot block end → Grows s (needed now r (record { name = spot.name; block = block })) target
grows s now target r spot block end e lt p =
    subst (λ t. Grows s (needed t r (record { name = spot.name; block = block })) target) (sym e) (read_goes_on s target r spot block end lt p).1

pub loop-block-init : goal.loop-block-init
loop-block-init c =
    let s = settings c.args.self.now in
    record {
      same = refl;
      so_far = record { rest = ap (all_needed s (record (shown c.args.self.now) { reads = c.args.self.now.totals.reads + 1 })) c.block_numbers-blocks.ensures.blocks };
    }

pub need-requires-clause-needs : goal.need-requires-clause-needs
need-requires-clause-needs c =
    let s = settings c.args.self.now in
    let g = grows s (settings c.loop-block.self) (read_again s (shown c.args.self.now) c.args.read.now) (shown c.loop-block.self) c.args.read.now c.loop-block.block c.block_numbers-blocks.result.end c.loop-block.invariant.same c.loop-block-test.true c.loop-block.invariant.so_far in
    omega (arith, g.needs, c.requires.needs)

pub need-requires-clause-stalls : goal.need-requires-clause-stalls
need-requires-clause-stalls c =
    let s = settings c.args.self.now in
    let g = grows s (settings c.loop-block.self) (read_again s (shown c.args.self.now) c.args.read.now) (shown c.loop-block.self) c.args.read.now c.loop-block.block c.block_numbers-blocks.result.end c.loop-block.invariant.same c.loop-block-test.true c.loop-block.invariant.so_far in
    omega (arith, g.stalls, c.requires.stalls)

pub need-requires-clause-fetches : goal.need-requires-clause-fetches
need-requires-clause-fetches c =
    let s = settings c.args.self.now in
    let g = grows s (settings c.loop-block.self) (read_again s (shown c.args.self.now) c.args.read.now) (shown c.loop-block.self) c.args.read.now c.loop-block.block c.block_numbers-blocks.result.end c.loop-block.invariant.same c.loop-block-test.true c.loop-block.invariant.so_far in
    omega (arith, g.fetches, c.requires.fetches)

pub loop-block-preserved : goal.loop-block-preserved
loop-block-preserved c =
    let s = settings c.args.self.now in
    let target = read_again s (shown c.args.self.now) c.args.read.now in
    let block = c.loop-block.block in
    let end = c.block_numbers-blocks.result.end in
    let spot : BlockSpot = record { name = c.args.read.now.name; block = block } in
    let next = (read_goes_on s target (shown c.loop-block.self) c.args.read.now block end c.loop-block-test.true c.loop-block.invariant.so_far).0 in
    let is : shown c.need.new.self ≡ needed s (shown c.loop-block.self) spot =
    c.in_ok-need.ensures.shown ∙ ap (λ t. needed t (shown c.loop-block.self) spot) c.loop-block.invariant.same in
    record {
      same = c.in_ok-need.ensures.settings ∙ c.loop-block.invariant.same;
      so_far = subst (λ r. InRead s target r c.args.read.now (block + 1) end) (sym is) next;
    }

pub returns-clause-shown : goal.returns-clause-shown
returns-clause-shown c =
    let s = settings c.args.self.now in
    read_ends s (read_again s (shown c.args.self.now) c.args.read.now) (shown c.loop-block.self) c.args.read.now c.loop-block.block c.block_numbers-blocks.result.end (omega (arith, c.loop-block-test.false)) c.loop-block.invariant.so_far
