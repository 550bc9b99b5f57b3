use Rattle.std.proofs.Common.{◌∙◌, refl, arith}
use Rattle.hart_mem.specs.Held.{space_of}
use Rattle.cow_regions.proofs.CopyRuns.{IsMade-start, IsMade-more, IsMade-end, IsMade-room}
use Rattle.cow_regions.proofs.copying.make_copies.Goals as goal

pub loop-region-init : goal.loop-region-init
loop-region-init c = record { made = IsMade-start (space_of c.args.mem.now) c.args.first c.args.end c.requires.room; spare = refl }

pub make_copy-requires-clause-room : goal.make_copy-requires-clause-room
make_copy-requires-clause-room c = IsMade-room (space_of c.args.mem.now) (space_of c.loop-region.mem) c.args.first c.loop-region.region c.args.end c.requires.few c.loop-region.invariant.made c.loop-region-test.true c.requires.inside

pub loop-region-preserved : goal.loop-region-preserved
loop-region-preserved c =
    record {
      made = IsMade-more (space_of c.args.mem.now) (space_of c.loop-region.mem) (space_of c.make_copy.new.mem) c.args.first c.loop-region.region c.args.end c.requires.few c.loop-region.invariant.made c.loop-region-test.true c.requires.inside c.make_copy.ensures.space;
      spare = c.make_copy.ensures.spare ∙ c.loop-region.invariant.spare;
    }

pub returns-clause-space : goal.returns-clause-space
returns-clause-space c = IsMade-end (space_of c.args.mem.now) (space_of c.loop-region.mem) c.args.first c.loop-region.region c.args.end (omega arith) c.loop-region.invariant.made
