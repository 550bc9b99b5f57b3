use Rattle.std.proofs.Common.{length}
use Rattle.hart_mem.specs.Held.{space_of}
use Rattle.cow_regions.proofs.RangeBytes.{data-past}
use Rattle.cow_regions.proofs.tests.filled.Goals as goal

pub fill_copies-requires-clause-inside : goal.fill_copies-requires-clause-inside
fill_copies-requires-clause-inside c = data-past (space_of c.args.mem.now).layout c.args.address (length c.args.bytes.now) c.requires.lawful c.requires.version c.requires.above c.requires.below
