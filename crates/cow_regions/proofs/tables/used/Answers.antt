use Rattle.hart_mem.specs.Held.{space_of}
use Rattle.cow_regions.proofs.SharedNumbers.{count-number}
use Rattle.cow_regions.proofs.tables.used.Goals as goal

pub number-count-requires : goal.number-count-requires
number-count-requires c = count-number (space_of c.args.mem.now).layout
