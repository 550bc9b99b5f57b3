use Rattle.std.proofs.Common.{ap, arith}
use Rattle.hart_mem.specs.Held.{space_of}
use Rattle.code_model.specs.Tables.{all_regions}
use Rattle.cow_regions.proofs.SharedNumbers.{entry-number}
use Rattle.cow_regions.proofs.tables.slot_of.Goals as goal

pub number-entry-requires : goal.number-entry-requires
number-entry-requires c = entry-number (space_of c.args.mem.now).layout c.args.region (omega (arith, c.range_end.ensures, ap all_regions c.layout.ensures.value))
