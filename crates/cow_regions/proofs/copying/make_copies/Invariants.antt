use Rattle.std.proofs.Common.{◌≡◌}
use Rattle.hart_mem.specs.Held.{space_of, spare_of}
use Rattle.cow_regions.proofs.CopyRuns.{IsMade}
use Rattle.cow_regions.proofs.copying.make_copies.Given as goal

-- the regions before one have copies
abbrev pub invariant-loop-region : goal.invariant-loop-region
invariant-loop-region l = record {
  made : IsMade (space_of l.fn.mem) (space_of l.mem) l.first l.region l.end;
  spare : spare_of l.mem ≡ spare_of l.fn.mem;
}
