use Rattle.std.proofs.Common.{◌≡◌, ◌+◌, ◌-◌, length}
use Rattle.code_model.specs.Regions.{uncopied}
use Rattle.hart_mem.specs.Held.{space_of}
use Rattle.cow_regions.proofs.copying.count_new.Given as goal

-- those that are left are counted on
abbrev pub invariant-loop-region : goal.invariant-loop-region
invariant-loop-region l = l.count + length (uncopied (space_of l.mem).shared l.region (l.end - l.region)) ≡ length (uncopied (space_of l.mem).shared l.first (l.end - l.first))
