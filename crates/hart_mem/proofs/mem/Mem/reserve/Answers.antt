use Rattle.std.proofs.Common.{arith}
use Rattle.std.specs.Prelude.{is_some}
use Rattle.std.proofs.lemmas.List.Sums.{count_by-le-length}
use Rattle.hart_mem.specs.contracts.mem.Mem.{the_view}
use Rattle.hart_mem.proofs.MemLemmas.{same_space}
use Rattle.hart_mem.proofs.mem.Mem.reserve.Goals as goal

pub reserve-requires : goal.reserve-requires
reserve-requires c = omega (arith, count_by-le-length is_some c.self.inside.pages.table)

pub returns-clause-space : goal.returns-clause-space
returns-clause-space c = rw (← c.self.view_is) (same_space (the_view c.self.inside) c.reserve.new.self c.reserve.ensures.bytes)
