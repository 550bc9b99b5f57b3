use Rattle.std.proofs.Common.{ap}
use Rattle.std.specs.List.{list_any}
use Rattle.std.specs.BTreeMap.{is_at}
use Rattle.std.specs.Ordering.{nat_cmp}
use Rattle.program_driver.proofs.Using.{start-keeps}
use Rattle.program_driver.proofs.uses.UseTrace.new.Goals as goal

pub returns-clause-keeps : goal.returns-clause-keeps
returns-clause-keeps c w = start-keeps w _ (λ n. ap (λ ks. list_any (is_at (nat_cmp n)) ks) c.new-2.ensures.empty)
