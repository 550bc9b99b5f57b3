use Rattle.std.proofs.Common.{◌≤◌, length, arith}
use Rattle.hart_mem.specs.Held.{space_of}
use Rattle.hart_mem.specs.contracts.mem.Mem.{the_view}
use Rattle.hart_mem.proofs.MemLemmas.{coded_space}
use Rattle.hart_mem.proofs.mem.Mem.set_code.Goals as goal

pub returns-clause-ok : goal.returns-clause-ok
unfolding space_of
returns-clause-ok c =
    let shadow : 1 ≤ length c.args.shadow.items = omega (arith, c.requires.shadow) in
    rw (← c.self.view_is, c.in_ok-shadow.ensures, c.in_ok-helpers.ensures, c.in_ok-stub.ensures) (coded_space (the_view c.self.inside) c.args.shadow.items c.args.helpers.items c.args.stub.items shadow (omega (arith, c.requires.helpers)) (omega (arith, c.requires.stub)))
