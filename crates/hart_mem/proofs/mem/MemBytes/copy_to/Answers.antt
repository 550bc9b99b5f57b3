use Rattle.std.proofs.Common.{◌∙◌, ◌≤◌, length, arith}
use Rattle.std.proofs.lemmas.Bool.Decides.{nat_tests}
use Rattle.hart_mem.specs.contracts.mem.Mem.{the_view}
use Rattle.rv_model.specs.Data.{memory_in}
use Rattle.hart_mem.specs.Held.{data_byte, space_of}
use Rattle.hart_mem.proofs.DataBytes.{data_bytes, data_fits, data_inside, no_bytes}
use Rattle.hart_mem.proofs.mem.MemBytes.copy_to.Goals as goal

pub copy_to-requires-clause-inside : goal.copy_to-requires-clause-inside
copy_to-requires-clause-inside c =
    let some : 1 ≤ length c.args.into.now = grind (arith, nat_tests) in
    let all = rw (← c.self.view_is) at c.requires in
    data_inside (the_view c.self.inside) c.self.invariant.0 c.args.address (length c.args.into.now) some all

pub copy_to-requires-clause-fits : goal.copy_to-requires-clause-fits
copy_to-requires-clause-fits c =
    let some : 1 ≤ length c.args.into.now = grind (arith, nat_tests) in
    let all = rw (← c.self.view_is) at c.requires in
    data_fits (the_view c.self.inside) c.self.invariant.0 c.args.address (length c.args.into.now) some all

pub returns-then-not-is_empty : goal.returns-then-not-is_empty
returns-then-not-is_empty c =
    let all = rw (← c.self.view_is) at c.requires in
    rw (← c.self.view_is) (c.copy_to.ensures ∙ data_bytes (the_view c.self.inside) c.args.address (length c.args.into.now) all)

pub returns-else-not-is_empty : goal.returns-else-not-is_empty
returns-else-not-is_empty c = no_bytes (memory_in (data_byte (space_of c.args.self.now))) c.args.address c.args.into.now (grind (arith, nat_tests))
