use Rattle.std.proofs.Common.{◌≡◌, Result, Ok, IsOk, refl, ◌∙◌}
use Rattle.hart_mem.specs.Access.{width_bytes}
use Rattle.hart_mem.specs.declared.access.StoreFault.{StoreFault}
use Rattle.cow_regions.proofs.SharedNumbers.{number-put, width-some}
use Rattle.cow_regions.proofs.numbers.put.Goals as goal

is : (r : Result Unit StoreFault) → r ≡ Ok tt → IsOk r
is r e = rw e refl

pub unwrap-requires : goal.unwrap-requires
unwrap-requires c = is c.store.result (c.store.ensures.answer ∙ number-put c.args.mem.now c.args.address (width_bytes c.args.width) c.requires (width-some c.args.width))
