use Rattle.std.proofs.Common.{◌≡◌, ℕ, Result, Ok, IsOk, refl, ◌∙◌}
use Rattle.rv_model.specs.Memory.{loaded}
use Rattle.hart_mem.specs.Access.{width_bytes}
use Rattle.hart_mem.specs.Held.{space_of}
use Rattle.hart_mem.specs.declared.access.Access.{Access}
use Rattle.cow_regions.proofs.SharedNumbers.{number-loaded, width-some}
use Rattle.cow_regions.proofs.numbers.number.Goals as goal

is : (r : Result ℕ Access) (n : ℕ) → r ≡ Ok n → IsOk r
is r n e = rw e refl

same : (r : Result ℕ Access) (m n : ℕ) → r ≡ Ok m → r ≡ Ok n → m ≡ n
same r m n e f = cc

pub unwrap-requires : goal.unwrap-requires
unwrap-requires c =
    let n : ℕ = width_bytes c.args.width in
    is c.load.result (loaded (space_of c.args.mem.now).shared c.args.address n) (c.load.ensures.value ∙ number-loaded c.args.mem.now c.args.address n c.requires (width-some c.args.width))

pub returns-clause-value : goal.returns-clause-value
returns-clause-value c =
    let n : ℕ = width_bytes c.args.width in
    same c.load.result c.unwrap.result (loaded (space_of c.args.mem.now).shared c.args.address n) c.unwrap.ensures (c.load.ensures.value ∙ number-loaded c.args.mem.now c.args.address n c.requires (width-some c.args.width))
