use Rattle.std.proofs.Common.{◌≡◌, ℕ, Result, Ok, IsOk, refl, ◌∙◌, lit≤}
use Rattle.code_model.specs.Regions.{slots_in_use}
use Rattle.hart_mem.specs.Held.{space_of}
use Rattle.hart_mem.specs.declared.access.Access.{Access}
use Rattle.spec_base.specs.Layout.{list_start}
use Rattle.cow_regions.proofs.SharedNumbers.{count-number, number-loaded}
use Rattle.runner_parts.proofs.shadow.regions_in_use.Goals as goal

is : (r : Result ℕ Access) (n : ℕ) → r ≡ Ok n → IsOk r
is r n e = rw e refl

same : (r : Result ℕ Access) (m n : ℕ) → r ≡ Ok m → r ≡ Ok n → m ≡ n
same r m n e f = cc

pub unwrap-requires : goal.unwrap-requires
unwrap-requires c = is c.load.result (slots_in_use (space_of c.args.mem.now).shared) (c.load.ensures.value ∙ number-loaded c.args.mem.now list_start 8 (count-number (space_of c.args.mem.now).layout) (lit≤ tt))

pub returns : goal.returns
returns c =
    same c.load.result c.unwrap.result (slots_in_use (space_of c.args.mem.now).shared) c.unwrap.ensures (c.load.ensures.value ∙ number-loaded c.args.mem.now list_start 8 (count-number (space_of c.args.mem.now).layout) (lit≤ tt))
