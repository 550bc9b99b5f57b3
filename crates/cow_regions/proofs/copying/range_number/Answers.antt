use Rattle.std.proofs.Common.{◌≡◌, ◌+◌, ◌<◌, ℕ, Result, Ok, IsOk, IfOk, refl, subst, ◌∙◌}
use Rattle.spec_base.specs.declared.machine.View.TheVariants.{Shadow}
use Rattle.rv_model.specs.Memory.{Memory, loaded}
use Rattle.rv_model.specs.Space.{sees}
use Rattle.hart_mem.specs.Held.{space_of}
use Rattle.hart_mem.specs.declared.access.Access.{Access}
use Rattle.cow_regions.proofs.RangeBytes.{range-loaded, range-byte}
use Rattle.cow_regions.proofs.copying.range_number.Goals as goal

is : (r : Result ℕ Access) (n : ℕ) → r ≡ Ok n → IsOk r
is r n e = rw e refl

same : (r : Result ℕ Access) (m n : ℕ) → r ≡ Ok m → r ≡ Ok n → m ≡ n
same r m n e f = cc

pub unwrap-requires : goal.unwrap-requires
unwrap-requires c = is c.load.result (loaded (sees Shadow (space_of c.args.mem.now)) c.args.address 8) (c.load.ensures.value ∙ range-loaded c.args.mem.now c.args.address 8 c.requires.inside c.requires.aligned)

pub returns : goal.returns
returns c =
    let m : Memory = sees Shadow (space_of c.args.mem.now) in
    let value : c.unwrap.result ≡ loaded m c.args.address 8 =
    same c.load.result c.unwrap.result (loaded m c.args.address 8) c.unwrap.ensures (c.load.ensures.value ∙ range-loaded c.args.mem.now c.args.address 8 c.requires.inside c.requires.aligned) in
    let small : (i : ℕ) → i < 8 → m (c.args.address + i) < 256 = subst (λ (r : Result ℕ Access). IfOk r (λ number. (i : ℕ) → i < 8 → m (c.args.address + i) < 256)) c.unwrap.ensures c.load.ensures.bytes in
    range-byte c.args.mem.now c.args.address 8 c.requires.inside c.unwrap.result value small
