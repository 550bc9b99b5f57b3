use Rattle.std.proofs.Common.{◌+◌, ◌*◌, ◌^◌, ◌<◌, ℕ, get_or, List, arith}
use Rattle.rv_model.specs.Memory.{loaded}
use Rattle.hart_mem.specs.Paged.{byte_in}
use Rattle.hart_mem.proofs.Numbers.{loaded_byte, loaded_fits}
use Rattle.hart_mem.proofs.number.number.Goals as goal

are_bytes : (bs : List ℕ) → ((i : ℕ) → get_or bs i 0 < 256) → (i : ℕ) → byte_in bs i < 256
unfolding byte_in
are_bytes bs h i = h i

pub returns-in-1-clause-value : goal.returns-in-1-clause-value
unfolding byte_in
returns-in-1-clause-value c = rw c.in-1.is (loaded_byte (byte_in c.args.bytes.now) c.args.at)

pub returns-in-1-clause-bytes : goal.returns-in-1-clause-bytes
returns-in-1-clause-bytes c = λ i h. are_bytes c.args.bytes.now (λ k. omega (arith, c.type_inv.bytes k)) (c.args.at + i)

pub returns-in-2-clause-bytes : goal.returns-in-2-clause-bytes
returns-in-2-clause-bytes c = λ i h. are_bytes c.args.bytes.now (λ k. omega (arith, c.type_inv.bytes k)) (c.args.at + i)

pub returns-in-4-clause-bytes : goal.returns-in-4-clause-bytes
returns-in-4-clause-bytes c = λ i h. are_bytes c.args.bytes.now (λ k. omega (arith, c.type_inv.bytes k)) (c.args.at + i)

pub returns-in_default-clause-bytes : goal.returns-in_default-clause-bytes
returns-in_default-clause-bytes c = λ i h. are_bytes c.args.bytes.now (λ k. omega (arith, c.type_inv.bytes k)) (c.args.at + i)

pub returns-in-2-clause-bound : goal.returns-in-2-clause-bound
returns-in-2-clause-bound c =
    let few : loaded (byte_in c.args.bytes.now) c.args.at 2 < 2 ^ (8 * 2) = loaded_fits (byte_in c.args.bytes.now) 2 c.args.at (are_bytes _ (λ i. omega (arith, c.type_inv.bytes i))) in
    rw (c.two.ensures, c.in-2.is) few

pub returns-in-4-clause-bound : goal.returns-in-4-clause-bound
returns-in-4-clause-bound c =
    let few : loaded (byte_in c.args.bytes.now) c.args.at 4 < 2 ^ (8 * 4) = loaded_fits (byte_in c.args.bytes.now) 4 c.args.at (are_bytes _ (λ i. omega (arith, c.type_inv.bytes i))) in
    rw (c.four.ensures, c.in-4.is) few
