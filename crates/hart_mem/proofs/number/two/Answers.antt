use Rattle.std.proofs.Common.{arith}
use Rattle.hart_mem.specs.Paged.{byte_in}
use Rattle.hart_mem.proofs.Numbers.{loaded_two}
use Rattle.hart_mem.proofs.number.two.Goals as goal

pub returns : goal.returns
unfolding byte_in
returns c = omega (arith, c.from_le_bytes.ensures, loaded_two (byte_in c.args.bytes.now) c.args.at)
