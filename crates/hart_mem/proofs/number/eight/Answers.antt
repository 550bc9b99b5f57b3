use Rattle.std.proofs.Common.{arith}
use Rattle.hart_mem.specs.Paged.{byte_in}
use Rattle.hart_mem.proofs.Numbers.{loaded_eight}
use Rattle.hart_mem.proofs.number.eight.Goals as goal

pub returns : goal.returns
unfolding byte_in
returns c = omega (arith, c.from_le_bytes.ensures, loaded_eight (byte_in c.args.bytes.now) c.args.at)
