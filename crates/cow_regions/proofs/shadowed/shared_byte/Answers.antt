use Rattle.cow_regions.proofs.SharedBytes.{byte-loaded, byte-absent}
use Rattle.cow_regions.proofs.shadowed.shared_byte.Goals as goal

pub returns-in-Ok : goal.returns-in-Ok
returns-in-Ok c = byte-loaded c.args.mem.now c.args.address c.requires.above c.requires.below c.in-Ok.number c.in-Ok.ensures.value

pub returns-in-Err : goal.returns-in-Err
returns-in-Err c = byte-absent c.args.mem.now c.args.address c.requires.above c.requires.below _ c.in-Err.ensures.value
