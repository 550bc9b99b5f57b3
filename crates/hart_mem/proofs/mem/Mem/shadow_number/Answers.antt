use Rattle.std.proofs.Common.{arith}
use Rattle.hart_mem.specs.contracts.mem.Mem.{the_view}
use Rattle.hart_mem.proofs.Grains.{lawful_is, range_end-below}
use Rattle.hart_mem.proofs.PlaceLemmas.{width_few}
use Rattle.hart_mem.proofs.MemLemmas.{text_inside}
use Rattle.hart_mem.proofs.mem.Mem.shadow_number.Goals as goal

pub text_number-requires-clause-inside : goal.text_number-requires-clause-inside
text_number-requires-clause-inside c =
    let all = rw (← c.self.view_is) at c.requires.allowed in
    rw (← c.self.view_is) (text_inside (the_view c.self.inside) c.self.invariant.0 c.args.address c.args.size c.requires.size all c.if-self-address.false)

pub text_number-requires-clause-fits : goal.text_number-requires-clause-fits
text_number-requires-clause-fits c =
    omega (arith, width_few c.args.size c.requires.size, (lawful_is c.self.inside.layout c.self.invariant.0.lawful).below, range_end-below c.self.inside.layout.version, c.if-self-address.false)
