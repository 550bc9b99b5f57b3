use Rattle.rv_model.specs.Memory.{all_from}
use Rattle.rv_model.specs.Rights.{rights_of}
use Rattle.hart_mem.specs.Places.{place_of}
use Rattle.hart_mem.specs.contracts.mem.Mem.{the_view}
use Rattle.hart_mem.proofs.Grains.{found-none, found-some}
use Rattle.hart_mem.proofs.MemLemmas.{load_ok, load_out}
use Rattle.hart_mem.proofs.mem.Mem.load.Goals as goal

pub number-requires-clause-place : goal.number-requires-clause-place
number-requires-clause-place c =
    rw (← c.self.view_is) (found-some (all_from (rights_of c.args.view c.self.inside.layout).load c.args.address c.bytes-size.result) (place_of c.args.view c.self.inside.layout c.args.address) c.in-Some.place c.in-Some.ensures).1

pub number-requires-clause-allowed : goal.number-requires-clause-allowed
number-requires-clause-allowed c =
    rw (← c.self.view_is) (found-some (all_from (rights_of c.args.view c.self.inside.layout).load c.args.address c.bytes-size.result) (place_of c.args.view c.self.inside.layout c.args.address) c.in-Some.place c.in-Some.ensures).0

pub returns-in-None-clause-value : goal.returns-in-None-clause-value
returns-in-None-clause-value c =
    rw (← c.self.view_is, ← c.bytes-size.ensures.value) (load_out (the_view c.self.inside) c.args.view c.args.address c.bytes-size.result c.if-address-size-ne0.false (found-none (all_from (rights_of c.args.view c.self.inside.layout).load c.args.address c.bytes-size.result) (place_of c.args.view c.self.inside.layout c.args.address) c.in-None.ensures))

pub returns-in-Some-clause-value : goal.returns-in-Some-clause-value
returns-in-Some-clause-value c =
    let is = rw (← c.self.view_is) at c.number.ensures.value in
    let all = (found-some (all_from (rights_of c.args.view c.self.inside.layout).load c.args.address c.bytes-size.result) (place_of c.args.view c.self.inside.layout c.args.address) c.in-Some.place c.in-Some.ensures).0 in
    rw (← c.self.view_is, ← c.bytes-size.ensures.value) (load_ok (the_view c.self.inside) c.args.view c.args.address c.bytes-size.result c.if-address-size-ne0.false c.number.result is all)
