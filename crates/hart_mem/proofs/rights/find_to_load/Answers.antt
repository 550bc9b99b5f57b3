use Rattle.std.proofs.Common.{◌∙◌, sym, ap, Bool}
use Rattle.spec_base.specs.declared.machine.View.TheVariants.{Shadow, Stub}
use Rattle.hart_mem.specs.Places.{found, place_of}
use Rattle.hart_mem.proofs.Grains.{shadow_loads_all, stub_loads_all}
use Rattle.hart_mem.proofs.rights.find_to_load.Goals as goal

pub returns-in-Stub : goal.returns-in-Stub
returns-in-Stub c = rw c.in-Stub.is (c.find_in_stub.ensures ∙ ap (λ (b : Bool). found b (place_of Stub c.args.layout.now c.args.address)) (sym (stub_loads_all c.args.layout.now c.requires.lawful c.args.address c.args.size c.requires.size c.requires.aligned)))

pub returns-in-Shadow : goal.returns-in-Shadow
returns-in-Shadow c = rw c.in-Shadow.is (c.find_shadow_load.ensures ∙ ap (λ (b : Bool). found b (place_of Shadow c.args.layout.now c.args.address)) (sym (shadow_loads_all c.args.layout.now c.requires.lawful c.args.address c.args.size c.requires.size c.requires.aligned)))
