use Rattle.hart_mem.specs.Access.{IsWidth}
use Rattle.std.proofs.Common.{◌∙◌, ℕ, ap, sym, Option, Some}
use Rattle.hart_mem.specs.contracts.mem.Mem.{the_view}
use Rattle.hart_mem.proofs.MemLemmas.{byte_none, byte_some, loaded_one}
use Rattle.hart_mem.proofs.mem.MemBytes.byte.Goals as goal

pub returns-then-not-is_data : goal.returns-then-not-is_data
returns-then-not-is_data c = rw (← c.self.view_is) (byte_none (the_view c.self.inside) c.args.address (sym c.if-not-is_data.ensures))

pub returns : goal.returns
returns c = rw (← c.self.view_is) (ap (λ (x : ℕ). let some : Option ℕ = Some x in some) (c.load.ensures.value ∙ loaded_one _ c.args.address) ∙ byte_some (the_view c.self.inside) c.args.address (sym c.if-not-is_data.ensures))

pub load-requires-clause-size : goal.load-requires-clause-size
load-requires-clause-size c = IsWidth.one
