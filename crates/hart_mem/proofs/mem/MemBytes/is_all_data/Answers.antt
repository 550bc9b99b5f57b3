use Rattle.std.proofs.Common.{◌∙◌, ℕ, Bool, ap, sym}
use Rattle.rv_model.specs.Memory.{all_from}
use Rattle.hart_mem.specs.Held.{space_of}
use Rattle.hart_mem.specs.contracts.mem.Mem.{the_view}
use Rattle.hart_mem.proofs.DataBytes.{data-is}
use Rattle.hart_mem.proofs.mem.MemBytes.is_all_data.Goals as goal

pub returns : goal.returns
unfolding space_of
returns c = rw (← c.self.view_is) (c.is_all_data.ensures ∙ ap (λ (test : ℕ → Bool). all_from test c.args.address c.args.count) (sym (data-is (space_of (the_view c.self.inside)))))
