use Rattle.std.proofs.Common.{IsTrue, refl, ap, sym, ◌∙◌, subst}
use Rattle.rv_model.specs.Memory.{all_from}
use Rattle.rv_model.specs.Rights.{is_data}
use Rattle.hart_mem.proofs.tests.filled.Goals as goal

pub fill-requires : goal.fill-requires
unfolding all_from
fill-requires c = subst (λ l. IsTrue (all_from (is_data l) 135164 8)) (sym (ap (λ s. s.layout) c.in_ok-mem.ensures.space ∙ c.layout.ensures)) refl

pub fill-requires-2 : goal.fill-requires-2
unfolding all_from
fill-requires-2 c = refl
