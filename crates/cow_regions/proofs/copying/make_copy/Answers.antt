use Rattle.std.proofs.Common.{◌∙◌, ap, sym}
use Rattle.rv_model.specs.Memory.{Memory}
use Rattle.rv_model.specs.Space.{Space}
use Rattle.hart_mem.specs.Held.{space_of}
use Rattle.cow_regions.proofs.CopyRuns.{lone-new, lone-old}
use Rattle.cow_regions.proofs.copying.make_copy.Goals as goal

pub returns-then-is_uncopied-clause-space : goal.returns-then-is_uncopied-clause-space
returns-then-is_uncopied-clause-space c =
    let s : Space = space_of c.args.mem.now in
    c.copy_region.ensures.space ∙ ap (λ (m : Memory). record s { shared = m }) (sym (lone-new s.layout s.text s.program s.shared c.args.region (sym c.is_uncopied.ensures ∙ c.if-is_uncopied.true)))

pub returns-else-is_uncopied-clause-space : goal.returns-else-is_uncopied-clause-space
returns-else-is_uncopied-clause-space c =
    let s : Space = space_of c.args.mem.now in
    ap (λ (m : Memory). record s { shared = m }) (sym (lone-old s.layout s.text s.program s.shared c.args.region (sym c.is_uncopied.ensures ∙ c.if-is_uncopied.false)))
